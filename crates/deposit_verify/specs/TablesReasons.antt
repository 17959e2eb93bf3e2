-- Why a deposit fails the checks of counts and of references: the first place at which it fails them.
use Rattle.std.specs.Prelude.{◌≡◌, ◌≢◌, ◌<◌, ◌↔◌, ◌⊎◌, ℕ, true, false, Bool, List, [], ◌∷◌, All, Contains, Some, length, map, slice_get, slice_index_or, take}
use Rattle.std.specs.List.{AllZip}
use Rattle.std.specs.Option.{IsSomeAnd}
use Rattle.deposit_name.specs.declared.kinds.Kind.TheVariants.{Full}
use Rattle.deposit_name.specs.declared.table.TableName.{TableName}
use Rattle.deposit_name.specs.declared.table.TableName.TheVariants.{Domain, DomainContacts, DomainStatuses, DomainNameServers, Host, HostAddresses, Contact, Registrar}
use Rattle.desk.specs.declared.checks.Check.{Check}
use Rattle.desk.specs.declared.checks.Check.TheVariants as check
use Rattle.envelope.specs.Envelope.{Env}
use Rattle.envelope.specs.declared.envelope.Count.{Count}
use Rattle.deposit_verify.specs.declared.base.Base.{Base}
use Rattle.deposit_verify.specs.declared.breaches.Breach.{Breach}
use Rattle.deposit_verify.specs.declared.breaches.Rule.{Rule}
use Rattle.deposit_verify.specs.declared.tables_reason.NoKey.{NoKey}
use Rattle.deposit_verify.specs.declared.tables_reason.TablesReason.{TablesReason}
use Rattle.deposit_verify.specs.declared.tables_reason.TablesReason.TheVariants as reason
use Rattle.deposit_verify.specs.declared.tables_reason.WrongCount.{WrongCount}
use Rattle.deposit_verify.specs.Checks.{HasTables, counted_tables}
use Rattle.deposit_verify.specs.Keys.{IsKeyAfter, IsNumberOf, keys_in}
use Rattle.deposit_verify.specs.Known.{Known}
use Rattle.deposit_verify.specs.Places.{table_place}
use Rattle.deposit_verify.specs.References.{AreReferencesKept, IsKeyIn, column}

-- ---- check 11: counts

-- what is said of the counted tables, in their order
abbrev pub said_counts : List Count → List ℕ
said_counts counts = map (λ c. c.count) counts

-- how many rows the counted tables have
abbrev pub row_numbers : (TableName → List (List (List ℕ))) → List ℕ
row_numbers tables = map (λ name. length (tables name)) counted_tables

-- how many keys the counted tables have after the deposit
abbrev pub AreKeyNumbers : Env → List ℕ → Base → List ℕ → Type 0
AreKeyNumbers v rest base numbers = AllZip (λ name n. IsNumberOf (IsKeyAfter v rest (keys_in base name) name) n) counted_tables numbers

-- the first count that is not the number that is there
pub record IsFirstWrong (there said : List ℕ) (wrong : WrongCount) : Type 0 where
  pub said_right : slice_get said wrong.place ≡ Some wrong.said
  pub there_right : slice_get there wrong.place ≡ Some wrong.there
  pub differs : wrong.said ≢ wrong.there
  pub before : take wrong.place said ≡ take wrong.place there

-- of a full deposit, the first that is not the number of the rows
abbrev pub IsWrongRowCount : Env → List ℕ → WrongCount → Type 0
IsWrongRowCount v rest wrong = HasTables v rest (λ tables. IsFirstWrong (row_numbers tables) (said_counts v.count) wrong)

-- of any other, the first that is not the number of the keys after it, where those before it are known
abbrev pub IsWrongKeyCount : Env → List ℕ → Base → WrongCount → Type 0
IsWrongKeyCount v rest base wrong = (numbers : List ℕ) × AreKeyNumbers v rest base numbers × IsFirstWrong numbers (said_counts v.count) wrong

pub record IsWrongCount (v : Env) (rest : List ℕ) (known : Known) (wrong : WrongCount) : Type 0 where
  pub of_full : v.kind ≡ Full → IsWrongRowCount v rest wrong
  pub of_others : v.kind ≢ Full → IsSomeAnd known.base (λ base. IsWrongKeyCount v rest base wrong)

-- ---- check 12: references

abbrev pub rule : TableName → ℕ → TableName → Bool → Rule
rule table column of may_be_empty = record { table = table; column = column; of = of; may_be_empty = may_be_empty }

-- which fields name the keys of which table, by table, then by column; the registrant of a domain may be left out
abbrev pub reference_rules : List Rule
reference_rules =
    rule Domain 2 Contact true
    ∷ rule Domain 3 Registrar false
    ∷ rule DomainContacts 0 Domain false
    ∷ rule DomainContacts 2 Contact false
    ∷ rule DomainStatuses 0 Domain false
    ∷ rule DomainNameServers 0 Domain false
    ∷ rule DomainNameServers 1 Host false
    ∷ rule Host 2 Registrar false
    ∷ rule HostAddresses 0 Host false
    ∷ rule Contact 2 Registrar false
    ∷ []

-- the field of a row that a rule is about
abbrev pub field_of : (TableName → List (List (List ℕ))) → Rule → ℕ → List ℕ
field_of tables r row = slice_index_or (slice_index_or (tables r.table) row []) r.column []

-- a row keeps a rule, and each row does
abbrev pub IsKeptAt : (TableName → List (List (List ℕ))) → Rule → ℕ → Type 0
IsKeptAt tables r row = IsKeyIn r.may_be_empty (column 0 (tables r.of)) (field_of tables r row)

abbrev pub IsKept : (TableName → List (List (List ℕ))) → Rule → Type 0
IsKept tables r = (row : ℕ) → row < length (tables r.table) → IsKeptAt tables r row

-- the order of places: by table, then by row, then by column
abbrev pub IsBefore : Breach → Breach → Type 0
IsBefore one other =
    table_place one.rule.table < table_place other.rule.table
    ⊎ (one.rule.table ≡ other.rule.table) × (one.row < other.row ⊎ (one.row ≡ other.row) × one.rule.column < other.rule.column)

-- the first place that breaks one of some rules
pub record IsFirstBreach (tables : TableName → List (List (List ℕ))) (rules : List Rule) (breach : Breach) : Type 0 where
  pub among : Contains rules breach.rule
  pub inside : breach.row < length (tables breach.rule.table)
  pub broken : ¬ IsKeptAt tables breach.rule breach.row
  pub before : (other : Breach) → Contains rules other.rule → other.row < length (tables other.rule.table) → IsBefore other breach → IsKeptAt tables other.rule other.row

-- a field that names a key that is not there, at this place
pub record IsNoKeyAt (tables : TableName → List (List (List ℕ))) (breach : Breach) (missing : NoKey) : Type 0 where
  pub table_right : missing.table ≡ breach.rule.table
  pub row_right : missing.row ≡ breach.row
  pub column_right : missing.column ≡ breach.rule.column
  pub of_right : missing.of ≡ breach.rule.of
  pub key_right : missing.key.items ≡ field_of tables breach.rule breach.row

-- the first one
abbrev pub IsFirstNoKey : (TableName → List (List (List ℕ))) → NoKey → Type 0
IsFirstNoKey tables missing = (breach : Breach) × IsFirstBreach tables reference_rules breach × IsNoKeyAt tables breach missing

-- of a full deposit
abbrev pub IsNoKey : Env → List ℕ → NoKey → Type 0
IsNoKey v rest missing = (v.kind ≡ Full) × HasTables v rest (λ tables. IsFirstNoKey tables missing)

-- The rules say the same as the sentences on registrars, contacts, domains and hosts.
abbrev pub AreRulesOfReferences : Type 0
AreRulesOfReferences = (tables : TableName → List (List (List ℕ))) → AreReferencesKept tables ↔ All (IsKept tables) reference_rules

-- ---- of both checks

-- the check that a deposit fails for this reason
abbrev pub tables_check : TablesReason → Check
tables_check (reason.Count wrong) = check.Counts
tables_check (reason.Reference missing) = check.References

-- the reason tells the place of the deposit
abbrev pub IsTablesPlace : Env → List ℕ → Known → TablesReason → Type 0
IsTablesPlace v rest known (reason.Count wrong) = IsWrongCount v rest known wrong
IsTablesPlace v rest known (reason.Reference missing) = IsNoKey v rest missing
