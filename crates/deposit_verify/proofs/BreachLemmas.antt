-- The first place that breaks a rule of references.
use Rattle.std.proofs.Common.{◌≡◌, ◌<◌, ◌↔◌, ◌⊎◌, ◌++◌, ◌∷◌, ◌∙◌, [], ℕ, true, false, All, Bool, Contains, List, Option, Some, None, ap, arith, get_or, inl, inr, length, refl, subst, sym}
use Rattle.std.specs.Prelude.{MatchOption}
use Rattle.std.proofs.lemmas.Bool.{cases_order}
use Rattle.std.proofs.lemmas.List.Elements.{All-append, All-cons, All-contains, All-from_recursion, All-nil, Contains-append_cases, Contains-append_left, Contains-append_right, Contains-push_cases}
use Rattle.deposit_name.specs.declared.table.TableName.{TableName}
use Rattle.deposit_name.specs.declared.table.TableName.TheVariants.{Domain, DomainContacts, DomainStatuses, DomainNameServers, Host, HostAddresses, Contact, Registrar}
use Rattle.dnrd_csv.specs.Table.{columns_of}
use Rattle.deposit_verify.specs.declared.breaches.Breach.{Breach}
use Rattle.deposit_verify.specs.declared.breaches.Rule.{Rule}
use Rattle.deposit_verify.specs.declared.tables_reason.NoKey.{NoKey}
use Rattle.deposit_verify.specs.Places.{table_place}
use Rattle.deposit_verify.specs.References.{AreReferencesKept, IsKeyIn, column}
use Rattle.deposit_verify.specs.TablesReasons.{AreRulesOfReferences, IsBefore, IsFirstBreach, IsFirstNoKey, IsKept, IsKeptAt, reference_rules, rule}
use Rattle.deposit_verify.specs.inside.Reasons.{IsFirstFound, IsFirstRow}
use Rattle.deposit_verify.proofs.Columns.{column_at, get_or-column, length-column}
use Rattle.deposit_verify.proofs.HeaderDecided.{same_place}

-- the same keys in another order
pub same_in : (may : Bool) (xs ys : List (List ℕ)) (text : List ℕ) → Contains xs text ↔ Contains ys text → IsKeyIn may xs text ↔ IsKeyIn may ys text
same_in false xs ys text same = same
same_in true xs ys text same = (λ h some. same.0 (h some), λ h some. same.1 (h some))

-- ---- the order of places

record SamePlace (one other : Breach) : Type 0 where
  table : one.rule.table ≡ other.rule.table
  row : one.row ≡ other.row
  column : one.rule.column ≡ other.rule.column

before_before : (a b c : Breach) → IsBefore a b → IsBefore b c → IsBefore a c
before_before a b c (inl p) (inl q) = inl (omega arith)
before_before a b c (inl p) (inr q) = inl (omega (arith, p, ap table_place q.0))
before_before a b c (inr p) (inl q) = inl (omega (arith, q, ap table_place p.0))
before_before a b c (inr p) (inr q) = inr (p.0 ∙ q.0, rows p.1 q.1)
  where
    rows : (a.row < b.row ⊎ (a.row ≡ b.row) × a.rule.column < b.rule.column) → (b.row < c.row ⊎ (b.row ≡ c.row) × b.rule.column < c.rule.column)
        → a.row < c.row ⊎ (a.row ≡ c.row) × a.rule.column < c.rule.column
    rows (inl p) (inl q) = inl (omega arith)
    rows (inl p) (inr q) = inl (omega (arith, p, q.0))
    rows (inr p) (inl q) = inl (omega (arith, q, p.0))
    rows (inr p) (inr q) = inr (p.0 ∙ q.0, omega (arith, p.1, q.1))

same_before : (a b c : Breach) → SamePlace a b → IsBefore b c → IsBefore a c
same_before a b c same (inl q) = inl (omega (arith, q, ap table_place same.table))
same_before a b c same (inr q) = inr (same.table ∙ q.0, rows q.1)
  where
    rows : (b.row < c.row ⊎ (b.row ≡ c.row) × b.rule.column < c.rule.column) → a.row < c.row ⊎ (a.row ≡ c.row) × a.rule.column < c.rule.column
    rows (inl q) = inl (omega (arith, q, same.row))
    rows (inr q) = inr (same.row ∙ q.0, omega (arith, q.1, same.column))

in_order : (a b : Breach) → IsBefore a b ⊎ (IsBefore b a ⊎ SamePlace a b)
in_order a b = tables (cases_order (table_place a.rule.table) (table_place b.rule.table))
  where
    columns : a.rule.table ≡ b.rule.table → a.row ≡ b.row → (a.rule.column ≡ b.rule.column) ⊎ ((a.rule.column < b.rule.column) ⊎ (b.rule.column < a.rule.column)) → IsBefore a b ⊎ (IsBefore b a ⊎ SamePlace a b)
    columns t r (inl same) = inr (inr (record { table = t; row = r; column = same }))
    columns t r (inr (inl less)) = inl (inr (t, inr (r, less)))
    columns t r (inr (inr more)) = inr (inl (inr (sym t, inr (sym r, more))))

    rows : a.rule.table ≡ b.rule.table → (a.row ≡ b.row) ⊎ ((a.row < b.row) ⊎ (b.row < a.row)) → IsBefore a b ⊎ (IsBefore b a ⊎ SamePlace a b)
    rows t (inl same) = columns t same (cases_order a.rule.column b.rule.column)
    rows t (inr (inl less)) = inl (inr (t, inl less))
    rows t (inr (inr more)) = inr (inl (inr (sym t, inl more)))

    tables : (table_place a.rule.table ≡ table_place b.rule.table) ⊎ ((table_place a.rule.table < table_place b.rule.table) ⊎ (table_place b.rule.table < table_place a.rule.table)) → IsBefore a b ⊎ (IsBefore b a ⊎ SamePlace a b)
    tables (inl same) = rows (same_place a.rule.table b.rule.table same) (cases_order a.row b.row)
    tables (inr (inl less)) = inl (inl less)
    tables (inr (inr more)) = inr (inl (inl more))

-- ---- the first of some places

module _ (tables : TableName → List (List (List ℕ))) where
  -- some rules are kept before a place
  abbrev AreKeptBefore : List Rule → Breach → Type 0
  AreKeptBefore rules breach = (other : Breach) → Contains rules other.rule → other.row < length (tables other.rule.table) → IsBefore other breach → IsKeptAt tables other.rule other.row

  kept_before : (rules : List Rule) (breach : Breach) → All (IsKept tables) rules → AreKeptBefore rules breach
  kept_before rules breach all other has inside before = All-contains (IsKept tables) rules other.rule all has other.row inside

  both_before : (some more : List Rule) (breach : Breach) → AreKeptBefore some breach → AreKeptBefore more breach → AreKeptBefore (some ++ more) breach
  both_before some more breach one two other has inside before = elim (Contains-append_cases some more other.rule has) [
    | inl here ↦ one other here inside before
    | inr there ↦ two other there inside before
  ]

  -- what is before a place that is not behind the first of some rules
  not_later : (rules : List Rule) (first breach : Breach) → IsFirstBreach tables rules first → ¬ IsBefore first breach → AreKeptBefore rules breach
  not_later rules first breach is none other has inside before = elim (in_order other first) [
    | inl less ↦ is.before other has inside less
    | inr (inl later) ↦ absurd (none (before_before first other breach later before))
    | inr (inr same) ↦ absurd (none (same_before first other breach (record { table = sym same.table; row = sym same.row; column = sym same.column }) before))
  ]

  sooner : (rules : List Rule) (first breach : Breach) → IsFirstBreach tables rules first → IsBefore breach first → AreKeptBefore rules breach
  sooner rules first breach is less other has inside before = is.before other has inside (before_before other breach first before less)

  in_some : (some more : List Rule) (breach : Breach) → IsFirstBreach tables some breach → AreKeptBefore more breach → IsFirstBreach tables (some ++ more) breach
  in_some some more breach is kept = record {
    among = Contains-append_left some more breach.rule is.among;
    inside = is.inside;
    broken = is.broken;
    before = both_before some more breach is.before kept;
  }

  in_more : (some more : List Rule) (breach : Breach) → AreKeptBefore some breach → IsFirstBreach tables more breach → IsFirstBreach tables (some ++ more) breach
  in_more some more breach kept is = record {
    among = Contains-append_right some more breach.rule is.among;
    inside = is.inside;
    broken = is.broken;
    before = both_before some more breach kept is.before;
  }

  pub other_first : (some more : List Rule) (one other : Breach) → IsFirstBreach tables some one → IsFirstBreach tables more other → IsBefore other one → IsFirstBreach tables (some ++ more) other
  other_first some more one other is too less = in_more some more other (sooner some one other is less) too

  pub one_first : (some more : List Rule) (one other : Breach) → IsFirstBreach tables some one → IsFirstBreach tables more other → ¬ IsBefore other one → IsFirstBreach tables (some ++ more) one
  one_first some more one other is too none = in_some some more one is (not_later more other one too none)

  pub only_one : (some more : List Rule) (one : Breach) → IsFirstBreach tables some one → All (IsKept tables) more → IsFirstBreach tables (some ++ more) one
  only_one some more one is kept = in_some some more one is (kept_before more one kept)

  pub only_other : (some more : List Rule) (found : Option Breach) → All (IsKept tables) some → IsFirstFound tables more found → IsFirstFound tables (some ++ more) found
  only_other some more None kept all = All-append (IsKept tables) some more kept all
  only_other some more (Some other) kept is = in_more some more other (kept_before some other kept) is

  -- the first row that breaks a rule
  pub row_first : (r : Rule) (row : ℕ) → IsFirstRow tables r row → IsFirstBreach tables (r ∷ []) (record { rule = r; row = row })
  row_first r row is = record {
    among = (0, omega arith, refl);
    inside = is.inside;
    broken = is.broken;
    before = λ other has inside before. elim (Contains-push_cases [] r other.rule has) [
      | inl none ↦ absurd (omega (arith, none.1))
      | inr same ↦ subst (λ (q : Rule). IsKeptAt tables q other.row) same (is.before other.row (earlier other (ap (λ (q : Rule). q.table) same) (ap (λ (q : Rule). q.column) same) before))
    ];
  }
    where
      in_rows : (other : Breach) → r.column ≡ other.rule.column → (other.row < row ⊎ (other.row ≡ row) × other.rule.column < r.column) → other.row < row
      in_rows other e (inl less) = less
      in_rows other e (inr q) = absurd (omega (arith, q.1, e))

      earlier : (other : Breach) → r.table ≡ other.rule.table → r.column ≡ other.rule.column → IsBefore other (record { rule = r; row = row }) → other.row < row
      earlier other t e (inl less) = absurd (omega (arith, less, ap table_place t))
      earlier other t e (inr q) = in_rows other e q.1

  pub rule_kept : (r : Rule) → IsKept tables r → All (IsKept tables) (r ∷ [])
  rule_kept r kept = All-cons (IsKept tables) r [] kept (All-nil (IsKept tables))

  -- ---- the rules, and what they say

  column_kept : (r : Rule) → IsKept tables r → All (IsKeyIn r.may_be_empty (column 0 (tables r.of))) (column r.column (tables r.table))
  column_kept r kept = λ n d placed.
      let inside : n < length (tables r.table) = omega (arith, placed, length-column r.column (tables r.table)) in
      subst (IsKeyIn r.may_be_empty (column 0 (tables r.of))) (sym (get_or-column r.column (tables r.table) n d inside)) (kept n inside)

  kept_column : (r : Rule) → All (IsKeyIn r.may_be_empty (column 0 (tables r.of))) (column r.column (tables r.table)) → IsKept tables r
  kept_column r all = λ row inside. column_at (IsKeyIn r.may_be_empty (column 0 (tables r.of))) r.column (tables r.table) row inside all

  -- a rule among those of references is kept
  kept_at : All (IsKept tables) reference_rules → (i : ℕ) (d : Rule) → i < 10 → IsKept tables (get_or reference_rules i d)
  kept_at all i d inside = all i d inside

pub rules_of_references : AreRulesOfReferences
rules_of_references tables = (there, back)
  where
    kept : (r : Rule) → All (IsKeyIn r.may_be_empty (column 0 (tables r.of))) (column r.column (tables r.table)) → IsKept tables r
    kept = kept_column tables

    there : AreReferencesKept tables → All (IsKept tables) reference_rules
    there h = All-from_recursion (IsKept tables) reference_rules (
      kept (rule Domain 2 Contact true) h.contacts.registrants,
      (
        kept (rule Domain 3 Registrar false) h.registrars.of_domains,
        (
          kept (rule DomainContacts 0 Domain false) h.domains.of_contacts,
          (
            kept (rule DomainContacts 2 Contact false) h.contacts.of_domains,
            (
              kept (rule DomainStatuses 0 Domain false) h.domains.of_statuses,
              (
                kept (rule DomainNameServers 0 Domain false) h.domains.of_name_servers,
                (
                  kept (rule DomainNameServers 1 Host false) h.hosts.of_name_servers,
                  (
                    kept (rule Host 2 Registrar false) h.registrars.of_hosts,
                    (
                      kept (rule HostAddresses 0 Host false) h.hosts.of_addresses,
                      (
                        kept (rule Contact 2 Registrar false) h.registrars.of_contacts,
                        tt,
                      ),
                    ),
                  ),
                ),
              ),
            ),
          ),
        ),
      ),
    )

    none : Rule
    none = rule Domain 0 Domain false

    back : All (IsKept tables) reference_rules → AreReferencesKept tables
    back all = record {
      registrars = record {
        of_domains = column_kept tables (rule Domain 3 Registrar false) (all 1 none (omega arith));
        of_hosts = column_kept tables (rule Host 2 Registrar false) (all 7 none (omega arith));
        of_contacts = column_kept tables (rule Contact 2 Registrar false) (all 9 none (omega arith));
      };
      contacts = record {
        registrants = column_kept tables (rule Domain 2 Contact true) (all 0 none (omega arith));
        of_domains = column_kept tables (rule DomainContacts 2 Contact false) (all 3 none (omega arith));
      };
      domains = record {
        of_contacts = column_kept tables (rule DomainContacts 0 Domain false) (all 2 none (omega arith));
        of_statuses = column_kept tables (rule DomainStatuses 0 Domain false) (all 4 none (omega arith));
        of_name_servers = column_kept tables (rule DomainNameServers 0 Domain false) (all 5 none (omega arith));
      };
      hosts = record {
        of_name_servers = column_kept tables (rule DomainNameServers 1 Host false) (all 6 none (omega arith));
        of_addresses = column_kept tables (rule HostAddresses 0 Host false) (all 8 none (omega arith));
      };
    }

-- there is a rule that is broken
pub broken_first : (tables : TableName → List (List (List ℕ))) (breach : Breach) → IsFirstBreach tables reference_rules breach → ¬ AreReferencesKept tables
broken_first tables breach is kept =
    is.broken (All-contains (IsKept tables) reference_rules breach.rule ((rules_of_references tables).0 kept) is.among breach.row is.inside)

-- the first key that is not there, or none, tells whether references are kept
pub found_decides : (tables : TableName → List (List (List ℕ))) (found : Option NoKey) → MatchOption found (All (IsKept tables) reference_rules) (IsFirstNoKey tables)
    → MatchOption found (AreReferencesKept tables) (λ missing. IsFirstNoKey tables missing × (¬ AreReferencesKept tables))
found_decides tables None kept = (rules_of_references tables).1 kept
found_decides tables (Some missing) first = (first, broken_first tables first.0 first.1)

-- each rule is about a column that its table has
pub rule_columns : All (λ (r : Rule). r.column < length (columns_of r.table)) reference_rules
rule_columns = All-from_recursion (λ (r : Rule). r.column < length (columns_of r.table)) reference_rules
    (omega arith, (omega arith, (omega arith, (omega arith, (omega arith, (omega arith, (omega arith, (omega arith, (omega arith, (omega arith, tt))))))))))
