-- The keys of a chain of deposits as a function of their bytes. Only its law is used: `AreBases`, which says it by `IsBase`.
use Rattle.std.specs.Prelude.{◌≡◌, ℕ, List, [], ◌∷◌, Option, Some, None, if◌then◌else◌, fold, map, option_and_then}
use Rattle.dnrd_csv.specs.Text.{key_rows}
use Rattle.deposit_name.specs.declared.table.TableName.TheVariants.{Domain, Host, Contact, Registrar}
use Rattle.deposit_name.specs.declared.table.TableName.{TableName}
use Rattle.envelope.specs.Envelope.{Env}
use Rattle.envelope.specs.Readers.{envelope_at, frame_at}
use Rattle.deposit_verify.specs.declared.base.Base.{Base}
use Rattle.deposit_verify.specs.Chain.{IsBase, IsChain}
use Rattle.deposit_verify.specs.Keys.{keys_in}
use Rattle.deposit_verify.specs.Verdict.{files_reading_at, has_menu, is_full, keys_after_files}

-- a deposit as it is read
pub record DepositReading : Type 0 where
  pub envelope : Env
  pub tables : List (List (List (List ℕ)))
  pub deleted : List (List (List (List ℕ)))

abbrev pub reading_with : Env → Option (List (List (List (List ℕ)))) → Option (List (List (List (List ℕ)))) → Option DepositReading
reading_with v None deleted = None
reading_with v (Some tables) None = None
reading_with v (Some tables) (Some deleted) = Some (record { envelope = v; tables = tables; deleted = deleted })

abbrev pub reading_behind : List ℕ → Env → Option DepositReading
reading_behind rest v = if has_menu v then reading_with v (files_reading_at v rest).tables (files_reading_at v rest).deleted else None

-- the same of what stands in memory
abbrev pub reading_of : Env → List (List (List (List ℕ))) → List (List (List ℕ)) → DepositReading
reading_of v tables deleted = record { envelope = v; tables = tables; deleted = map key_rows deleted }

-- the deposit as it is read, where it is
unfoldable pub reading_at : List ℕ → Option DepositReading
reading_at joined = option_and_then (λ parts. option_and_then (reading_behind parts.1) (envelope_at parts.0)) (frame_at joined)

-- no keys
abbrev pub no_keys : Base
no_keys = record { contacts = []; domains = []; hosts = []; registrars = [] }

-- the keys of a table after a deposit
abbrev pub table_after : Base → DepositReading → TableName → List (List ℕ)
table_after base r name = keys_after_files r.envelope (keys_in base name) r.tables r.deleted name

abbrev pub base_after : Base → DepositReading → Base
base_after base r = record {
  contacts = table_after base r Contact;
  domains = table_after base r Domain;
  hosts = table_after base r Host;
  registrars = table_after base r Registrar;
}

-- the keys after the first deposit of a chain, and after a later one
abbrev pub after_first : DepositReading → Option Base
after_first r = if is_full r.envelope.kind then Some (base_after no_keys r) else None

abbrev pub after_later : Base → DepositReading → Option Base
after_later base r = if is_full r.envelope.kind then None else Some (base_after base r)

abbrev pub base_of_first : List ℕ → Option Base
base_of_first joined = option_and_then after_first (reading_at joined)

abbrev pub base_then : Base → List ℕ → Option Base
base_then base joined = option_and_then (after_later base) (reading_at joined)

abbrev pub all_then : Option Base → List (List ℕ) → Option Base
all_then base later = fold (λ found joined. option_and_then (λ base. base_then base joined) found) base later

-- the keys of a chain
unfoldable pub base_at : List (List ℕ) → Option Base
base_at [] = None
base_at (first ∷ later) = all_then (base_of_first first) later

-- It gives keys just of chains, and these are the keys of the chain.
pub record AreBases : Type 0 where
  pub some : (chain : List (List ℕ)) (base : Base) → base_at chain ≡ Some base → IsBase chain base
  pub none : (chain : List (List ℕ)) → base_at chain ≡ None → ¬ IsChain chain
