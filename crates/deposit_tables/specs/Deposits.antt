-- A registry's deposits, each of what has changed, and their checks.
use Rattle.std.specs.Prelude.{◌≡◌, ◌≢◌, ◌↔◌, ⊤, ℕ, List, [], ◌∷◌, ◌++◌, Contains, Some, length, map}
use Rattle.deposit_name.specs.declared.kinds.Kind.TheVariants.{Full}
use Rattle.deposit_name.specs.declared.table.TableName.{TableName}
use Rattle.deposit_verify.specs.Chain.{IsBase, IsChain}
use Rattle.deposit_verify.specs.Checks.{AreRowCounts, counted_tables}
use Rattle.deposit_verify.specs.Deposit.{HasEnvelope}
use Rattle.deposit_verify.specs.Known.{Known}
use Rattle.deposit_verify.specs.Numbers.{numbers_in}
use Rattle.deposit_verify.specs.Verdict.{verdict}
use Rattle.deposit_verify.specs.declared.base.Base.{Base}
use Rattle.deposit_verify.specs.declared.verdict.Verdict.TheVariants.{Pass}
use Rattle.deposit_pack.specs.Packable.{IsPackable}
use Rattle.deposit_pack.specs.Packing.{Objects, contents_rows, packed}
use Rattle.deposit_pack.specs.declared.source.Attributes.{Attributes}
use Rattle.deposit_tables.specs.Changes.{AreChanges}
use Rattle.deposit_tables.specs.Restored.{AreTablesOf, HasRowsOf}
use Rattle.deposit_tables.specs.Unchanged.{IsAmong}

-- ---- deposits that a registry packs

-- a deposit, and the tables of the registry when it was packed
pub record PackedDeposit : Type 0 where
  pub attributes : Attributes
  pub objects : Objects
  pub before : Base
  pub tables : TableName → List (List (List ℕ))

abbrev pub packed_bytes : PackedDeposit → List ℕ
packed_bytes d = packed d.attributes d.objects d.before

abbrev pub MayBePacked : PackedDeposit → Type 0
MayBePacked d = IsPackable d.attributes d.objects d.before

-- it contains the tables whole
abbrev pub IsWhole : PackedDeposit → Type 0
IsWhole d = (name : TableName) (row : List (List ℕ)) → Contains (contents_rows d.objects name) row ↔ Contains (d.tables name) row

-- each is of what has changed since the tables before it, and, if it is incremental, since those of the full one
abbrev pub AreOfChanges : (TableName → List (List (List ℕ))) → List PackedDeposit → Type 0
AreOfChanges old [] = ⊤
AreOfChanges old (d ∷ ds) = ((olds : List (TableName → List (List (List ℕ)))) × IsAmong old olds × AreChanges olds d.tables d.objects) × MayBePacked d × AreOfChanges d.tables ds

-- the tables of the last one
abbrev pub last_tables : (TableName → List (List (List ℕ))) → List PackedDeposit → TableName → List (List (List ℕ))
last_tables old [] = old
last_tables old (d ∷ ds) = last_tables d.tables ds

-- A full deposit of a registry's tables, and then at each time one of what has changed since the last, have the tables of the last time.
abbrev pub AreDepositsRestored : Type 0
AreDepositsRestored = (first : PackedDeposit) (later : List PackedDeposit) → MayBePacked first → IsWhole first → AreOfChanges first.tables later
    → HasRowsOf (map packed_bytes (first ∷ later)) (last_tables first.tables later)

-- ---- deposits that pass

-- Deposits that pass, the first full and the others not, are a chain; and after a chain there are as many rows of each counted table as there are keys, which is what the header of a later one that passes says.
pub record ArePassedRestored : Type 0 where
  pub first : (joined : List ℕ) (known : Known) → verdict joined known ≡ Pass → known.name.kind ≡ Full → IsChain (joined ∷ [])
  pub later : (chain : List (List ℕ)) (joined : List ℕ) (known : Known) → IsChain chain → verdict joined known ≡ Pass → known.name.kind ≢ Full → IsChain (chain ++ joined ∷ [])
  pub numbers : (chain : List (List ℕ)) (base : Base) (tables : TableName → List (List (List ℕ))) → IsBase chain base → AreTablesOf chain tables
      → numbers_in base ≡ map (λ name. length (tables name)) counted_tables
  pub counts : (chain : List (List ℕ)) (joined : List ℕ) (known : Known) (base : Base) (tables : TableName → List (List (List ℕ))) → IsBase chain base → known.base ≡ Some base
      → verdict joined known ≡ Pass → known.name.kind ≢ Full → AreTablesOf (chain ++ joined ∷ []) tables → HasEnvelope joined (λ v rest. AreRowCounts v.count tables)
