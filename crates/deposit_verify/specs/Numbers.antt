-- How many keys a chain of deposits has.
use Rattle.std.specs.Prelude.{◌≡◌, ◌↔◌, ℕ, List, [], ◌∷◌, ◌++◌, length, map}
use Rattle.std.specs.List.{AllZip}
use Rattle.deposit_name.specs.declared.table.TableName.{TableName}
use Rattle.envelope.specs.Envelope.{Env}
use Rattle.deposit_verify.specs.declared.base.Base.{Base}
use Rattle.deposit_verify.specs.Chain.{IsBase, IsKeyOf, DepositNames}
use Rattle.deposit_verify.specs.Checks.{AreKeyCounts, HasTables, counted_tables}
use Rattle.deposit_verify.specs.Deposit.{HasEnvelope, IsDeposit}
use Rattle.deposit_verify.specs.Keys.{IsNumberOf, keys_in}

-- the numbers of keys, in the order of the counted tables
abbrev pub numbers_in : Base → List ℕ
numbers_in base = map (λ name. length (keys_in base name)) counted_tables

-- A chain of one full deposit has as many keys of each counted table as the deposit has rows of it; a deposit more that names no key leaves the numbers; and the counts of a deposit that follows a chain are those of the chain that ends with it.
pub record AreChainNumbers : Type 0 where
  pub one : (joined : List ℕ) (base : Base) → IsBase (joined ∷ []) base
      → HasEnvelope joined (λ v rest. HasTables v rest (λ tables. numbers_in base ≡ map (λ name. length (tables name)) counted_tables))
  pub same : (chain : List (List ℕ)) (joined : List ℕ) (before after : Base) → IsBase chain before → IsBase (chain ++ joined ∷ []) after
      → ((name : TableName) (key : List ℕ) → ¬ DepositNames joined name key) → numbers_in after ≡ numbers_in before
  pub counts : (chain : List (List ℕ)) (joined : List ℕ) (base : Base) (v : Env) (rest : List ℕ) → IsBase chain base → IsDeposit joined v rest
      → AreKeyCounts v rest base ↔ AllZip (λ count name. IsNumberOf (IsKeyOf (chain ++ joined ∷ []) name) count.count) v.count counted_tables
