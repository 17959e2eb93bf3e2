-- The keys of a chain of deposits: a full one, and later ones that are not full.
use Rattle.std.specs.Prelude.{◌≡◌, ◌≢◌, ◌↔◌, ◌⊎◌, ℕ, List, [], ◌∷◌, ◌++◌, All, IsTrue}
use Rattle.std.specs.List.{AllZip}
use Rattle.deposit_name.specs.Tables.{has_deletes}
use Rattle.deposit_name.specs.declared.kinds.Kind.TheVariants.{Full}
use Rattle.deposit_name.specs.declared.table.TableName.{TableName}
use Rattle.envelope.specs.Envelope.{Env}
use Rattle.deposit_verify.specs.declared.base.Base.{Base}
use Rattle.deposit_verify.specs.Checks.{HasMenu}
use Rattle.deposit_verify.specs.Deposit.{HasDeletes, HasEnvelope, HasFiles, IsTableFile, contents_files}
use Rattle.deposit_verify.specs.Keys.{AreKeys, IsContained, IsNamed, keys_in}

-- the deposit is read: it has its menu, its files, their tables, and the keys that it deletes
pub record IsRead (v : Env) (rest : List ℕ) : Type 0 where
  pub menu : HasMenu v
  pub tables : HasFiles v rest (λ files. AllZip IsTableFile v.contents (contents_files v files))
  pub deletes : HasDeletes v rest

-- the first deposit of a chain is read and full, and a later one is read and not full
abbrev pub IsFirstOfChain : List ℕ → Type 0
IsFirstOfChain joined = HasEnvelope joined (λ v rest. (v.kind ≡ Full) × IsRead v rest)

abbrev pub IsLaterOfChain : List ℕ → Type 0
IsLaterOfChain joined = HasEnvelope joined (λ v rest. (v.kind ≢ Full) × IsRead v rest)

abbrev pub IsChain : List (List ℕ) → Type 0
IsChain [] = ⊥
IsChain (first ∷ later) = IsFirstOfChain first × All IsLaterOfChain later

-- the deposit has the key in its table of contents, or names it there or among those that it deletes
abbrev pub DepositContains : List ℕ → TableName → List ℕ → Type 0
DepositContains joined name key = HasEnvelope joined (λ v rest. IsContained v rest name key)

abbrev pub DepositNames : List ℕ → TableName → List ℕ → Type 0
DepositNames joined name key = HasEnvelope joined (λ v rest. IsNamed v rest name key)

-- a key of the chain: some deposit of it contains the key, and none after that one names it
abbrev pub IsKeyOf : List (List ℕ) → TableName → List ℕ → Type 0
IsKeyOf chain name key =
    (before : List (List ℕ)) × (last : List ℕ) × (after : List (List ℕ)) × (chain ≡ before ++ last ∷ after) × DepositContains last name key
    × All (λ joined. ¬ DepositNames joined name key) after

-- these are the keys of the chain, of each table that is counted
pub record IsBase (chain : List (List ℕ)) (base : Base) : Type 0 where
  pub chained : IsChain chain
  pub keys : (name : TableName) → IsTrue (has_deletes name) → AreKeys (IsKeyOf chain name) (keys_in base name)

-- The keys of a chain of one deposit are those that it contains. Those after one deposit more are those that it contains, and those before it that it does not name.
pub record AreChainKeys : Type 0 where
  pub one : (joined : List ℕ) (name : TableName) (key : List ℕ) → IsKeyOf (joined ∷ []) name key ↔ DepositContains joined name key
  pub more : (chain : List (List ℕ)) (joined : List ℕ) (name : TableName) (key : List ℕ)
      → IsKeyOf (chain ++ joined ∷ []) name key ↔ (DepositContains joined name key ⊎ (IsKeyOf chain name key × ¬ DepositNames joined name key))
  -- and a deposit that names no key changes none
  pub same : (chain : List (List ℕ)) (joined : List ℕ) (name : TableName) → ((key : List ℕ) → ¬ DepositNames joined name key)
      → (key : List ℕ) → IsKeyOf (chain ++ joined ∷ []) name key ↔ IsKeyOf chain name key
