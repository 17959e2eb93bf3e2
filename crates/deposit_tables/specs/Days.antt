-- What deposits that were packed from the tables of a registry restore: the law of `pack_whole`.
use Rattle.std.specs.Prelude.{◌≡◌, ◌≢◌, ◌↔◌, ⊤, ℕ, List, [], ◌∷◌, ◌++◌, Contains, map}
use Rattle.deposit_name.specs.declared.kinds.Kind.TheVariants.{Full}
use Rattle.deposit_name.specs.declared.table.TableName.{TableName}
use Rattle.deposit_verify.specs.Chain.{IsChain}
use Rattle.deposit_verify.specs.declared.base.Base.{Base}
use Rattle.deposit_pack.specs.declared.source.Attributes.{Attributes}
use Rattle.deposit_tables.specs.Deposits.{IsWhole, MayBePacked, PackedDeposit, packed_bytes}
use Rattle.deposit_tables.specs.Restored.{AreTablesOf, HasRowsOf}
use Rattle.deposit_tables.specs.Whole.{IsPackedSince, chains_before}

-- a deposit that was packed from the tables that a registry had that day, and the keys that its counts add to
pub record RegistryDay : Type 0 where
  pub attributes : Attributes
  pub tables : TableName → List (List (List ℕ))
  pub before : Base
  pub bytes : List ℕ

abbrev pub day_bytes : RegistryDay → List ℕ
day_bytes d = d.bytes

-- day after day one that is not full was packed behind those before it
abbrev pub ArePackedInTurn : List (List ℕ) → List RegistryDay → Type 0
ArePackedInTurn chain [] = ⊤
ArePackedInTurn chain (d ∷ ds) = (d.attributes.name.kind ≢ Full) × IsPackedSince chain d.attributes d.tables d.before d.bytes × ArePackedInTurn (chain ++ d.bytes ∷ []) ds

-- the tables of the last day
abbrev pub last_day_tables : (TableName → List (List (List ℕ))) → List RegistryDay → TableName → List (List (List ℕ))
last_day_tables tables [] = tables
last_day_tables tables (d ∷ ds) = last_day_tables d.tables ds

-- the tables after the chain have the same rows as these
abbrev pub AreRestoredAs : List (List ℕ) → (TableName → List (List (List ℕ))) → Type 0
AreRestoredAs chain tables =
    (restored : TableName → List (List (List ℕ))) → AreTablesOf chain restored → (name : TableName) (row : List (List ℕ)) → Contains (restored name) row ↔ Contains (tables name) row

pub record AreDaysRestored : Type 0 where
  -- A deposit that was packed from the tables of a registry brings each chain that it continues to these tables. Where that is a chain, and the deposit is not full, it stays one.
  pub day : (chain : List (List ℕ)) (d : RegistryDay) → IsPackedSince chain d.attributes d.tables d.before d.bytes → (continued : List (List ℕ)) → Contains (chains_before d.attributes.name.kind chain) continued
      → HasRowsOf (continued ++ d.bytes ∷ []) d.tables × (d.attributes.name.kind ≢ Full → IsChain continued → IsChain (continued ++ d.bytes ∷ []))
  -- A full deposit of a registry's tables, and then those that were packed from its tables day after day, are a chain, from which the tables of the last day are restored, each row.
  pub days : (first : PackedDeposit) (later : List RegistryDay) → first.attributes.name.kind ≡ Full → MayBePacked first → IsWhole first → ArePackedInTurn (packed_bytes first ∷ []) later
      → IsChain (packed_bytes first ∷ map day_bytes later) × AreRestoredAs (packed_bytes first ∷ map day_bytes later) (last_day_tables first.tables later)
