-- A deposit of what has changed between a chain and the tables of a registry (RFC 8909, section 2).
use Rattle.std.specs.Prelude.{◌≡◌, ◌≢◌, ◌⊎◌, ◌++◌, ℕ, List, [], ◌∷◌, Some, codes}
use Rattle.std.specs.List.{AllZip}
use Rattle.deposit_name.specs.Tables.{table_name_text}
use Rattle.deposit_name.specs.declared.kinds.Kind.{Kind}
use Rattle.deposit_name.specs.declared.kinds.Kind.TheVariants.{Full, Diff, Incr}
use Rattle.deposit_name.specs.declared.table.TableName.{TableName}
use Rattle.deposit_verify.specs.Chain.{IsChain}
use Rattle.deposit_verify.specs.Places.{all_tables}
use Rattle.deposit_verify.specs.ReasonText.{missing_key_text}
use Rattle.deposit_verify.specs.References.{AreReferencesKept}
use Rattle.deposit_verify.specs.TablesReasons.{IsFirstNoKey}
use Rattle.deposit_verify.specs.declared.base.Base.{Base}
use Rattle.deposit_pack.specs.Packable.{IsPackable}
use Rattle.deposit_pack.specs.PackErrors.{IsReadingError, IsPackError}
use Rattle.deposit_pack.specs.PackErrorText.{pack_error_text}
use Rattle.deposit_pack.specs.Packing.{Objects, contents_rows, objects_in, packed, table_names}
use Rattle.deposit_pack.specs.declared.source.Attributes.{Attributes}
use Rattle.deposit_pack.specs.declared.source.Source.{Source}
use Rattle.deposit_tables.specs.Changes.{AreSomeChanges}
use Rattle.deposit_tables.specs.Restored.{HasRowsOf}
use Rattle.deposit_tables.specs.declared.whole_error.WholeError.{WholeError}
use Rattle.deposit_tables.specs.declared.whole_error.WholeError.TheVariants.{Pack, Tables, Reference, Chain}

-- ---- the deposit

-- the chains that a deposit of a kind continues: all deposits before it, and where it is incremental the full one alone too
abbrev pub chains_before : Kind → List (List ℕ) → List (List (List ℕ))
chains_before Full chain = chain ∷ []
chains_before Diff chain = chain ∷ []
chains_before Incr [] = [] ∷ []
chains_before Incr (full ∷ []) = (full ∷ []) ∷ []
chains_before Incr (full ∷ next ∷ later) = (full ∷ []) ∷ (full ∷ next ∷ later) ∷ []

-- the objects are what has changed since the tables after each of these chains
pub record AreChangesSince (chains : List (List (List ℕ))) (new : TableName → List (List (List ℕ))) (o : Objects) : Type 0 where
  pub olds : List (TableName → List (List (List ℕ)))
  pub after : AllZip HasRowsOf chains olds
  pub changes : AreSomeChanges olds new o

-- the bytes are the deposit of what has changed since a chain
pub record IsPackedSince (chain : List (List ℕ)) (a : Attributes) (new : TableName → List (List (List ℕ))) (before : Base) (bytes : List ℕ) : Type 0 where
  pub objects : Objects
  pub since : AreChangesSince (chains_before a.name.kind chain) new objects
  pub packable : IsPackable a objects before
  pub bytes_right : bytes ≡ packed a objects before

-- ---- errors

-- the tables of a registry's files
abbrev pub tables_in : Source → TableName → List (List (List ℕ))
tables_in source = contents_rows (objects_in source)

-- the error is one of reading the files, or of packing what has changed; and it is true
abbrev pub IsWholeError : List (List ℕ) → Attributes → Source → Base → WholeError → Type 0
IsWholeError chain a source before (Pack error) =
    (IsReadingError error × IsPackError a source (Some before) error)
    ⊎ ((changed : Source) × AreChangesSince (chains_before a.name.kind chain) (tables_in source) (objects_in changed) × IsPackError a changed (Some before) error)
IsWholeError chain a source before Tables = table_names (objects_in source).contents ≢ all_tables
IsWholeError chain a source before (Reference missing) = IsFirstNoKey (tables_in source) missing × ¬ AreReferencesKept (tables_in source)
IsWholeError chain a source before Chain = ¬ IsChain chain

abbrev pub whole_error_text : WholeError → List ℕ
whole_error_text (Pack error) = pack_error_text error
whole_error_text Tables = codes "U6 contents: all eight tables are wanted, in order"
whole_error_text (Reference missing) = codes "U12 " ++ (table_name_text missing.table ++ (codes ".csv" ++ missing_key_text missing))
whole_error_text Chain = codes "the deposits are no chain"
