-- Tables as they are made, and rows as they are written, inside one transaction.
use Rattle.std.specs.Prelude.{◌≡◌, false, List, [], ℕ, Ok, IsTrue}
use Rattle.std.specs.List.{AllByRecursion}
use Rattle.sqlite.specs.Table.{Table}
use Rattle.sqlite.specs.Schema.{Schema}
use Rattle.sqlite.specs.Change.{created}
use Rattle.sqlite.specs.Compile.{table_defined_by}
use Rattle.sqlite.specs.Command.TheVariants.{CreateTable}
use Rattle.sqlite.specs.Listing.{understood}
use Rattle.sqlite.specs.Does.{lacks_sequence}
use Rattle.sqlite.specs.Given.{IsPlain}
use Rattle.sqlite.specs.Tree.{Trees}
use Rattle.sqlite.specs.Effect.{Database, IsDatabase}
use Rattle.sqlite.specs.State.{State, text_of}
use Rattle.custody_records.specs.Rows.{Rows}
use Rattle.custody_store.specs.Reading.{rows_in}
use Rattle.custody_store.specs.Schema.{record_schema}
use Rattle.custody_store.specs.StoreState.{HasOnlyTables, HasTablesAmongOthers}
use Rattle.sqlite_resolve.specs.declared.compiled.Compiled.{Compiled}
use Rattle.sqlite_resolve.specs.declared.error.CompileError.{CompileError}
use Rattle.std.specs.Prelude.{Result, Err}

-- a transaction over `first` has made the tables of this schema, as far as they were not there, and each has these rows
pub record IsMakingTables (schema : Schema) (first : Database) (rows : Trees) (s : State) : Type 0 where
  pub is_open : IsTrue s.is_open
  pub inside : IsTrue s.in_transaction
  pub committed : s.committed ≡ first
  pub schema_is : s.now.schema ≡ schema
  pub sound : IsDatabase s.now
  pub rows_are : AllByRecursion (λ t. s.now.trees t.tree ≡ rows t.tree) schema.tables

-- no row in any table
abbrev pub empty_trees : Trees
empty_trees tree = []

-- the whole text makes this table
abbrev pub TextMakesTable : List ℕ → Table → Result Compiled CompileError → Type 0
TextMakesTable sql table (Ok c) = (c.command ≡ CreateTable) × (table_defined_by (text_of sql c) ≡ Ok table)
TextMakesTable sql table (Err e) = ⊥

pub record IsCreateText (schema : Schema) (sql : List ℕ) (table : Table) : Type 0 where
  pub means : TextMakesTable sql table (understood schema sql)
  pub plain : IsPlain (understood schema sql)
  pub uncounted : lacks_sequence (created schema table) ≡ false

-- a transaction over `first` has made the tables of schema 2, and they have these rows
pub record HasMadeTables (rows : Rows) (first : Database) (s : State) : Type 0 where
  pub is_open : IsTrue s.is_open
  pub inside : IsTrue s.in_transaction
  pub committed : s.committed ≡ first
  pub tables : HasOnlyTables record_schema s.now
  pub rows_are : rows_in s.now.trees ≡ rows

-- the tables of schema 2 come first in this schema, and have these rows
pub record HasRows (schema : Schema) (rows : Rows) (s : State) : Type 0 where
  pub schema_is : s.now.schema ≡ schema
  pub tables : HasTablesAmongOthers record_schema.tables s.now
  pub rows_are : rows_in s.now.trees ≡ rows
