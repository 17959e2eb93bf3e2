-- What a store shows of its records, and what a call does to them.
use Rattle.std.specs.Prelude.{◌≡◌, ◌⊎◌, ◌||◌, ◌&&◌, ◌++◌, ℕ, List, Bool, true, false, not, codes, Result, IsTrue, OnOk, OnErr}
use Rattle.std.specs.List.{AllByRecursion}
use Rattle.sqlite_trees.specs.declared.store.Shape.TheVariants as shape
use Rattle.sqlite.specs.Store.{Ghosts}
use Rattle.sqlite.specs.Tree.{Trees, IsAscending}
use Rattle.sqlite.specs.View.{IsShaped}
use Rattle.sqlite.specs.Effect.{Database, IsDatabase}
use Rattle.sqlite.specs.State.{State, HasCleanDisk}
use Rattle.sqlite.specs.Held.{Held, state}
use Rattle.sqlite.specs.Table.{Table}
use Rattle.sqlite.specs.Schema.{Schema}
use Rattle.custody_store.specs.Schema.{no_schema, meta_schema, first_schema, record_schema}
use Rattle.custody_records.specs.Rows.{Rows, migrated_rows}
use Rattle.custody_store.specs.Reading.{rows_in, has_table}

-- the rows that a stop may leave
abbrev pub MayLeaveRows : State → Rows → Type 0
MayLeaveRows s rows = (db : Trees) × s.may_leave db × (rows ≡ rows_in db)

-- The database is open, and all that it shows is committed.
pub record IsAtRest (s : State) : Type 0 where
  pub is_open : IsTrue s.is_open
  pub autocommit : s.in_transaction ≡ false
  pub committed : s.committed ≡ s.now
  -- a stop leaves these rows and no others
  pub only : (rows : Rows) → MayLeaveRows s rows → rows ≡ rows_in s.now.trees

-- the rows of each table are in the order of their rowids
abbrev pub AreOrdered : List Table → Trees → Type 0
AreOrdered tables trees = AllByRecursion (λ t. IsShaped shape.Table (trees t.tree)) tables

-- the tables are those of a schema, as they are made, and there are no others
pub record HasOnlyTables (schema : Schema) (db : Database) : Type 0 where
  pub schema_is : db.schema ≡ schema
  pub sound : IsDatabase db
  pub ordered : AreOrdered schema.tables db.trees

-- the first tables are these; after them, and as indexes and views, there may be any
abbrev pub SchemaBeginsWith : List Table → Schema → Type 0
SchemaBeginsWith first schema = (others : List Table) × (schema.tables ≡ first ++ others)

-- no two tables have one tree
abbrev pub HaveOwnTrees : List Table → Type 0
HaveOwnTrees = IsAscending (λ s t. s.tree ≡ t.tree → ⊥)

-- the first tables are these, as they are made, and each table has a tree of its own; there may be any others, and any indexes and views
pub record HasTablesAmongOthers (first : List Table) (db : Database) : Type 0 where
  pub begins : SchemaBeginsWith first db.schema
  pub apart : HaveOwnTrees db.schema.tables
  pub sound : IsDatabase db
  pub ordered : AreOrdered first db.trees

-- A database at rest, with the tables of schema 2 first, whatever others there are.
pub record IsReady (s : State) : Type 0 where
  pub rest : IsAtRest s
  pub tables : HasTablesAmongOthers record_schema.tables s.now

-- A database at rest, with the tables of a schema and no others.
pub record HasSchemaAtRest (schema : Schema) (s : State) : Type 0 where
  pub rest : IsAtRest s
  pub tables : HasOnlyTables schema s.now

-- A database at rest that has no table yet.
pub record IsBare (s : State) : Type 0 where
  pub rest : IsAtRest s
  pub schema : s.now.schema ≡ no_schema
  pub sound : IsDatabase s.now

-- A database at rest whose first tables are these, as `create` makes them.
pub record HasFirstTables (first : List Table) (s : State) : Type 0 where
  pub rest : IsAtRest s
  pub begins : SchemaBeginsWith first s.now.schema
  pub sound : IsDatabase s.now
  pub ordered : AreOrdered first s.now.trees

-- Its first tables are the five that both schemas have, as `create` makes them; a table of holds, where there is one, is the sixth.
abbrev pub HasSchemaTablesFirst : State → Type 0
HasSchemaTablesFirst s = HasFirstTables first_schema.tables s × (has_table (codes "hold") s.now.schema ≡ true → HasFirstTables record_schema.tables s)

pub record StoreState : Type 1 where
  pub rows : Rows
  -- the rows that a stop at this moment may leave
  pub may_leave : Rows → Type 0
  -- the database has returned what was written
  pub IsHonest : Type 0
  -- it is open, no transaction is, and a stop leaves its rows
  pub IsAtRest : Type 0
  -- it is at rest, and its first tables are those that `create` makes, which are those of schema 2, whatever others there are
  pub IsReady : Type 0
  -- it is at rest, and has the tables of schema 1 and no others
  pub IsEarlier : Type 0
  -- it is at rest, and its first tables are the five that both schemas have, and then that of holds, if there is one
  pub HasSchemaTablesFirst : Type 0
  -- it is at rest, and its first table is meta, as `create` makes it
  pub HasMetaFirst : Type 0
  -- it is at rest, and has no table
  pub IsBare : Type 0
  -- no failure has shut it
  pub is_open : Bool
  pub in_transaction : Bool
  -- a table of this name is there
  pub has_table : List ℕ → Bool
  -- the tables, indexes and views that it has
  pub schema : Schema

abbrev pub as_store_state : State → StoreState
as_store_state s = record {
  rows = rows_in s.now.trees;
  may_leave = MayLeaveRows s;
  IsHonest = HasCleanDisk s;
  IsAtRest = IsAtRest s;
  IsReady = IsReady s;
  IsEarlier = HasSchemaAtRest first_schema s;
  HasSchemaTablesFirst = HasSchemaTablesFirst s;
  HasMetaFirst = HasFirstTables meta_schema.tables s;
  IsBare = IsBare s;
  is_open = s.is_open;
  in_transaction = s.in_transaction;
  has_table = λ name. has_table name s.now.schema;
  schema = s.now.schema;
}

abbrev pub store_state : {S : Type 0} → Ghosts S → Held S → StoreState
store_state g h = as_store_state (state g h)

-- one of the six tables is there
abbrev pub has_any_table : StoreState → Bool
has_any_table s = s.has_table (codes "meta") || s.has_table (codes "registry") || s.has_table (codes "part") || s.has_table (codes "notice") || s.has_table (codes "handover") || s.has_table (codes "hold")

-- all five tables are there that both schemas have
abbrev pub has_all_tables : StoreState → Bool
has_all_tables s = s.has_table (codes "meta") && s.has_table (codes "registry") && s.has_table (codes "part") && s.has_table (codes "notice") && s.has_table (codes "handover")

-- all tables of schema 1 are there, and that of holds is not
abbrev pub has_earlier_tables : StoreState → Bool
has_earlier_tables s = has_all_tables s && not (s.has_table (codes "hold"))

-- its first table is meta, or it has none
abbrev pub HasMetaOrNone : StoreState → Type 0
HasMetaOrNone s = s.HasMetaFirst ⊎ s.IsBare

-- Its tables are known: none at all, or meta first, and where all five are there, these first.
abbrev pub HasKnownTables : StoreState → Type 0
HasKnownTables s = s.IsBare ⊎ (s.HasMetaFirst × (has_all_tables s ≡ true → s.HasSchemaTablesFirst))

-- These rows are committed at once, or the rows are those that were there.
pub record IsOneCommit {A E : Type 0} (old new : StoreState) (after : Rows) (result : Result A E) : Type 0 where
  pub done : OnOk result (new.IsReady × (new.rows ≡ after))
  pub kept : OnErr result (IsTrue new.is_open → new.IsReady × (new.rows ≡ old.rows))
  -- a stop leaves what it left before, or the new rows
  pub left : (rows : Rows) → new.may_leave rows → old.may_leave rows ⊎ (rows ≡ after)
  -- no table, index or view comes or goes
  pub schema : IsTrue new.is_open → new.schema ≡ old.schema
  pub ended : new.in_transaction ≡ false

-- A call that commits these rows, alone. Only a failure of the files makes a database dishonest, and it stays so.
pub record Commits {A E : Type 0} (old new : StoreState) (after : Rows) (result : Result A E) : Type 0 where
  pub trust : new.IsHonest → old.IsHonest
  pub mode : new.IsHonest → old.in_transaction ≡ false → new.in_transaction ≡ false
  pub effect : new.IsHonest → old.IsReady → IsOneCommit old new after result

-- The tables are made at once with these rows, or there is no table as before.
pub record IsOneCreation {A E : Type 0} (old new : StoreState) (after : Rows) (result : Result A E) : Type 0 where
  pub done : OnOk result (new.IsReady × (new.rows ≡ after))
  -- and there is nothing else
  pub made : OnOk result (new.schema ≡ record_schema)
  pub kept : OnErr result (IsTrue new.is_open → new.IsBare × (new.rows ≡ old.rows))
  pub left : (rows : Rows) → new.may_leave rows → old.may_leave rows ⊎ (rows ≡ after)

-- The call that makes the tables.
pub record CreatesTables {A E : Type 0} (old new : StoreState) (after : Rows) (result : Result A E) : Type 0 where
  pub trust : new.IsHonest → old.IsHonest
  pub mode : old.in_transaction ≡ false → new.in_transaction ≡ false
  pub effect : new.IsHonest → old.IsBare → IsOneCreation old new after result

-- The tables of schema 1 are those of schema 2 at once, or they and the rows are those that were there.
pub record IsOneMigration {A E : Type 0} (old new : StoreState) (result : Result A E) : Type 0 where
  pub done : OnOk result (new.IsReady × (new.rows ≡ migrated_rows old.rows))
  -- and there is nothing else
  pub made : OnOk result (new.schema ≡ record_schema)
  pub kept : OnErr result (IsTrue new.is_open → new.IsEarlier × (new.rows ≡ old.rows))
  -- a stop leaves what it left before, or the rows of schema 2
  pub left : (rows : Rows) → new.may_leave rows → old.may_leave rows ⊎ (rows ≡ migrated_rows old.rows)

-- The call that makes tables of schema 1 those of schema 2.
pub record Migrates {A E : Type 0} (old new : StoreState) (result : Result A E) : Type 0 where
  pub trust : new.IsHonest → old.IsHonest
  pub mode : old.in_transaction ≡ false → new.in_transaction ≡ false
  pub effect : new.IsHonest → old.IsEarlier → IsOneMigration old new result

-- The tables and the rows are those that were there.
pub record SameTablesAndRows (old new : StoreState) : Type 0 where
  pub rows : new.rows ≡ old.rows
  pub schema : new.schema ≡ old.schema
  pub rest : new.IsAtRest
  pub ready : old.IsReady → new.IsReady
  pub earlier : old.IsEarlier → new.IsEarlier
  pub first_tables : old.HasSchemaTablesFirst → new.HasSchemaTablesFirst
  pub first_meta : old.HasMetaFirst → new.HasMetaFirst
  pub bare : old.IsBare → new.IsBare

-- A call that only reads, whatever the tables are.
pub record ChangesNothing {A E : Type 0} (old new : StoreState) (result : Result A E) : Type 0 where
  pub trust : new.IsHonest → old.IsHonest
  pub mode : old.in_transaction ≡ false → new.in_transaction ≡ false
  -- a stop leaves nothing new
  pub commits_nothing : new.IsHonest → (rows : Rows) → new.may_leave rows → old.may_leave rows
  -- what was at rest stands as it stood, or it is shut
  pub same : new.IsHonest → old.IsAtRest → IsTrue new.is_open → SameTablesAndRows old new
  pub still_open : new.IsHonest → old.IsAtRest → OnOk result (IsTrue new.is_open)
