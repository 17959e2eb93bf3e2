-- What the texts of the statements mean, over each schema whose first tables are these.
use Rattle.std.proofs.Common.{◌≡◌, List, [], ◌∷◌, ◌++◌, map, ℕ, zero, suc, pos, negsuc, codes, true, false, None, refl}
use Rattle.sqlite.specs.declared.types.Value.TheVariants.{Null, Int}
use Rattle.sqlite.specs.Term.{Term, lit, col, op2}
use Rattle.sqlite.specs.Query.{Query, inner, end}
use Rattle.sqlite.specs.Source.{Source}
use Rattle.sqlite.specs.Source.TheVariants.{Values}
use Rattle.sqlite.specs.Command.{Command}
use Rattle.sqlite.specs.Command.TheVariants.{Insert, Select, Update}
use Rattle.sqlite_schema.specs.declared.program.Program.{Program}
use Rattle.sqlite_sql.specs.declared.ops.BinaryOp.TheVariants.{Compare}
use Rattle.sqlite_sql.specs.declared.ops.CompareOp.TheVariants.{Eq}
use Rattle.sqlite.specs.Listing.{understood, reads_listing}
use Rattle.sqlite.specs.Collation.TheVariants.{Binary}
use Rattle.sqlite_value.specs.Keys.{ascending}
use Rattle.sqlite_tied.specs.Compute.{everything}
use Rattle.sqlite.proofs.Callers.{IsPlain, command_of}
use Rattle.sqlite.specs.Table.{Table}
use Rattle.sqlite.specs.Schema.{Schema}
use Rattle.sqlite_schema.specs.declared.schema.Index.{Index}
use Rattle.sqlite_schema.specs.declared.schema.View.{View}
use Rattle.sqlite_schema.specs.declared.schema.Column.{Column}
use Rattle.custody_store.specs.Schema.{meta_schema, first_schema, record_schema, meta_table, registry_table, part_table, notice_table, handover_table, hold_table}
use Rattle.custody_store.specs.Statements.{insert_meta_text, insert_registry_text, insert_part_text, insert_notice_text, insert_handover_text, insert_hold_text, drop_bytes_text, lift_text, set_schema_text}
use Rattle.custody_store.proofs.ModeLemmas.{is_change_text}
use Rattle.custody_store.proofs.QueryLemmas.{is_query_text}

-- a statement that is this command over this schema
pub record IsMeaningOver (schema : Schema) (sql : List ℕ) (command : Command) : Type 0 where
  pub is : command_of (understood schema sql) ≡ command
  pub plain : IsPlain (understood schema sql)
  pub changes : is_change_text sql ≡ true

-- these tables first, and then others
abbrev pub beginning_with : List Table → List Table → List Index → List View → Schema
beginning_with first others indexes views = record { tables = first ++ others; indexes = indexes; views = views }

-- the same over each schema whose first tables are these
abbrev pub IsMeaning : List Table → List ℕ → Command → Type 0
IsMeaning first sql command = (others : List Table) (indexes : List Index) (views : List View) → IsMeaningOver (beginning_with first others indexes views) sql command

-- a statement that puts rows of this source into the table at this place
abbrev pub IsInsertion : List Table → List ℕ → ℕ → Source → Type 0
IsInsertion first sql at from = IsMeaning first sql (Insert at from)

-- over schema 2, with nothing else
pub over_schema_2 : {sql : List ℕ} {command : Command} → IsMeaning record_schema.tables sql command → IsMeaningOver record_schema sql command
over_schema_2 means = means [] record_schema.indexes []

-- these columns of the rows of one table, in the order of the rowids
abbrev pub in_order : ℕ → List Term → Query
in_order tree project = record {
  from = inner tree end;
  filter = [];
  group = None;
  project = project;
  distinct = false;
  collations = [];
  order = (col 1 0, ascending Binary) ∷ [];
  limit = lit (Int (negsuc 0));
  offset = lit (Int (pos 0));
}

-- a query of these columns of one table, over this schema
pub record IsSelectionOver (schema : Schema) (sql : List ℕ) (tree : ℕ) (project : List Term) (names : List (List ℕ)) : Type 0 where
  pub is : command_of (understood schema sql) ≡ Select (record { lets = []; body = in_order tree project }) names
  pub plain : IsPlain (understood schema sql)
  pub unlisted : reads_listing schema sql ≡ false
  pub query : is_query_text sql ≡ true

-- the same over each schema whose first tables are these
abbrev pub IsSelection : List Table → List ℕ → ℕ → List Term → List (List ℕ) → Type 0
IsSelection first sql tree project names = (others : List Table) (indexes : List Index) (views : List View) → IsSelectionOver (beginning_with first others indexes views) sql tree project names

-- ---- the statements

-- so many columns of one row of the environment, from this one on
abbrev pub columns_from : ℕ → ℕ → ℕ → List Term
columns_from row first zero = []
columns_from row first (suc n) = col row first ∷ columns_from row (suc first) n

-- the columns that a table names
abbrev pub names_of : Table → List (List ℕ)
names_of t = map (λ (c : Column). c.name) t.columns

-- one row of the parameters, whose rowid is chosen
abbrev pub one_row : ℕ → Source
one_row n = Values (lit Null ∷ columns_from 0 0 n) (suc n)

abbrev pub meta_source : Source
meta_source = Values (lit (Int (pos 1)) ∷ lit Null ∷ lit (Int (pos 2)) ∷ columns_from 0 0 2) 5

pub insert_meta_is : IsInsertion record_schema.tables insert_meta_text 0 meta_source
unfolding understood everything
insert_meta_is others indexes views = record { is = refl; plain = (refl, refl); changes = refl }

pub insert_registry_is : IsInsertion record_schema.tables insert_registry_text 1 (one_row 2)
unfolding understood everything
insert_registry_is others indexes views = record { is = refl; plain = (refl, refl); changes = refl }

pub insert_part_is : IsInsertion record_schema.tables insert_part_text 2 (one_row 10)
unfolding understood everything
insert_part_is others indexes views = record { is = refl; plain = (refl, refl); changes = refl }

pub insert_notice_is : IsInsertion record_schema.tables insert_notice_text 3 (one_row 7)
unfolding understood everything
insert_notice_is others indexes views = record { is = refl; plain = (refl, refl); changes = refl }

pub insert_handover_is : IsInsertion record_schema.tables insert_handover_text 4 (one_row 5)
unfolding understood everything
insert_handover_is others indexes views = record { is = refl; plain = (refl, refl); changes = refl }

pub insert_hold_is : IsInsertion record_schema.tables insert_hold_text 5 (one_row 5)
unfolding understood everything
insert_hold_is others indexes views = record { is = refl; plain = (refl, refl); changes = refl }

pub select_meta_is : IsSelection meta_schema.tables (codes "SELECT one, schema_no, number, blocks FROM meta ORDER BY rowid") 0 (col 1 0 ∷ columns_from 1 2 3) (names_of meta_table)
unfolding understood everything
select_meta_is others indexes views = record { is = refl; plain = (refl, refl); unlisted = refl; query = refl }

pub select_registry_is : IsSelection first_schema.tables (codes "SELECT tld, first_day FROM registry ORDER BY rowid") 1 (columns_from 1 1 2) (names_of registry_table)
unfolding understood everything
select_registry_is others indexes views = record { is = refl; plain = (refl, refl); unlisted = refl; query = refl }

pub select_part_is : IsSelection first_schema.tables (codes "SELECT tld, day, rev, part, kind, received, keep_day, len, sha, extents FROM part ORDER BY rowid") 3 (columns_from 1 1 10) (names_of part_table)
unfolding understood everything
select_part_is others indexes views = record { is = refl; plain = (refl, refl); unlisted = refl; query = refl }

pub select_notice_is : IsSelection first_schema.tables (codes "SELECT tld, number, kind, day, rev, id, at FROM notice ORDER BY rowid") 5 (columns_from 1 1 7) (names_of notice_table)
unfolding understood everything
select_notice_is others indexes views = record { is = refl; plain = (refl, refl); unlisted = refl; query = refl }

pub select_handover_is : IsSelection first_schema.tables (codes "SELECT reference, tld, ground, at, names FROM handover ORDER BY rowid") 7 (columns_from 1 1 5) (names_of handover_table)
unfolding understood everything
select_handover_is others indexes views = record { is = refl; plain = (refl, refl); unlisted = refl; query = refl }

pub select_hold_is : IsSelection record_schema.tables (codes "SELECT reference, tld, day, at, lifted FROM hold ORDER BY rowid") 9 (columns_from 1 1 5) (names_of hold_table)
unfolding understood everything
select_hold_is others indexes views = record { is = refl; plain = (refl, refl); unlisted = refl; query = refl }

-- ---- those that change rows

-- what each row of one table that passes the tests shows
abbrev pub picked : ℕ → List Term → List Term → Query
picked tree tests project = record {
  from = inner tree end;
  filter = tests;
  group = None;
  project = project;
  distinct = false;
  collations = [];
  order = [];
  limit = lit (Int (negsuc 0));
  offset = lit (Int (pos 0));
}

-- the program of an UPDATE, which shows the rowid of the row that goes, and then the row that comes
abbrev pub updating : ℕ → List Term → List Term → Program
updating tree tests project = record { lets = []; body = picked tree tests project }

abbrev pub drop_bytes_tests : List Term
drop_bytes_tests = op2 (Compare Eq Binary) (col 1 1) (col 0 0) ∷ op2 (Compare Eq Binary) (col 1 2) (col 0 1) ∷ op2 (Compare Eq Binary) (col 1 3) (col 0 2) ∷ op2 (Compare Eq Binary) (col 1 4) (col 0 3) ∷ []

abbrev pub dropped_places : List Term
dropped_places = col 1 0 ∷ columns_from 1 0 10 ++ lit Null ∷ []

abbrev pub drop_bytes_program : Program
drop_bytes_program = updating 3 drop_bytes_tests dropped_places

pub drop_bytes_is : IsMeaning record_schema.tables drop_bytes_text (Update 2 drop_bytes_program)
unfolding understood everything
drop_bytes_is others indexes views = record { is = refl; plain = (refl, refl); changes = refl }

abbrev pub lift_tests : List Term
lift_tests = op2 (Compare Eq Binary) (col 1 1) (col 0 0) ∷ []

abbrev pub lifted_places : List Term
lifted_places = col 1 0 ∷ columns_from 1 0 5 ++ col 0 1 ∷ []

abbrev pub lift_program : Program
lift_program = updating 9 lift_tests lifted_places

pub lift_is : IsMeaning record_schema.tables lift_text (Update 5 lift_program)
unfolding understood everything
lift_is others indexes views = record { is = refl; plain = (refl, refl); changes = refl }

-- the column that is the rowid stands as NULL among the others
abbrev pub set_schema_places : List Term
set_schema_places = col 1 0 ∷ col 1 0 ∷ lit Null ∷ lit (Int (pos 2)) ∷ col 1 3 ∷ col 1 4 ∷ []

abbrev pub set_schema_program : Program
set_schema_program = updating 0 [] set_schema_places

pub set_schema_is : IsMeaning record_schema.tables set_schema_text (Update 0 set_schema_program)
unfolding understood everything
set_schema_is others indexes views = record { is = refl; plain = (refl, refl); changes = refl }
