-- Each INSERT adds one row at the end of its table.
use Rattle.std.proofs.Common.{◌≡◌, ℕ, ℤ, List, [], ◌∷◌, ◌++◌, Bool, true, false, cond, Option, Some, None, Ok, Result, slice_get, refl, ap, subst, ◌∙◌}
use Rattle.std.proofs.lemmas.List.{map-append}
use Rattle.sqlite.specs.declared.types.Value.TheVariants.{Null, Int}
use Rattle.sqlite.specs.Order.{Row}
use Rattle.sqlite.specs.Tree.{Trees, with_tree}
use Rattle.sqlite.specs.Values.{bound_value}
use Rattle.sqlite.specs.Ops.{unary}
use Rattle.sqlite.specs.Cast.{cast, cast_row}
use Rattle.sqlite.specs.Kind.TheVariants.{Integer}
use Rattle.sqlite.specs.Command.TheVariants.{Insert}
use Rattle.sqlite.specs.Table.{Table}
use Rattle.sqlite.specs.Effect.{IsSource}
use Rattle.sqlite.specs.State.{State, mode_of}
use Rattle.sqlite.specs.Edit.{edit_of}
use Rattle.sqlite.specs.Rowids.TheVariants.{Chosen}
use Rattle.sqlite_trees.specs.declared.store.Shape.TheVariants as shape
use Rattle.sqlite_trees.specs.View.{IsShaped}
use Rattle.sqlite_rules.specs.Action.{Writes}
use Rattle.sqlite.specs.Listing.{understood}
use Rattle.sqlite.proofs.Callers.{statement_of}
use Rattle.custody_store.specs.Schema.{record_schema, registry_table, part_table, notice_table, handover_table, hold_table}
use Rattle.custody_records.specs.Rows.{Rows, RegistryRow, PartRow, NoticeRow, HandoverRow, HoldRow, with_registry_row, with_part_row, with_notice_row, with_handover_row, with_hold_row}
use Rattle.custody_store.specs.Reading.{rows_in, bytes_unless_null, bytes_or_null, integer_unless_null, integer_or_null}
use Rattle.custody_store.specs.StoreState.{HasTablesAmongOthers, as_store_state, Commits}
use Rattle.custody_store.specs.Calls.{RunsStatement}
use Rattle.custody_store.specs.Statements.{insert_registry_text, insert_registry_values, insert_part_text, insert_part_values, insert_notice_text, insert_notice_values, insert_handover_text, insert_handover_values, insert_hold_text, insert_hold_values}
use Rattle.custody_store.proofs.StatementLemmas.{IsInsertion, one_row, insert_registry_is, insert_part_is, insert_notice_is, insert_handover_is, insert_hold_is}
use Rattle.custody_store.proofs.TableLemmas.{held_rows}
use Rattle.custody_store.proofs.InsertLemmas.{puts, put_one, plain_table}
use Rattle.custody_store.proofs.CommitLemmas.{Changes, one_table, commits_change, insert_writes}

-- either way it is the same
pub either : {X : Type 0} (b : Bool) (x : X) → cond b x x ≡ x
either true x = refl
either false x = refl

pub cast_null : cast Integer Null ≡ Null
unfolding unary
cast_null = either _ Null

pub cast_int : (n : ℤ) → cast Integer (Int n) ≡ Int n
unfolding unary
cast_int n = either _ (Int n)

-- the table at its place
abbrev pub at_tree : ℕ → Table → Table
at_tree tree t = record t { tree = tree }

-- One row of these columns goes in at the end of the table in this tree.
module _ (at tree : ℕ) (t : Table) (n : ℕ) (columns : Row) (sql : List ℕ) (means : IsInsertion record_schema.tables sql at (one_row n)) (change : Rows → Rows) (old new : State) where
  abbrev table : Table
  table = plain_table (at_tree tree t)

  adds : HasTablesAmongOthers record_schema.tables old.now → ((others : List Table) → slice_get (record_schema.tables ++ others) at ≡ Some table) → ((rows : List Row) → IsSource old.now columns (one_row n) rows → rows ≡ (Null ∷ columns) ∷ [])
      → IsShaped shape.Table (old.now.trees tree) → cast_row table (Null ∷ columns) ≡ Null ∷ columns
      → ((trees : Trees) (id : ℤ) → held_rows (with_tree trees tree (trees tree ++ (Int id ∷ columns) ∷ [])) ≡ change (held_rows trees)) → Changes old sql columns (Insert at (one_row n)) change
  adds tables found source shaped typed read tally after does sound =
      let trees = old.now.trees in
      let text = statement_of sql (understood old.now.schema sql) in
      let it = puts old.step_limit (mode_of old) old.now after (at_tree tree t) columns text at (one_row n) tally (ap (λ l. slice_get l at) tables.begins.1 ∙ found tables.begins.0) does in
      let wrote = subst (λ rows. Writes old.now.schema (mode_of old).keys trees (edit_of trees table [] Chosen 0 rows) (Ok after.trees)) (source it.rows it.source) it.applied in
      let put = put_one record_schema.tables old.now.schema tables.begins trees after.trees table (mode_of old).keys (Null ∷ columns) columns shaped typed wrote in
      one_table old tables after tree change it.schema sound put.shaped put.others (rw put.here (read trees _))

  inserts : {A E : Type 0} (r : Result A E) → RunsStatement sql columns old new r → ((others : List Table) → slice_get (record_schema.tables ++ others) at ≡ Some table)
      → ((rows : List Row) → IsSource old.now columns (one_row n) rows → rows ≡ (Null ∷ columns) ∷ []) → (HasTablesAmongOthers record_schema.tables old.now → IsShaped shape.Table (old.now.trees tree))
      → cast_row table (Null ∷ columns) ≡ Null ∷ columns → ((trees : Trees) (id : ℤ) → held_rows (with_tree trees tree (trees tree ++ (Int id ∷ columns) ∷ [])) ≡ change (held_rows trees))
      → Commits (as_store_state old) (as_store_state new) (change (rows_in old.now.trees)) r
  inserts r runs found source shaped typed read =
      commits_change sql columns (Insert at (one_row n)) means (insert_writes at (one_row n)) old new change r (λ ready. adds ready.tables found source (shaped ready.tables) typed read) runs

pub inserts_registry : {A E : Type 0} (old new : State) (row : RegistryRow) (r : Result A E) → RunsStatement insert_registry_text (insert_registry_values row) old new r → Commits (as_store_state old) (as_store_state new) (with_registry_row row (rows_in old.now.trees)) r
inserts_registry old new row r runs =
    inserts 1 1 registry_table 2 (insert_registry_values row) insert_registry_text insert_registry_is (with_registry_row row) old new r runs (λ others. refl) (λ rows is. is.1) (λ tables. tables.ordered.1.0)
    (rw (cast_null, cast_int row.first_day) refl) (λ trees id. rw map-append refl)

read_bytes : (extents : Option (List ℕ)) → bytes_unless_null (bytes_or_null extents) ≡ extents
read_bytes None = refl
read_bytes (Some b) = refl

pub inserts_part : {A E : Type 0} (old new : State) (row : PartRow) (r : Result A E) → RunsStatement insert_part_text (insert_part_values row) old new r → Commits (as_store_state old) (as_store_state new) (with_part_row row (rows_in old.now.trees)) r
inserts_part old new row r runs =
    inserts 2 3 part_table 10 (insert_part_values row) insert_part_text insert_part_is (with_part_row row) old new r runs (λ others. refl) (λ rows is. is.1) (λ tables. tables.ordered.1.1.0)
    (rw (cast_null, cast_int row.day, cast_int row.rev, cast_int row.part, cast_int row.received, cast_int row.keep_day, cast_int row.len) refl) (λ trees id. rw (map-append, read_bytes row.extents) refl)

pub inserts_notice : {A E : Type 0} (old new : State) (row : NoticeRow) (r : Result A E) → RunsStatement insert_notice_text (insert_notice_values row) old new r → Commits (as_store_state old) (as_store_state new) (with_notice_row row (rows_in old.now.trees)) r
inserts_notice old new row r runs =
    inserts 3 5 notice_table 7 (insert_notice_values row) insert_notice_text insert_notice_is (with_notice_row row) old new r runs (λ others. refl) (λ rows is. is.1) (λ tables. tables.ordered.1.1.1.0)
    (rw (cast_null, cast_int row.number, cast_int row.kind, cast_int row.day, cast_int row.rev, cast_int row.at) refl) (λ trees id. rw map-append refl)

pub inserts_handover : {A E : Type 0} (old new : State) (row : HandoverRow) (r : Result A E) → RunsStatement insert_handover_text (insert_handover_values row) old new r → Commits (as_store_state old) (as_store_state new) (with_handover_row row (rows_in old.now.trees)) r
inserts_handover old new row r runs =
    inserts 4 7 handover_table 5 (insert_handover_values row) insert_handover_text insert_handover_is (with_handover_row row) old new r runs (λ others. refl) (λ rows is. is.1) (λ tables. tables.ordered.1.1.1.1.0)
    (rw (cast_null, cast_int row.at) refl) (λ trees id. rw map-append refl)

cast_moment : (lifted : Option ℤ) → cast Integer (integer_or_null lifted) ≡ integer_or_null lifted
cast_moment None = cast_null
cast_moment (Some at) = cast_int at

pub bound_moment : (lifted : Option ℤ) → bound_value (integer_or_null lifted) ≡ integer_or_null lifted
bound_moment None = refl
bound_moment (Some at) = refl

read_moment : (lifted : Option ℤ) → integer_unless_null (integer_or_null lifted) ≡ lifted
read_moment None = refl
read_moment (Some at) = refl

pub inserts_hold : {A E : Type 0} (old new : State) (row : HoldRow) (r : Result A E) → RunsStatement insert_hold_text (insert_hold_values row) old new r → Commits (as_store_state old) (as_store_state new) (with_hold_row row (rows_in old.now.trees)) r
inserts_hold old new row r runs =
    inserts 5 9 hold_table 5 (insert_hold_values row) insert_hold_text insert_hold_is (with_hold_row row) old new r runs (λ others. refl) (λ rows is. is.1) (λ tables. tables.ordered.1.1.1.1.1.0)
    (rw (cast_null, cast_int row.day, cast_int row.at, cast_moment row.lifted) refl) (λ trees id. rw (map-append, read_moment row.lifted) refl)
