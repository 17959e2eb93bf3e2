-- The UPDATE that writes the number of schema 2 into meta, in the transaction that has made the table of holds.
use Rattle.std.proofs.Common.{◌≡◌, inl, ℕ, pos, [], map, codes, None, Ok, refl, sym, ap, subst, ◌∙◌}
use Rattle.std.proofs.lemmas.Bool.{and_parts}
use Rattle.sqlite.specs.Order.{Row}
use Rattle.sqlite.specs.Table.{Table}
use Rattle.sqlite.specs.Tree.{Trees, rowid, with_tree}
use Rattle.sqlite.specs.Change.{next_tree}
use Rattle.sqlite.specs.Command.TheVariants.{Update}
use Rattle.sqlite.specs.Effect.{Database}
use Rattle.sqlite.specs.Listing.{understood}
use Rattle.sqlite.specs.State.{State, Writes, ExecutesInside}
use Rattle.sqlite.proofs.Callers.{statement_of, runs_as}
use Rattle.sqlite_schema.specs.declared.schema.Constraint.TheVariants.{Datatype}
use Rattle.sqlite_catalog.specs.Listing.{IsSound}
use Rattle.sqlite_trees.specs.declared.store.Shape.TheVariants as shape
use Rattle.sqlite_trees.specs.View.{IsShaped}
use Rattle.sqlite_rules.specs.Lists.{Has}
use Rattle.sqlite_rules.proofs.ListLemmas.{all_has}
use Rattle.sqlite_keyed.proofs.ListLemmas.{map-map}
use Rattle.custody_records.specs.Rows.{MetaRow, migrated_rows}
use Rattle.custody_store.specs.Schema.{first_schema, record_schema, meta_table}
use Rattle.custody_store.specs.Reading.{rows_in, stored_meta_row}
use Rattle.custody_store.specs.inside.Making.{IsMakingTables, HasMadeTables}
use Rattle.custody_store.specs.StoreState.{HasOnlyTables, SchemaBeginsWith, HaveOwnTrees}
use Rattle.sqlite.specs.Schema.{Schema}
use Rattle.custody_store.proofs.AmongLemmas.{record_quiet, record_apart}
use Rattle.custody_store.specs.Statements.{set_schema_text}
use Rattle.custody_store.proofs.StatementLemmas.{set_schema_places, set_schema_program, set_schema_is, over_schema_2}
use Rattle.custody_store.proofs.TableLemmas.{rows_first, rows_held, held_beside, held_rows, sound_as, rows_after, ordered_as, held_as}
use Rattle.custody_store.proofs.UpdateLemmas.{rewrites, heir, heir_rowid}
use Rattle.custody_store.proofs.TestLemmas.{map_has}
use Rattle.custody_store.proofs.ColumnLemmas.{cast_at}
use Rattle.custody_store.proofs.MissingLemmas.{not_there}
use Rattle.custody_store.proofs.ReadLemmas.{holds_apart}
use Rattle.custody_store.proofs.RowLemmas.{at_tree, cast_int}

-- the rows of a database of schema 1, of which the tree that the table of holds gets has none
abbrev pub without_holds : Trees → Trees
without_holds trees = with_tree trees (next_tree first_schema) []

abbrev meta_at : Table
meta_at = at_tree 0 meta_table

-- the row that comes in the place of a row
abbrev set : Row → Row
set = heir meta_at set_schema_places []

abbrev in_schema_2 : MetaRow → MetaRow
in_schema_2 row = record row { schema_no = pos 2 }

module _ (trees : Trees) (sound : IsSound record_schema trees) (shaped : IsShaped shape.Table (trees 0)) (r : Row) (has : Has (trees 0) r) where
  set_is : stored_meta_row (set r) ≡ in_schema_2 (stored_meta_row r)
  set_is =
      let typed = (and_parts _ _ (all_has _ (trees 0) r (sound.obeys.rules Datatype).0 has)).0 in
      let same_rowid : rowid (set r) ≡ rowid r = heir_rowid meta_at set_schema_places [] (trees 0) shaped (λ r. refl) r has in
      rw (same_rowid, cast_int (pos 2), cast_at meta_at r typed 2 _ refl refl refl refl, cast_at meta_at r typed 3 _ refl refl refl refl) refl

-- schema 1 has no rows of holds
earlier_rows : (first : Database) → HasOnlyTables first_schema first → rows_in first.trees ≡ held_beside None first.trees
earlier_rows first tables =
    let sound = sound_as first_schema first tables.schema_is tables.sound in
    let none : (rows_in first.trees).holds ≡ None = rw (not_there first.trees first_schema (codes "hold") sound holds_apart) refl in
    rows_first first.trees first_schema ([], refl) sound ∙ ap (λ holds. held_beside holds first.trees) none

pub sets_schema : (first : Database) (old new : State) (count : ℕ) → HasOnlyTables first_schema first → IsMakingTables record_schema first (without_holds first.trees) old → ExecutesInside 0 set_schema_text [] old new (Ok count)
    → HasMadeTables (migrated_rows (rows_in first.trees)) first new
sets_schema first old new count tables making h =
    let text = statement_of set_schema_text (understood record_schema set_schema_text) in
    let means = over_schema_2 set_schema_is in
    let w : Writes old new None (Update 0 set_schema_program) text [] count = runs_as set_schema_text [] old new record_schema making.schema_is (Update 0 set_schema_program) means.is means.plain count h.0 in
    let before = sound_as record_schema old.now making.schema_is making.sound in
    let was = making.rows_are in
    let trees = old.now.trees in
    let after = new.now.trees in
    let up = tables.ordered in
    let shaped : IsShaped shape.Table (trees 0) = subst (IsShaped shape.Table) (sym was.0) up.0 in
    let begins : SchemaBeginsWith record_schema.tables old.now.schema = ([], ap (λ (t : Schema). t.tables) making.schema_is) in
    let apart = subst (λ (t : Schema). HaveOwnTrees t.tables) (sym making.schema_is) record_apart in
    let it = rewrites record_schema.tables record_quiet old 0 meta_at [] set_schema_places [] text begins apart (inl refl) (λ others. refl) shaped (λ r. refl) (λ r. refl) w.tally new.now w.changed in
    let schema : new.now.schema ≡ record_schema = it.schema ∙ making.schema_is in
    let all = with_tree (without_holds first.trees) 0 (after 0) in
    let have = rows_after record_schema.tables 0 trees after (without_holds first.trees) (after 0) it.others refl was in
    let read : map stored_meta_row (after 0) ≡ map in_schema_2 (map stored_meta_row (first.trees 0)) =
    ap (map stored_meta_row) it.here ∙ map-map stored_meta_row set (trees 0) ∙ map_has _ _ (trees 0) (set_is trees before shaped) ∙ sym (map-map in_schema_2 stored_meta_row (trees 0)) ∙ ap (λ rows. map in_schema_2 (map stored_meta_row rows)) was.0 in
    let same : held_rows after ≡ migrated_rows (held_beside None first.trees) = held_as all after have ∙ rw read refl in
    record {
      is_open = w.shown.is_open;
      inside = h.1.mode;
      committed = h.1.committed_is ∙ making.committed;
      tables = record { schema_is = schema; sound = w.sound; ordered = ordered_as record_schema.tables all after have (it.shaped, (up.1.0, (up.1.1.0, (up.1.1.1.0, (up.1.1.1.1.0, ((tt, tt), tt)))))) };
      rows_are = rows_held after (sound_as record_schema new.now schema w.sound) ∙ same ∙ sym (ap migrated_rows (earlier_rows first tables));
    }
