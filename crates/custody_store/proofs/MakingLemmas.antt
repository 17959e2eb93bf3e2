-- CREATE TABLE inside a transaction.
use Rattle.std.proofs.Common.{◌≡◌, ℕ, List, [], ◌∷◌, ◌++◌, false, None, Ok, Err, Result, refl, sym, ap, subst, ◌∙◌}
use Rattle.std.specs.List.{AllByRecursion}
use Rattle.sqlite.specs.Table.{Table}
use Rattle.sqlite.specs.Schema.{Schema}
use Rattle.sqlite.specs.Tree.{Trees}
use Rattle.sqlite.specs.Change.{created, next_tree, KeepsRows}
use Rattle.sqlite.specs.Compile.{table_defined_by}
use Rattle.sqlite.specs.Command.TheVariants.{CreateTable}
use Rattle.sqlite.specs.Listing.{understood}
use Rattle.sqlite.specs.Effect.{Database}
use Rattle.sqlite.specs.Store.{Ghosts}
use Rattle.sqlite.specs.Held.{Held, state}
use Rattle.sqlite.specs.Does.{Tally, lacks_sequence}
use Rattle.sqlite.specs.State.{State, Writes, ExecutesInside}
use Rattle.sqlite.proofs.Callers.{command_of, statement_of, runs_as}
use Rattle.std.proofs.Common.{ℤ, pos}
use Rattle.sqlite.specs.declared.types.Value.TheVariants.{Null, Int, Text}
use Rattle.sqlite.specs.Order.{Row}
use Rattle.sqlite.specs.Cast.{cast_row}
use Rattle.sqlite.specs.Command.TheVariants.{Insert}
use Rattle.sqlite.specs.Edit.{edit_of}
use Rattle.sqlite.specs.Rowids.TheVariants.{Chosen}
use Rattle.sqlite.specs.Tree.{put_row, with_tree}
use Rattle.sqlite.specs.Does.{Does}
use Rattle.sqlite.specs.State.{mode_of}
use Rattle.sqlite.proofs.Callers.{one_step}
use Rattle.sqlite_rules.specs.Action.{Writes as EditWrites}
use Rattle.sqlite_rules.specs.Edit.{with_rowid}
use Rattle.custody_store.specs.Schema.{record_schema, meta_table}
use Rattle.custody_records.specs.Rows.{initial_rows}
use Rattle.custody_store.specs.Reading.{rows_in}
use Rattle.custody_store.specs.inside.Making.{HasMadeTables, empty_trees}
use Rattle.custody_store.specs.Statements.{insert_meta_text}
use Rattle.custody_store.proofs.StatementLemmas.{meta_source, insert_meta_is, over_schema_2}
use Rattle.custody_store.specs.Calls.{SqlStatement, AreRun}
use Rattle.custody_store.proofs.SchemaLemmas.{Creation, AreCreations}
use Rattle.custody_store.proofs.TableLemmas.{rows_held, held_rows, sound_as, rows_after, ordered_as, held_as}
use Rattle.custody_store.proofs.InsertLemmas.{went, same_value, puts}
use Rattle.custody_store.proofs.RowLemmas.{cast_null, cast_int, at_tree}
use Rattle.sqlite_resolve.specs.declared.compiled.Compiled.{Compiled}
use Rattle.sqlite_resolve.specs.declared.error.CompileError.{CompileError}
use Rattle.custody_store.specs.inside.Making.{IsMakingTables, IsCreateText, TextMakesTable}

all_push : {X : Type 0} (P : X → Type 0) (xs : List X) (x : X) → AllByRecursion P xs → P x → AllByRecursion P (xs ++ x ∷ [])
all_push P [] x all h = (h, tt)
all_push P (y ∷ xs) x all h = (all.0, all_push P xs x all.1 h)

still_are : (rows old new : Trees) (tables : List Table) → KeepsRows tables old new → AllByRecursion (λ t. old t.tree ≡ rows t.tree) tables → AllByRecursion (λ t. new t.tree ≡ rows t.tree) tables
still_are rows old new [] kept are = tt
still_are rows old new (t ∷ tables) kept are = (kept.0 ∙ are.0, still_are rows old new tables kept.1 are.1)

meant : (sql : List ℕ) (table : Table) (r : Result Compiled CompileError) → TextMakesTable sql table r → (command_of r ≡ CreateTable) × (table_defined_by (statement_of sql r) ≡ Ok table)
meant sql table (Ok c) h = h
meant sql table (Err e) h = absurd h

makes : (sql : List ℕ) (old new : State) (count : ℕ) → ExecutesInside 0 sql [] old new (Ok count) → (schema : Schema) (table : Table) (first : Database) (rows : Trees) → rows (next_tree schema) ≡ [] → IsCreateText schema sql table → IsMakingTables schema first rows old
    → IsMakingTables (created schema table) first rows new
makes sql old new count h schema table first rows none text making =
    let means = meant sql table (understood schema sql) text.means in
    let w = subst (λ t. Writes old new None CreateTable t [] count) refl (runs_as sql [] old new schema making.schema_is CreateTable means.0 text.plain count h.0) in
    let all = went w.changed in
    let one = went all.1 in
    let made = one.1 in
    let both : Ok made.table ≡ Ok table = sym made.defined ∙ means.1 in
    let same : made.table ≡ table = same_value both in
    let after : one.0.schema ≡ created schema table = made.is ∙ ap (λ s. created s made.table) making.schema_is ∙ ap (created schema) same in
    let uncounted : lacks_sequence one.0.schema ≡ false = ap lacks_sequence after ∙ text.uncounted in
    let now : new.now ≡ one.0 = ap (λ (p : Tally × Database). p.1) (same_value all.2) ∙ same_value (rw uncounted at one.2) in
    let trees : new.now.trees ≡ one.0.trees = ap (λ (d : Database). d.trees) now in
    let fresh : one.0.trees (next_tree schema) ≡ [] = subst (λ s. one.0.trees (next_tree s) ≡ []) making.schema_is made.empty in
    let others = subst (λ (s : Schema). KeepsRows s.tables old.now.trees one.0.trees) making.schema_is made.others in
    record {
      is_open = h.1.is_open;
      inside = h.1.mode;
      committed = h.1.committed_is ∙ making.committed;
      schema_is = ap (λ (d : Database). d.schema) now ∙ after;
      sound = w.sound;
      rows_are = subst (λ (t : Trees). AllByRecursion (λ u. t u.tree ≡ rows u.tree) (created schema table).tables) (sym trees) (all_push (λ t. one.0.trees t.tree ≡ rows t.tree) schema.tables _ (still_are rows old.now.trees one.0.trees schema.tables others making.rows_are) (fresh ∙ sym none));
    }

-- the schema after these tables
abbrev all_created : Schema → List Creation → Schema
all_created schema [] = schema
all_created schema (it ∷ more) = all_created (created schema it.1) more

-- their statements, before others
abbrev creations_and : List Creation → List SqlStatement → List SqlStatement
creations_and [] others = others
creations_and (it ∷ more) others = (it.0, []) ∷ creations_and more others

pub makes_each : {S : Type 0} (g : Ghosts S) (schema : Schema) (creations : List Creation) (others : List SqlStatement) (first : Database) (rows : Trees) (old new : Held S) → AreCreations schema rows creations → IsMakingTables schema first rows (state g old)
    → AreRun g (creations_and creations others) old new → (mid : Held S) × IsMakingTables (all_created schema creations) first rows (state g mid) × AreRun g others mid new
makes_each g schema [] others first rows old new are making ran = (old, making, ran)
makes_each g schema (it ∷ more) others first rows old new are making ran =
    makes_each g (created schema it.1) more others first rows ran.1 new are.2 (makes it.0 (state g old) (state g ran.1) ran.0 ran.2 schema it.1 first rows are.0 are.1 making) ran.3

-- ---- the row of meta

module _ (number : List ℕ) (blocks : ℤ) where
  abbrev source : Row
  source = Int (pos 1) ∷ Null ∷ Int (pos 2) ∷ Text number ∷ Int blocks ∷ []

  typed : cast_row (at_tree 0 meta_table) source ≡ source
  typed = rw (cast_int (pos 1), cast_int (pos 2), cast_null, cast_int blocks) refl

  pub puts_meta : (first : Database) (old new : State) (count : ℕ) → IsMakingTables record_schema first empty_trees old → ExecutesInside 0 insert_meta_text (Text number ∷ Int blocks ∷ []) old new (Ok count) → HasMadeTables (initial_rows number blocks) first new
  puts_meta first old new count making h =
      let params = Text number ∷ Int blocks ∷ [] in
      let trees = old.now.trees in
      let db : Database = record { schema = record_schema; trees = trees } in
      let text = statement_of insert_meta_text (understood record_schema insert_meta_text) in
      let means = over_schema_2 insert_meta_is in
      let w : Writes old new None (Insert 0 meta_source) text params count = runs_as insert_meta_text params old new record_schema making.schema_is (Insert 0 meta_source) means.is means.plain count h.0 in
      let here = subst (λ t. Does old.step_limit (mode_of old) params (record old.now { schema = t }) text None (Insert 0 meta_source) (Ok (w.tally, new.now))) making.schema_is w.changed in
      let it = puts old.step_limit (mode_of old) db new.now (at_tree 0 meta_table) params text 0 meta_source w.tally refl here in
      let edit = edit_of trees (at_tree 0 meta_table) [] Chosen 0 (source ∷ []) in
      let wrote = subst (λ rows. EditWrites record_schema (mode_of old).keys trees (edit_of trees (at_tree 0 meta_table) [] Chosen 0 rows) (Ok new.now.trees)) it.source.1 it.applied in
      let put = one_step record_schema (mode_of old).keys trees new.now.trees edit refl wrote in
      let rows : new.now.trees 0 ≡ source ∷ [] = put.rows ∙ ap (λ row. put_row (with_rowid Chosen (trees 0) row) (trees 0)) typed ∙ ap (put_row source) making.rows_are.0 in
      let all = with_tree empty_trees 0 (source ∷ []) in
      let have = rows_after record_schema.tables 0 trees new.now.trees empty_trees (source ∷ []) put.tables rows making.rows_are in
      let schema : new.now.schema ≡ record_schema = it.schema in
      let now : rows_in new.now.trees ≡ held_rows new.now.trees = rows_held new.now.trees (sound_as record_schema new.now schema w.sound) in
      record {
        is_open = w.shown.is_open;
        inside = h.1.mode;
        committed = h.1.committed_is ∙ making.committed;
        tables = record { schema_is = schema; sound = w.sound; ordered = ordered_as record_schema.tables all new.now.trees have (((tt, tt), (refl, tt)), ((tt, tt), ((tt, tt), ((tt, tt), ((tt, tt), ((tt, tt), tt)))))) };
        rows_are = now ∙ held_as all new.now.trees have;
      }
