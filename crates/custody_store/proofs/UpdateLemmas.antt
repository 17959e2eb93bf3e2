-- What an UPDATE of the rows of one table does: each row that passes WHERE is changed where it stands.
use Rattle.std.proofs.Common.{◌≡◌, ◌≢◌, ℕ, ℤ, Bool, true, false, cond, List, [], ◌∷◌, ◌++◌, map, filter, Option, None, Some, Ok, refl, sym, ap, subst, ◌∙◌, IsPermutation}
use Rattle.std.proofs.Common.{slice_get}
use Rattle.std.specs.List.{list_all, AllByRecursion}
use Rattle.std.specs.Prelude.{drop, flat_map, unwrap_or}
use Rattle.std.proofs.lemmas.List.Sorted.{IsPermutation-map, IsPermutation-sym}
use Rattle.sqlite.specs.Order.{Row}
use Rattle.sqlite.specs.declared.types.Value.TheVariants.{Null, Int}
use Rattle.sqlite.specs.Term.{Term, Env, eval_all, holds}
use Rattle.sqlite.specs.Query.{output, Output, IsAnswer}
use Rattle.sqlite_schema.specs.declared.program.Program.{Program}
use Rattle.sqlite.specs.Command.TheVariants.{Update}
use Rattle.sqlite.specs.Table.{Table}
use Rattle.sqlite.specs.Tree.{Trees, rowid}
use Rattle.sqlite.specs.Cast.{cast, cast_row}
use Rattle.sqlite.specs.Kind.TheVariants.{Integer}
use Rattle.sqlite.specs.Edit.{edit_of, id_in}
use Rattle.sqlite.specs.Program.{overlay}
use Rattle.sqlite.specs.Effect.{Database, Answers}
use Rattle.sqlite.specs.Does.{Tally, Does, AtPlace, OnRows}
use Rattle.sqlite.specs.Rows.{Written, Task}
use Rattle.sqlite.specs.declared.run.Mode.{Mode}
use Rattle.sqlite_rules.specs.declared.error.Rowids.TheVariants.{Given}
use Rattle.sqlite_rules.specs.Calls.{ids_of}
use Rattle.sqlite.specs.State.{State, mode_of}
use Rattle.sqlite_trees.specs.declared.store.Shape.TheVariants as shape
use Rattle.sqlite_trees.specs.View.{IsShaped}
use Rattle.sqlite_rules.specs.Action.{Writes}
use Rattle.sqlite_rules.specs.Edit.{without_all}
use Rattle.sqlite_rules.specs.Lists.{Has}
use Rattle.sqlite_rules.proofs.ListLemmas.{has_front, has_filtered, has_kept, all_has, all_from}
use Rattle.sqlite_rules.proofs.ProbeLemmas.{has_mapped, mapped_has}
use Rattle.sqlite_rules.proofs.PlaceLemmas.{given}
use Rattle.sqlite_rules.proofs.TableLemmas.{int_is}
use Rattle.sqlite_trees.proofs.ListLemmas.{all-permutation}
use Rattle.sqlite_keyed.proofs.ListLemmas.{map-map}
use Rattle.custody_store.proofs.InsertLemmas.{went, same_value}
use Rattle.custody_store.proofs.RowLemmas.{either, cast_int}
use Rattle.custody_store.specs.StoreState.{SchemaBeginsWith, HaveOwnTrees}
use Rattle.custody_store.proofs.ActionLemmas.{IsQuiet, steps, actions_keep}
use Rattle.custody_store.proofs.EditLemmas.{changed_where, changed_shaped, edited_is}
use Rattle.custody_store.proofs.StatementLemmas.{picked, updating}

-- the rows of the query were changed in the table, and nothing else was written
record Changed (db after : Database) (mode : Mode) (table : Table) (q : Program) (params : Row) : Type 0 where
  pub rows : List Row
  pub answer : Answers db q params rows
  pub schema : after.schema ≡ db.schema
  pub applied : Writes db.schema mode.keys db.trees (edit_of db.trees table (ids_of rows) Given 1 rows) (Ok after.trees)

abbrev Over : Option ℕ → Mode → Database → Table → Row → Task
Over limit mode db t params = record { limit = limit; keys = mode.keys; schema = db.schema; table = t; params = params }

concluded : (limit : Option ℕ) (mode : Mode) (db after : Database) (t : Table) (params : Row) (at : ℕ) (q : Program) (tally : Tally)
    → OnRows (Over limit mode db t params) mode None (Update at q) db.trees (Ok (tally, after)) → Changed db after mode t q params
concluded limit mode db after t params at q tally h =
    let done = went h in
    let tested = went done.2 in
    let returned = went tested.2 in
    let given = went done.1 in
    let written = went given.2 in
    let w = same_value written.2 in
    let now : after ≡ record { schema = db.schema; trees = done.0.trees } = ap (λ (p : Tally × Database). p.1) (same_value returned.2) in
    let trees : after.trees ≡ written.0 = ap (λ (d : Database). d.trees) now ∙ ap (λ (it : Written). it.trees) w in
    record {
      rows = given.0;
      answer = given.1;
      schema = ap (λ (d : Database). d.schema) now;
      applied = subst (λ (next : Trees). Writes db.schema mode.keys db.trees (edit_of db.trees t (ids_of given.0) Given 1 given.0) (Ok next)) (sym trees) written.1;
    }

changes : (limit : Option ℕ) (mode : Mode) (db after : Database) (t : Table) (params : Row) (text : List ℕ) (at : ℕ) (q : Program) (tally : Tally) → slice_get db.schema.tables at ≡ Some t
    → Does limit mode params db text None (Update at q) (Ok (tally, after)) → Changed db after mode t q params
changes limit mode db after t params text at q tally found does =
    concluded limit mode db after t params at q tally
    (subst (λ o. AtPlace (λ table. OnRows (record { limit = limit; keys = mode.keys; schema = db.schema; table = table; params = params }) mode None (Update at q) db.trees) o (Ok (tally, after))) found does)

-- ---- the rows that pass WHERE, in any order

-- over no earlier tables of a program, the tables are those of the database
bare : (trees : Trees) (tree : ℕ) → overlay trees [] tree ≡ trees tree
bare trees tree = ap (λ rows. unwrap_or rows (trees tree)) (either _ None)

-- a row is tested beside the parameters
abbrev beside : Row → Row → Env
beside params r = params ∷ r ∷ []

abbrev pub passes : List Term → Row → Row → Bool
passes tests params r = list_all (holds (beside params r)) tests

abbrev pub shows : List Term → Row → Row → Row
shows project params r = eval_all project (beside params r)

each_match : {X Y : Type 0} (p : X → Bool) (f : X → Y) (xs : List X) → flat_map (λ x. cond (p x) (f x ∷ []) []) xs ≡ map f (filter p xs)
each_match p f [] = refl
each_match p f (x ∷ xs) =
    elim (p x) as (λ b. cond b (f x ∷ []) [] ++ flat_map (λ z. cond (p z) (f z ∷ []) []) xs ≡ map f (cond b (x ∷ filter p xs) (filter p xs)))
    [ true ↦ ap (λ l. f x ∷ l) (each_match p f xs) | false ↦ each_match p f xs ]

-- the answer is that of the rows that pass, in some order
picks : (tree : ℕ) (tests project : List Term) (trees : Trees) (params : Row) (rows : List Row) → IsAnswer (picked tree tests project) trees params rows
    → IsPermutation (map (shows project params) (filter (passes tests params) (trees tree))) rows
picks tree tests project trees params rows a =
    let q = picked tree tests project in
    let passing = filter (passes tests params) (trees tree) in
    let all : a.kept ≡ map (output q) (map (beside params) passing) = a.distinct ∙ ap (map (output q)) (a.grouped ∙ each_match (passes tests params) (beside params) (trees tree)) in
    let shown : rows ≡ map (λ (o : Output). o.1) a.ordered = a.shown in
    let same = IsPermutation-map (λ (o : Output). o.1) _ _ (subst (λ l. IsPermutation l a.ordered) all a.same) in
    subst (IsPermutation _) (sym shown) (subst (λ l. IsPermutation l (map (λ (o : Output). o.1) a.ordered))
    (ap (map (λ (o : Output). o.1)) (map-map (output q) (beside params) passing) ∙ map-map (λ (o : Output). o.1) (λ r. output q (beside params r)) _) same)

has_permuted : {X : Type 0} (xs ys : List X) (x : X) → IsPermutation xs ys → Has ys x → Has xs x
has_permuted xs ys x same = all_has (Has xs) ys x (all-permutation (Has xs) xs ys same (all_from (Has xs) xs (λ e h. h)))

module _ (tests project : List Term) (params : Row) (table answer : List Row) (picked_are : IsPermutation (map (shows project params) (filter (passes tests params) table)) answer) where
  -- each row of the answer is that of a row that passes
  row_of : (a : Row) → Has answer a → (s : Row) × Has table s × (passes tests params s ≡ true) × (a ≡ shows project params s)
  row_of a h =
      let s = has_mapped (shows project params) _ a (has_permuted _ answer a picked_are h) in
      let was = has_filtered (passes tests params) table s.0 s.1 in
      (s.0, was.0, was.1, s.2)

  row_for : (s : Row) → Has table s → passes tests params s ≡ true → Has answer (shows project params s)
  row_for s h is = has_permuted answer _ _ (IsPermutation-sym _ _ picked_are) (mapped_has (shows project params) _ s (has_kept (passes tests params) table s h is))

-- ---- the whole table

-- the rows that pass were changed where they stand, and those of the other tables of these are as they were
pub record Rewrites (first : List Table) (tree : ℕ) (p : Row → Bool) (f : Row → Row) (db after : Database) : Type 0 where
  pub schema : after.schema ≡ db.schema
  pub here : after.trees tree ≡ changed_where p f (db.trees tree)
  pub shaped : IsShaped shape.Table (after.trees tree)
  pub others : AllByRecursion (λ t. t.tree ≢ tree → after.trees t.tree ≡ db.trees t.tree) first

-- what comes in the place of a row
abbrev pub heir : Table → List Term → Row → Row → Row
heir t project params r = cast_row t (drop 1 (shows project params r))

-- it keeps the rowid
pub heir_rowid : (t : Table) (project : List Term) (params : Row) (table : List Row) → IsShaped shape.Table table → ((r : Row) → rowid (drop 1 (shows project params r)) ≡ rowid r) → (r : Row) → Has table r → rowid (heir t project params r) ≡ rowid r
heir_rowid t project params table shaped comes r h =
    let int : rowid r ≡ Int (id_in (rowid r)) = int_is (rowid r) (all_has _ table r shaped.1 h) in
    ap (cast Integer) (comes r ∙ int) ∙ cast_int (id_in (rowid r)) ∙ sym int

pub rewrites : (first : List Table) → AllByRecursion IsQuiet first → (s : State) (at : ℕ) (t : Table) (tests project : List Term) (params : Row) (text : List ℕ)
    → SchemaBeginsWith first s.now.schema → HaveOwnTrees s.now.schema.tables → Has first t → ((others : List Table) → slice_get (first ++ others) at ≡ Some t)
    → IsShaped shape.Table (s.now.trees t.tree)
    → ((r : Row) → rowid (shows project params r) ≡ rowid r) → ((r : Row) → rowid (drop 1 (shows project params r)) ≡ rowid r)
    → (tally : Tally) (after : Database) → Does s.step_limit (mode_of s) params s.now text None (Update at (updating t.tree tests project)) (Ok (tally, after))
    → Rewrites first t.tree (passes tests params) (heir t project params) s.now after
rewrites first quiet s at t tests project params text begins apart listed found shaped goes comes tally after does =
    let table = s.now.trees t.tree in
    let same_rowid = heir_rowid t project params table shaped comes in
    let schema = s.now.schema in
    let q = updating t.tree tests project in
    let cast_of = λ (a : Row). cast_row t (drop 1 a) in
    let it : Changed s.now after (mode_of s) t q params = changes s.step_limit (mode_of s) s.now after t params text at q tally (ap (λ l. slice_get l at) begins.1 ∙ found begins.0) does in
    let same = subst (λ rows. IsPermutation (map (shows project params) (filter (passes tests params) rows)) it.rows) (bare s.now.trees t.tree) (picks t.tree tests project (overlay s.now.trees []) params it.rows (it.answer.answer Null)) in
    let edit = edit_of s.now.trees t (ids_of it.rows) Given 1 it.rows in
    let news : edit.news ≡ map cast_of it.rows = given (without_all table (ids_of it.rows)) (map cast_of it.rows) in
    let step = steps schema (mode_of s).keys s.now.trees after.trees edit it.applied in
    let applied = step.applied in
    let kept : (u : Table) → Has first u → after.trees u.tree ≡ step.mid u.tree = λ (u : Table) (h : Has first u).
    actions_keep schema (mode_of s).keys apart u (has_front schema.tables first begins.0 u begins.1 h) (all_has IsQuiet first u quiet h) s.now.trees after.trees edit step in
    let ids_from : (id : ℤ) → Has (ids_of it.rows) id → (r : Row) × Has table r × (passes tests params r ≡ true) × (id ≡ id_in (rowid r)) = λ (id : ℤ) (h : Has (ids_of it.rows) id).
    let a = has_mapped (λ r. id_in (rowid r)) it.rows id h in
    let r = row_of tests project params table it.rows same a.0 a.1 in
    (r.0, r.1, r.2, a.2 ∙ ap (λ x. id_in (rowid x)) r.3 ∙ ap id_in (goes r.0)) in
    let news_from : (n : Row) → Has edit.news n → (r : Row) × Has table r × (passes tests params r ≡ true) × (n ≡ heir t project params r) = λ (n : Row) (h : Has edit.news n).
    let a = has_mapped cast_of it.rows n (subst (λ l. Has l n) news h) in
    let r = row_of tests project params table it.rows same a.0 a.1 in
    (r.0, r.1, r.2, a.2 ∙ ap cast_of r.3) in
    let news_has : (r : Row) → Has table r → passes tests params r ≡ true → Has edit.news (heir t project params r) = λ (r : Row) (h : Has table r) (is : passes tests params r ≡ true).
    subst (λ l. Has l (heir t project params r)) (sym news) (mapped_has cast_of it.rows _ (row_for tests project params table it.rows same r h is)) in
    let edited = edited_is table (passes tests params) (heir t project params) shaped same_rowid (ids_of it.rows) edit.news ids_from news_from news_has applied.keyed applied.fresh in
    let here = kept t listed ∙ applied.rows ∙ edited in
    record {
      schema = it.schema;
      here = here;
      shaped = subst (IsShaped shape.Table) (sym here) (changed_shaped table (passes tests params) (heir t project params) shaped same_rowid);
      others = all_from (λ (u : Table). u.tree ≢ t.tree → after.trees u.tree ≡ s.now.trees u.tree) first (λ u h other. kept u h ∙ all_has _ schema.tables u applied.tables (has_front schema.tables first begins.0 u begins.1 h) other);
    }
