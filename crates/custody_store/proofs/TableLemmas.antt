-- The rows of a database that has the tables, or begins with them.
use Rattle.std.proofs.Common.{◌≡◌, ◌≢◌, inl, inr, ℕ, ◌-◌, ℤ, pos, ◌+ℤ◌, ◌<ℤ◌, ◌&&◌, Bool, List, [], ◌∷◌, ◌++◌, map, filter, find, fold, codes, bytes_eq, option_map, Option, Some, drop, refl, sym, ap, subst, ◌∙◌, IsTrue, Less, int_cmp, arith}
use Rattle.std.specs.Prelude.{◌==◌}
use Rattle.std.specs.List.{AllByRecursion, AllZip}
use Rattle.std.proofs.lemmas.Int.{ints}
use Rattle.std.proofs.lemmas.Bool.{cases_Bool}
use Rattle.std.proofs.lemmas.Bool.Decides.{nat_tests}
use Rattle.sqlite.specs.declared.types.Value.TheVariants.{Int}
use Rattle.sqlite.specs.Order.{Row, column, bytes, value_cmp}
use Rattle.sqlite_value.proofs.OrderLemmas.{value_cmp-Int}
use Rattle.sqlite.specs.Tree.{Trees, rowid, put_row, with_tree, IsTable}
use Rattle.sqlite_trees.specs.Objects.{catalog_tree, number_in}
use Rattle.sqlite_trees.specs.View.{is_int, IsShaped}
use Rattle.sqlite_trees.specs.declared.store.Shape.TheVariants as shape
use Rattle.sqlite_rules.specs.Edit.{id_in, next_rowid}
use Rattle.sqlite_rules.proofs.TableLemmas.{int_is}
use Rattle.sqlite_catalog.specs.Listing.{is_table_row, IsTableRow, IsSound}
use Rattle.sqlite.specs.Table.{Table}
use Rattle.sqlite.specs.Schema.{Schema}
use Rattle.sqlite.specs.Effect.{Database, IsDatabase}
use Rattle.custody_store.specs.Schema.{meta_schema, first_schema, record_schema}
use Rattle.custody_records.specs.Rows.{HoldRow, Rows}
use Rattle.custody_store.specs.StoreState.{AreOrdered, SchemaBeginsWith}
use Rattle.custody_store.specs.Reading.{stored_meta_row, stored_registry_row, stored_part_row, stored_notice_row, stored_handover_row, stored_hold_row, tree_named, rows_in}

-- a database whose schema is known
pub sound_as : (schema : Schema) (d : Database) → d.schema ≡ schema → IsDatabase d → IsSound schema d.trees
sound_as schema d is sound = subst (λ (t : Schema). IsSound t d.trees) is sound

-- ---- the table of a name

find_filtered : {X : Type 0} (p q : X → Bool) (xs : List X) → find (λ x. p x && q x) xs ≡ find q (filter p xs)
find_filtered p q [] = refl
find_filtered p q (x ∷ xs) = elim (cases_Bool (p x)) [ inl is ↦ elim (cases_Bool (q x)) [ inl also ↦ rw (is, also) | inr other ↦ rw (is, other, find_filtered p q xs) ] | inr other ↦ rw (other, find_filtered p q xs) ]

-- the rows of the five tables that both schemas have, and these of holds
abbrev pub held_beside : Option (List HoldRow) → Trees → Rows
held_beside holds trees = record {
  meta = Some (map stored_meta_row (trees 0));
  registries = Some (map stored_registry_row (trees 1));
  parts = Some (map stored_part_row (trees 3));
  notices = Some (map stored_notice_row (trees 5));
  handovers = Some (map stored_handover_row (trees 7));
  holds = holds;
}

abbrev pub held_rows : Trees → Rows
held_rows trees = held_beside (Some (map stored_hold_row (trees 9))) trees

abbrev pub named_in : List ℕ → List Row → Option ℕ
named_in name objects = option_map (λ object. number_in (rowid object) - 1) (find (λ object. bytes_eq (bytes (column object 2)) name) objects)

abbrev AreNamed : List Row → Type 0
AreNamed objects = (named_in (codes "meta") objects ≡ Some 0) × (named_in (codes "registry") objects ≡ Some 1) × (named_in (codes "part") objects ≡ Some 3) × (named_in (codes "notice") objects ≡ Some 5) × (named_in (codes "handover") objects ≡ Some 7)

are_named : (others : List Table) (objects : List Row) → AllZip IsTableRow objects (first_schema.tables ++ others) → AreNamed objects
are_named others (a ∷ b ∷ c ∷ d ∷ e ∷ more) h =
    let m = h.0.described in
    let r = h.1.0.described in
    let p = h.1.1.0.described in
    let n = h.1.1.1.0.described in
    let o = h.1.1.1.1.0.described in
    (rw (m.name_is, m.id), rw (m.name_is, r.name_is, r.id), rw (m.name_is, r.name_is, p.name_is, p.id), rw (m.name_is, r.name_is, p.name_is, n.name_is, n.id), rw (m.name_is, r.name_is, p.name_is, n.name_is, o.name_is, o.id))
are_named others [] h = absurd h
are_named others (a ∷ []) h = absurd h.1
are_named others (a ∷ b ∷ []) h = absurd h.1.1
are_named others (a ∷ b ∷ c ∷ []) h = absurd h.1.1.1
are_named others (a ∷ b ∷ c ∷ d ∷ []) h = absurd h.1.1.1.1

hold_named : (others : List Table) (objects : List Row) → AllZip IsTableRow objects (record_schema.tables ++ others) → named_in (codes "hold") objects ≡ Some 9
hold_named others (a ∷ b ∷ c ∷ d ∷ e ∷ f ∷ more) h =
    let m = h.0.described in
    let r = h.1.0.described in
    let p = h.1.1.0.described in
    let n = h.1.1.1.0.described in
    let o = h.1.1.1.1.0.described in
    let held = h.1.1.1.1.1.0.described in
    rw (m.name_is, r.name_is, p.name_is, n.name_is, o.name_is, held.name_is, held.id)
hold_named others [] h = absurd h
hold_named others (a ∷ []) h = absurd h.1
hold_named others (a ∷ b ∷ []) h = absurd h.1.1
hold_named others (a ∷ b ∷ c ∷ []) h = absurd h.1.1.1
hold_named others (a ∷ b ∷ c ∷ d ∷ []) h = absurd h.1.1.1.1
hold_named others (a ∷ b ∷ c ∷ d ∷ e ∷ []) h = absurd h.1.1.1.1.1

meta_named : (others : List Table) (objects : List Row) → AllZip IsTableRow objects (meta_schema.tables ++ others) → named_in (codes "meta") objects ≡ Some 0
meta_named others (a ∷ more) h = let m = h.0.described in rw (m.name_is, m.id)
meta_named others [] h = absurd h

pub named : (name : List ℕ) (trees : Trees) → tree_named name trees ≡ named_in name (filter is_table_row (trees catalog_tree))
named name trees = ap (option_map (λ object. number_in (rowid object) - 1)) (find_filtered is_table_row (λ object. bytes_eq (bytes (column object 2)) name) (trees catalog_tree))

-- where the first tables are the five, whatever comes after
pub rows_first : (trees : Trees) (schema : Schema) → SchemaBeginsWith first_schema.tables schema → IsSound schema trees → rows_in trees ≡ held_beside (rows_in trees).holds trees
rows_first trees schema begins sound =
    let all = are_named begins.0 _ (subst (AllZip IsTableRow (filter is_table_row (trees catalog_tree))) begins.1 sound.lists.listed.tables) in
    let m = named (codes "meta") trees ∙ all.0 in
    let r = named (codes "registry") trees ∙ all.1 in
    let p = named (codes "part") trees ∙ all.2 in
    let n = named (codes "notice") trees ∙ all.3 in
    let o = named (codes "handover") trees ∙ all.4 in
    rw (m, r, p, n, o)

-- and where that of holds is the sixth
pub holds_first : (trees : Trees) (schema : Schema) → SchemaBeginsWith record_schema.tables schema → IsSound schema trees → (rows_in trees).holds ≡ Some (map stored_hold_row (trees 9))
holds_first trees schema begins sound =
    let held = named (codes "hold") trees ∙ hold_named begins.0 _ (subst (AllZip IsTableRow (filter is_table_row (trees catalog_tree))) begins.1 sound.lists.listed.tables) in
    rw held refl

-- where the first are the six
pub rows_among : (trees : Trees) (schema : Schema) → SchemaBeginsWith record_schema.tables schema → IsSound schema trees → rows_in trees ≡ held_rows trees
rows_among trees schema begins sound =
    rows_first trees schema (drop 5 record_schema.tables ++ begins.0, begins.1) sound
    ∙ ap (λ holds. held_beside holds trees) (holds_first trees schema begins sound)

pub rows_held : (trees : Trees) → IsSound record_schema trees → rows_in trees ≡ held_rows trees
rows_held trees = rows_among trees record_schema ([], refl)

-- where the first is meta
pub meta_first : (trees : Trees) (schema : Schema) → SchemaBeginsWith meta_schema.tables schema → IsSound schema trees → (rows_in trees).meta ≡ Some (map stored_meta_row (trees 0))
meta_first trees schema begins sound =
    let m = named (codes "meta") trees ∙ meta_named begins.0 _ (subst (AllZip IsTableRow (filter is_table_row (trees catalog_tree))) begins.1 sound.lists.listed.tables) in
    rw m refl

-- ---- the rows of one table changed

-- those of each other of these tables are as they were
abbrev pub OthersStay : List Table → ℕ → Trees → Trees → Type 0
OthersStay tables tree old new = AllByRecursion (λ t. t.tree ≢ tree → new t.tree ≡ old t.tree) tables

-- each of these tables has these rows
abbrev pub HaveRows : List Table → Trees → Trees → Type 0
HaveRows tables rows trees = AllByRecursion (λ t. trees t.tree ≡ rows t.tree) tables

pub rows_after : (tables : List Table) (tree : ℕ) (old new before : Trees) (rows : List Row) → OthersStay tables tree old new → new tree ≡ rows → HaveRows tables before old → HaveRows tables (with_tree before tree rows) new
rows_after [] tree old new before rows others here was = tt
rows_after (t ∷ tables) tree old new before rows others here was = (
  elim (cases_Bool (t.tree == tree)) [
    | inl is ↦ let same : t.tree ≡ tree = grind (arith, nat_tests) in rw is (ap new same ∙ here)
    | inr other ↦ rw other (others.0 (λ e. grind (arith, nat_tests)) ∙ was.0)
  ],
  rows_after tables tree old new before rows others.1 here was.1,
)

pub ordered_with : (tables : List Table) (tree : ℕ) (trees : Trees) (rows : List Row) → AreOrdered tables trees → IsShaped shape.Table rows → AreOrdered tables (with_tree trees tree rows)
ordered_with [] tree trees rows up shaped = tt
ordered_with (t ∷ tables) tree trees rows up shaped = (
  elim (cases_Bool (t.tree == tree)) [ inl is ↦ rw is shaped | inr other ↦ rw other up.0 ],
  ordered_with tables tree trees rows up.1 shaped,
)

pub ordered_as : (tables : List Table) (rows trees : Trees) → HaveRows tables rows trees → AreOrdered tables rows → AreOrdered tables trees
ordered_as [] rows trees have up = tt
ordered_as (t ∷ tables) rows trees have up = (subst (IsShaped shape.Table) (sym have.0) up.0, ordered_as tables rows trees have.1 up.1)

pub held_as : (rows trees : Trees) → HaveRows record_schema.tables rows trees → held_rows trees ≡ held_rows rows
held_as rows trees have = rw (have.0, have.1.0, have.1.1.0, have.1.1.1.0, have.1.1.1.1.0, have.1.1.1.1.1.0) refl

-- ---- a row with the next rowid goes to the end

lower_than : (a b c : ℤ) → int_cmp a b ≡ Less → b <ℤ c → a <ℤ c
lower_than a b c p q = grind (arith, ints, nat_tests)

below_is : (a b : ℤ) → a <ℤ b → int_cmp a b ≡ Less
below_is a b h = grind (arith, ints, nat_tests)

abbrev step : ℤ → Row → ℤ
step _ row = id_in (rowid row) +ℤ pos 1

put_last : (x : Row) (rows : List Row) (new : Row) → IsTable (x ∷ rows) → AllByRecursion (λ r. IsTrue (is_int (rowid r))) (x ∷ rows) → rowid new ≡ Int (fold step (step (pos 1) x) rows)
    → (id_in (rowid x) <ℤ fold step (step (pos 1) x) rows) × (put_row new (x ∷ rows) ≡ (x ∷ rows) ++ new ∷ [])
put_last x [] new up keyed is =
    let lower : id_in (rowid x) <ℤ step (pos 1) x = omega (arith, ints) in
    let less : value_cmp (rowid x) (rowid new) ≡ Less = rw (int_is (rowid x) keyed.0, is, value_cmp-Int) (below_is _ _ lower) in
    (lower, rw less)
put_last x (y ∷ rows) new up keyed is =
    let later = put_last y rows new up.1 keyed.1 is in
    let next : int_cmp (id_in (rowid x)) (id_in (rowid y)) ≡ Less = rw (int_is (rowid x) keyed.0, int_is (rowid y) keyed.1.0, value_cmp-Int (id_in (rowid x)) (id_in (rowid y))) at up.0.0 in
    let lower = lower_than (id_in (rowid x)) (id_in (rowid y)) _ next later.0 in
    let less : value_cmp (rowid x) (rowid new) ≡ Less = rw (int_is (rowid x) keyed.0, is, value_cmp-Int) (below_is _ _ lower) in
    (lower, rw less (ap (λ all. x ∷ all) later.1))

pub put_at_end : (rows : List Row) (new : Row) → IsTable rows → AllByRecursion (λ r. IsTrue (is_int (rowid r))) rows → rowid new ≡ Int (next_rowid rows) → put_row new rows ≡ rows ++ new ∷ []
put_at_end [] new up keyed is = refl
put_at_end (x ∷ rows) new up keyed is = (put_last x rows new up keyed is).1
