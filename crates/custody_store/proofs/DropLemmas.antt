-- The UPDATE that drops the bytes of a part changes just the row of its key, and several in turn just the rows of theirs.
use Rattle.std.proofs.Common.{◌≡◌, inl, inr, ℕ, pos, ◌&&◌, Bool, true, false, cond, List, [], ◌∷◌, map, Option, Some, None, Ok, refl, sym, ap, ap₂, subst, ◌∙◌}
use Rattle.std.specs.Prelude.{option_map}
use Rattle.std.specs.List.{list_any}
use Rattle.std.specs.Str.{bytes_eq}
use Rattle.std.proofs.lemmas.Bool.{cases_Bool, and_parts}
use Rattle.std.proofs.lemmas.List.{map-id}
use Rattle.sqlite.specs.declared.types.Value.TheVariants.{Int, Text}
use Rattle.sqlite.specs.Order.{Row, column, bytes}
use Rattle.sqlite.specs.Ops.{binary, is_true}
use Rattle.sqlite_sql.specs.declared.ops.BinaryOp.TheVariants.{Compare}
use Rattle.sqlite_sql.specs.declared.ops.CompareOp.TheVariants.{Eq}
use Rattle.sqlite.specs.Collation.TheVariants.{Binary}
use Rattle.sqlite.specs.Cast.{cast}
use Rattle.sqlite.specs.Kind.TheVariants as kinds
use Rattle.sqlite_schema.specs.declared.schema.Constraint.TheVariants.{Datatype, NotNull}
use Rattle.sqlite.specs.Schema.{Schema}
use Rattle.sqlite.specs.Table.{Table}
use Rattle.sqlite.specs.Tree.{Trees}
use Rattle.sqlite.specs.Command.TheVariants.{Update}
use Rattle.sqlite.specs.Edit.{id_in}
use Rattle.sqlite.specs.State.{State, ExecutesInside}
use Rattle.sqlite.specs.Store.{Ghosts}
use Rattle.sqlite.specs.Held.{Held, state}
use Rattle.sqlite_catalog.specs.Listing.{IsSound}
use Rattle.sqlite_rules.specs.Lists.{Has}
use Rattle.sqlite_rules.proofs.ListLemmas.{all_has, has_front}
use Rattle.sqlite_keyed.proofs.ListLemmas.{map-map}
use Rattle.sqlite.specs.Listing.{understood}
use Rattle.sqlite.proofs.Callers.{statement_of}
use Rattle.custody_records.specs.Keys.{PartKey}
use Rattle.custody_records.specs.Rows.{PartRow, Rows}
use Rattle.custody_store.specs.Calls.{AreRun}
use Rattle.custody_store.specs.Dropping.{is_row_of, is_same_number, dropped_row, row_dropped_if_among, rows_without_bytes}
use Rattle.custody_store.specs.Reading.{stored_part_row}
use Rattle.custody_store.specs.Schema.{record_schema, part_table}
use Rattle.custody_store.specs.Statements.{drop_bytes_text, drop_bytes_values, drop_bytes_statements}
use Rattle.custody_store.specs.StoreState.{HasTablesAmongOthers}
use Rattle.custody_store.specs.inside.Making.{HasRows}
use Rattle.custody_store.proofs.AmongLemmas.{record_quiet}
use Rattle.custody_store.proofs.ColumnLemmas.{cast_at, int_at, text_at}
use Rattle.custody_store.proofs.CommitLemmas.{Changes, one_table, written, update_writes}
use Rattle.custody_store.proofs.EditLemmas.{changed_where}
use Rattle.custody_store.proofs.RowLemmas.{at_tree, either}
use Rattle.custody_store.proofs.StatementLemmas.{drop_bytes_tests, dropped_places, drop_bytes_program, drop_bytes_is}
use Rattle.custody_store.proofs.TestLemmas.{is_number, is_text, map_has}
use Rattle.custody_store.proofs.UpdateLemmas.{rewrites, passes, heir}

abbrev part_at : Table
part_at = at_tree 3 part_table

-- a row of part as the table asks for it
record IsPartRow (r : Row) : Type 0 where
  tld : cast kinds.Text (column r 1) ≡ column r 1
  tld_text : column r 1 ≡ Text (bytes (column r 1))
  day : cast kinds.Integer (column r 2) ≡ column r 2
  day_int : column r 2 ≡ Int (id_in (column r 2))
  rev : cast kinds.Integer (column r 3) ≡ column r 3
  rev_int : column r 3 ≡ Int (id_in (column r 3))
  part : cast kinds.Integer (column r 4) ≡ column r 4
  part_int : column r 4 ≡ Int (id_in (column r 4))
  kind : cast kinds.Text (column r 5) ≡ column r 5
  received : cast kinds.Integer (column r 6) ≡ column r 6
  keep_day : cast kinds.Integer (column r 7) ≡ column r 7
  len : cast kinds.Integer (column r 8) ≡ column r 8

part_rows : (schema : Schema) (trees : Trees) → IsSound schema trees → Has schema.tables part_at → (r : Row) → Has (trees 3) r → IsPartRow r
part_rows schema trees sound listed r has =
    let typed = (and_parts _ _ (all_has _ (trees 3) r (all_has _ schema.tables part_at (sound.obeys.rules Datatype) listed) has)).0 in
    let present = all_has _ (trees 3) r (all_has _ schema.tables part_at (sound.obeys.rules NotNull) listed) has in
    record {
      tld = cast_at part_at r typed 0 _ refl refl refl refl;
      tld_text = text_at part_at r typed present 0 _ refl refl refl refl refl;
      day = cast_at part_at r typed 1 _ refl refl refl refl;
      day_int = int_at part_at r typed present 1 _ refl refl refl refl refl;
      rev = cast_at part_at r typed 2 _ refl refl refl refl;
      rev_int = int_at part_at r typed present 2 _ refl refl refl refl refl;
      part = cast_at part_at r typed 3 _ refl refl refl refl;
      part_int = int_at part_at r typed present 3 _ refl refl refl refl refl;
      kind = cast_at part_at r typed 4 _ refl refl refl refl;
      received = cast_at part_at r typed 5 _ refl refl refl refl;
      keep_day = cast_at part_at r typed 6 _ refl refl refl refl;
      len = cast_at part_at r typed 7 _ refl refl refl refl;
    }

abbrev both : Bool → Bool → Bool
both a b = a && b

in_turn : (a b c d : Bool) → (a && (b && (c && (d && true)))) ≡ (a && (b && (c && d)))
in_turn true true true true = refl
in_turn true true true false = refl
in_turn true true false d = refl
in_turn true false c d = refl
in_turn false b c d = refl

-- ---- the rows, key after key

-- the row of this part is without its bytes
abbrev row_dropped_if_of : PartKey → PartRow → PartRow
row_dropped_if_of key row = cond (is_row_of row key) (dropped_row row) row

abbrev rows_without_bytes_of : PartKey → Rows → Rows
rows_without_bytes_of key rows = record rows { parts = option_map (map (row_dropped_if_of key)) rows.parts }

-- a row without its bytes has the key that it had
then_among : (key : PartKey) (keys : List PartKey) (row : PartRow) → row_dropped_if_among keys (row_dropped_if_of key row) ≡ row_dropped_if_among (key ∷ keys) row
then_among key keys row = elim (cases_Bool (is_row_of row key)) [
  | inl is ↦ rw is (either (list_any (is_row_of row) keys) (dropped_row row))
  | inr other ↦ rw other refl
]

maps_then : {X : Type 0} (f g h : X → X) (o : Option (List X)) → ((x : X) → g (f x) ≡ h x) → option_map (map g) (option_map (map f) o) ≡ option_map (map h) o
maps_then f g h None same = refl
maps_then f g h (Some xs) same = ap Some (map-map g f xs ∙ map_has _ _ xs (λ x _. same x))

maps_none : {X : Type 0} (o : Option (List X)) → o ≡ option_map (map (λ x. x)) o
maps_none None = refl
maps_none (Some xs) = ap Some (sym (map-id xs))

without_none : (rows : Rows) → rows ≡ rows_without_bytes [] rows
without_none rows = ap (λ parts. record rows { parts = parts }) (maps_none rows.parts)

without_next : (key : PartKey) (keys : List PartKey) (rows : Rows) → rows_without_bytes keys (rows_without_bytes_of key rows) ≡ rows_without_bytes (key ∷ keys) rows
without_next key keys rows = ap (λ parts. record rows { parts = parts }) (maps_then (row_dropped_if_of key) (row_dropped_if_among keys) (row_dropped_if_among (key ∷ keys)) rows.parts (then_among key keys))

module _ (key : PartKey) where
  abbrev sought : Row → Bool
  sought = passes drop_bytes_tests (drop_bytes_values key)

  -- the row that comes in the place of a row
  abbrev dropped : Row → Row
  dropped = heir part_at dropped_places (drop_bytes_values key)

  -- ---- one row

  sought_is : (r : Row) → IsPartRow r → sought r ≡ is_row_of (stored_part_row r) key
  sought_is r is =
      let tld : is_true (binary (Compare Eq Binary) (column r 1) (Text key.tld)) ≡ bytes_eq (bytes (column r 1)) key.tld =
      ap (λ v. is_true (binary (Compare Eq Binary) v (Text key.tld))) is.tld_text ∙ is_text (bytes (column r 1)) key.tld in
      let day : is_true (binary (Compare Eq Binary) (column r 2) (Int (pos key.day))) ≡ is_same_number (id_in (column r 2)) (pos key.day) =
      ap (λ v. is_true (binary (Compare Eq Binary) v (Int (pos key.day)))) is.day_int ∙ is_number (id_in (column r 2)) (pos key.day) in
      let rev : is_true (binary (Compare Eq Binary) (column r 3) (Int (pos key.rev))) ≡ is_same_number (id_in (column r 3)) (pos key.rev) =
      ap (λ v. is_true (binary (Compare Eq Binary) v (Int (pos key.rev)))) is.rev_int ∙ is_number (id_in (column r 3)) (pos key.rev) in
      let part : is_true (binary (Compare Eq Binary) (column r 4) (Int (pos key.part))) ≡ is_same_number (id_in (column r 4)) (pos key.part) =
      ap (λ v. is_true (binary (Compare Eq Binary) v (Int (pos key.part)))) is.part_int ∙ is_number (id_in (column r 4)) (pos key.part) in
      in_turn (is_true (binary (Compare Eq Binary) (column r 1) (Text key.tld))) (is_true (binary (Compare Eq Binary) (column r 2) (Int (pos key.day))))
      (is_true (binary (Compare Eq Binary) (column r 3) (Int (pos key.rev)))) (is_true (binary (Compare Eq Binary) (column r 4) (Int (pos key.part))))
      ∙ ap₂ both tld (ap₂ both day (ap₂ both rev part))

  part_row_is : (r : Row) → IsPartRow r → stored_part_row (cond (sought r) (dropped r) r) ≡ row_dropped_if_of key (stored_part_row r)
  part_row_is r is = elim (cases_Bool (sought r)) [
    | inl found ↦ let also = sym (sought_is r is) ∙ found in rw (found, also, is.tld, is.day, is.rev, is.part, is.kind, is.received, is.keep_day, is.len) refl
    | inr other ↦ let also = sym (sought_is r is) ∙ other in rw (other, also) refl
  ]

  -- ---- the whole table

  -- the rows after it, and the tables stay as they are made
  changes_dropped : (s : State) → HasTablesAmongOthers record_schema.tables s.now → Changes s drop_bytes_text (drop_bytes_values key) (Update 2 drop_bytes_program) (rows_without_bytes_of key)
  changes_dropped s tables tally after does sound =
      let trees = s.now.trees in
      let listed = has_front s.now.schema.tables record_schema.tables tables.begins.0 part_at tables.begins.1 (inr (inr (inl refl))) in
      let it = rewrites record_schema.tables record_quiet s 2 part_at drop_bytes_tests dropped_places (drop_bytes_values key) (statement_of drop_bytes_text (understood s.now.schema drop_bytes_text)) tables.begins tables.apart (inr (inr (inl refl))) (λ others. refl) tables.ordered.1.1.0 (λ r. refl) (λ r. refl) tally after does in
      let read : map stored_part_row (changed_where sought dropped (trees 3)) ≡ map (row_dropped_if_of key) (map stored_part_row (trees 3)) =
      map-map stored_part_row (λ r. cond (sought r) (dropped r) r) (trees 3) ∙ map_has _ _ (trees 3) (λ r h. part_row_is r (part_rows s.now.schema trees tables.sound listed r h)) ∙ sym (map-map (row_dropped_if_of key) stored_part_row (trees 3)) in
      one_table s tables after 3 (rows_without_bytes_of key) it.schema sound it.shaped it.others (rw (it.here, read) refl)

  -- ---- in a transaction

  drops_one : (schema : Schema) (rows : Rows) (old new : State) (count : ℕ) → HasRows schema rows old → ExecutesInside 0 drop_bytes_text (drop_bytes_values key) old new (Ok count) → HasRows schema (rows_without_bytes_of key rows) new
  drops_one schema rows old new count has h =
      let w = written drop_bytes_text (drop_bytes_values key) (Update 2 drop_bytes_program) drop_bytes_is (update_writes 2 drop_bytes_program) old new count h.0 has.tables.begins in
      let made = changes_dropped old has.tables w.tally new.now w.changed w.sound in
      record { schema_is = made.0 ∙ has.schema_is; tables = made.1; rows_are = made.2 ∙ ap (rows_without_bytes_of key) has.rows_are }

-- the statements of these keys, in turn
pub drops_each : {S : Type 0} (g : Ghosts S) (keys : List PartKey) (schema : Schema) (rows : Rows) (old new : Held S) → HasRows schema rows (state g old) → AreRun g (drop_bytes_statements keys) old new → HasRows schema (rows_without_bytes keys rows) (state g new)
drops_each g [] schema rows old new has same = subst (λ h. HasRows schema (rows_without_bytes [] rows) (state g h)) same (subst (λ r. HasRows schema r (state g old)) (without_none rows) has)
drops_each g (key ∷ keys) schema rows old new has ran =
    subst (λ r. HasRows schema r (state g new)) (without_next key keys rows)
    (drops_each g keys schema (rows_without_bytes_of key rows) ran.1 new (drops_one key schema rows (state g old) (state g ran.1) ran.0 has ran.2) ran.3)
