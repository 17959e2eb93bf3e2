-- SELECT answers the rows of its table, in their order.
use Rattle.std.proofs.Common.{◌≡◌, ℕ, List, [], ◌∷◌, ◌++◌, map, None, Some, Ok, Err, Option, Result, IfOk, MatchResult, Vec, sym, ap, ◌∙◌}
use Rattle.std.specs.FinMap.{empty}
use Rattle.std.specs.declared.cmp.Ordering.{Ordering}
use Rattle.std.proofs.lemmas.List.{append_assoc, map-append}
use Rattle.std.specs.declared.alloc.Global.{Global}
use Rattle.sqlite.specs.Order.{Row}
use Rattle.sqlite.specs.Term.{Term}
use Rattle.sqlite.specs.Tree.{IsTable}
use Rattle.sqlite.specs.Program.{overlay}
use Rattle.sqlite.specs.State.{State, HasCleanDisk, Begins, Shown as Answered}
use Rattle.sqlite.specs.Table.{Table}
use Rattle.sqlite.specs.Schema.{Schema}
use Rattle.custody_records.specs.Form.{gathered_table, keyed_map}
use Rattle.custody_records.specs.Rows.{Rows}
use Rattle.custody_records.proofs.Gathered.{gather_alike, gather_bad}
use Rattle.custody_store.specs.Reading.{rows_in}
use Rattle.custody_store.specs.Schema.{first_schema}
use Rattle.custody_store.specs.StoreState.{HasFirstTables, as_store_state, ChangesNothing}
use Rattle.custody_store.specs.Calls.{RunsQuery, row_items}
use Rattle.custody_store.specs.inside.Loading.{ReadsAnswer, ReadsNoAnswer}
use Rattle.custody_store.proofs.TableLemmas.{held_beside, rows_first}
use Rattle.custody_store.proofs.SelectLemmas.{finds, projected, reads, selects, then_map, whole_answer}
use Rattle.custody_store.proofs.StatementLemmas.{in_order, IsSelection, IsSelectionOver}

-- the rows of one table, read alike in the tree and in the answer
module _ {X : Type 0} {first : List Table} {sql : List ℕ} {tree : ℕ} {project : List Term} {names : List (List ℕ)} (means : IsSelection first sql tree project names) (field : Rows → Option (List X)) (stored answered : Row → X) (old : State)
    (at : HasFirstTables first old) (low : overlay old.now.trees [] tree ≡ old.now.trees tree) (up : IsTable (old.now.trees tree)) (is : field (rows_in old.now.trees) ≡ Some (map stored (old.now.trees tree)))
    (alike : map (λ row. answered (projected project row)) (old.now.trees tree) ≡ map stored (old.now.trees tree)) where
  found : (new : State) (rows : List Row) → Answered sql [] old new rows → field (rows_in old.now.trees) ≡ Some (map answered rows)
  found new rows it =
      is ∙ ap Some (sym (ap (map answered) (finds first sql tree project names means old new at low up rows it) ∙ then_map (projected project) answered (old.now.trees tree) ∙ alike))

  pub found_all : {E : Type 0} (new : State) (r : Result (Vec Row Global) E) → HasCleanDisk new → RunsQuery sql row_items old new r → IfOk r (λ rows. field (rows_in old.now.trees) ≡ Some (map answered rows.items))
  found_all new (Ok rows) clean it = found new rows.items (it.asked clean)
  found_all new (Err e) clean it = tt

  -- of rows that begin the answer, others follow
  begins : (rows : List Row) → Begins sql [] old rows → (tail : List Row) × (field (rows_in old.now.trees) ≡ Some (map answered rows ++ map answered tail))
  begins rows it =
      let whole = whole_answer sql old rows (in_order tree project) names at.rest.is_open (selects first sql tree project names means old at) it in
      (whole.0, found old (rows ++ whole.0) whole.1 ∙ ap Some (map-append answered rows whole.0))

  -- so are the records of them
  pub loads : {T K R E : Type 0} (order : K → K → Ordering) (read : X → Option (K × R)) (key : T → K) (value : T → R) (new : State) (bad : E → Type 0) (r : Result (Vec T Global) E)
      → MatchResult r (λ list. ReadsAnswer read key value answered sql old new list.items) (λ e. bad e → ReadsNoAnswer read key value answered sql old)
      → MatchResult r (λ list. gathered_table {order = order} read (field (rows_in old.now.trees)) ≡ keyed_map order key value list.items) (λ e. bad e → gathered_table {order = order} read (field (rows_in old.now.trees)) ≡ None)
  loads order read key value new bad (Ok list) (rows, shown, same) =
      ap (gathered_table {order = order} read) (found new rows shown) ∙ gather_alike {order = order} read (λ it. Some (key it, value it)) empty (map answered rows) list.items (then_map answered read rows ∙ same)
  loads order read key value new bad (Err e) it = λ is_bad.
      let (rows, row, begin, out) = it is_bad in
      let (tail, all) = begins (rows ++ row ∷ []) begin in
      ap (gathered_table {order = order} read) (all ∙ ap Some (ap (λ l. l ++ map answered tail) (map-append answered rows (row ∷ [])) ∙ append_assoc (map answered rows) (answered row ∷ []) (map answered tail)))
      ∙ gather_bad {order = order} read empty (map answered rows) (answered row) (map answered tail) out

-- and the query changes nothing
pub only_reads : {E : Type 0} {schema : Schema} {sql : List ℕ} {tree : ℕ} {project : List Term} {names : List (List ℕ)} → IsSelectionOver schema sql tree project names → (old new : State) (r : Result (Vec Row Global) E)
    → RunsQuery sql row_items old new r → ChangesNothing (as_store_state old) (as_store_state new) r
only_reads {sql = sql} means = reads sql means.query row_items

-- a table that both schemas have, among all rows
pub field_in_both : {X : Type 0} (field : Rows → Option (List X)) (tree : ℕ) (stored : Row → X) (old : State) → HasFirstTables first_schema.tables old → field (held_beside (rows_in old.now.trees).holds old.now.trees) ≡ Some (map stored (old.now.trees tree))
    → field (rows_in old.now.trees) ≡ Some (map stored (old.now.trees tree))
field_in_both field tree stored old at held = ap field (rows_first old.now.trees old.now.schema at.begins at.sound) ∙ held
