-- The UPDATE that lifts a hold changes just the row of its reference.
use Rattle.std.proofs.Common.{◌≡◌, inl, inr, ℕ, pos, ◌&&◌, Bool, true, false, cond, List, map, Result, refl, sym, ap, ◌∙◌}
use Rattle.std.specs.Str.{bytes_eq}
use Rattle.std.proofs.lemmas.Bool.{cases_Bool}
use Rattle.sqlite.specs.declared.types.Value.TheVariants.{Text}
use Rattle.sqlite.specs.Order.{Row, column, bytes}
use Rattle.sqlite.specs.Ops.{binary, is_true}
use Rattle.sqlite_sql.specs.declared.ops.BinaryOp.TheVariants.{Compare}
use Rattle.sqlite_sql.specs.declared.ops.CompareOp.TheVariants.{Eq}
use Rattle.sqlite.specs.Collation.TheVariants.{Binary}
use Rattle.sqlite.specs.Command.TheVariants.{Update}
use Rattle.sqlite.specs.State.{State}
use Rattle.sqlite_keyed.proofs.ListLemmas.{map-map}
use Rattle.sqlite.specs.Listing.{understood}
use Rattle.sqlite.proofs.Callers.{statement_of}
use Rattle.custody_records.specs.Rows.{row_with_lifting, with_lifting}
use Rattle.custody_store.specs.Schema.{record_schema}
use Rattle.custody_store.specs.Reading.{rows_in, stored_hold_row}
use Rattle.custody_store.specs.StoreState.{HasTablesAmongOthers, as_store_state, Commits}
use Rattle.custody_store.specs.Calls.{RunsStatement}
use Rattle.custody_store.specs.Statements.{lift_text, lift_values}
use Rattle.custody_store.proofs.StatementLemmas.{lift_tests, lifted_places, lift_program, lift_is}
use Rattle.custody_store.proofs.EditLemmas.{changed_where}
use Rattle.custody_store.proofs.UpdateLemmas.{rewrites, passes, heir}
use Rattle.custody_store.proofs.TestLemmas.{is_text, map_has}
use Rattle.custody_store.proofs.HoldLemmas.{hold_at, IsHoldRow, hold_rows}
use Rattle.custody_store.proofs.CommitLemmas.{Changes, one_table, commits_change, update_writes}
use Rattle.sqlite_rules.proofs.ListLemmas.{has_front}
use Rattle.custody_store.proofs.AmongLemmas.{record_quiet}
use Rattle.custody_store.proofs.RowLemmas.{cast_int}

module _ (reference : List ℕ) (at : ℕ) where
  abbrev sought : Row → Bool
  sought = passes lift_tests (lift_values reference at)

  -- the row that comes in the place of a row
  abbrev lifted : Row → Row
  lifted = heir hold_at lifted_places (lift_values reference at)

  -- ---- one row

  alone : (b : Bool) → (b && true) ≡ b
  alone true = refl
  alone false = refl

  sought_is : (r : Row) → IsHoldRow r → sought r ≡ bytes_eq (stored_hold_row r).reference reference
  sought_is r is =
      alone (is_true (binary (Compare Eq Binary) (column r 1) (Text reference)))
      ∙ ap (λ v. is_true (binary (Compare Eq Binary) v (Text reference))) is.reference_text ∙ is_text (bytes (column r 1)) reference

  hold_row_is : (r : Row) → IsHoldRow r → stored_hold_row (cond (sought r) (lifted r) r) ≡ row_with_lifting reference at (stored_hold_row r)
  hold_row_is r is = elim (cases_Bool (sought r)) [
    | inl found ↦ let also = sym (sought_is r is) ∙ found in rw (found, also, is.reference, is.tld, is.day, is.at, cast_int (pos at)) refl
    | inr other ↦ let also = sym (sought_is r is) ∙ other in rw (other, also) refl
  ]

  -- ---- the whole table

  -- the rows after it, and the tables stay as they are made
  changes_lifted : (s : State) → HasTablesAmongOthers record_schema.tables s.now → Changes s lift_text (lift_values reference at) (Update 5 lift_program) (with_lifting reference at)
  changes_lifted s tables tally after does sound =
      let trees = s.now.trees in
      let it = rewrites record_schema.tables record_quiet s 5 hold_at lift_tests lifted_places (lift_values reference at) (statement_of lift_text (understood s.now.schema lift_text)) tables.begins tables.apart (inr (inr (inr (inr (inr (inl refl)))))) (λ others. refl) tables.ordered.1.1.1.1.1.0 (λ r. refl) (λ r. refl) tally after does in
      let read : map stored_hold_row (changed_where sought lifted (trees 9)) ≡ map (row_with_lifting reference at) (map stored_hold_row (trees 9)) =
      map-map stored_hold_row (λ r. cond (sought r) (lifted r) r) (trees 9) ∙ map_has _ _ (trees 9) (λ r h. hold_row_is r (hold_rows s.now.schema trees tables.sound (has_front s.now.schema.tables record_schema.tables tables.begins.0 hold_at tables.begins.1 (inr (inr (inr (inr (inr (inl refl))))))) r h)) ∙ sym (map-map (row_with_lifting reference at) stored_hold_row (trees 9)) in
      one_table s tables after 9 (with_lifting reference at) it.schema sound it.shaped it.others (rw (it.here, read) refl)

  pub lifts : {A E : Type 0} (old new : State) (r : Result A E) → RunsStatement lift_text (lift_values reference at) old new r → Commits (as_store_state old) (as_store_state new) (with_lifting reference at (rows_in old.now.trees)) r
  lifts old new r = commits_change lift_text (lift_values reference at) (Update 5 lift_program) lift_is (update_writes 5 lift_program) old new (with_lifting reference at) r (λ ready. changes_lifted old ready.tables)
