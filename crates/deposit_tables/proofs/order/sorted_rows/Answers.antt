use Rattle.std.proofs.Common.{◌≡◌, ◌↔◌, ◌≤◌, ◌<◌, ◌++◌, ◌∷◌, ◌∙◌, [], ℕ, Contains, List, ap, arith, get_or, length, subst, sym}
use Rattle.std.proofs.lemmas.List.{get_or_default}
use Rattle.csv.specs.Records.{fields_of, partial_of}
use Rattle.dnrd_csv.specs.Table.{HaveWidth}
use Rattle.deposit_tables.specs.Restored.{RowsAscend}
use Rattle.deposit_tables.proofs.SortedOnce.{all_kept, flat_more, next_kept, none_kept, repeat_left_out, row_at, rows_differ, rows_repeat, wide_at, wide_more}
use Rattle.deposit_tables.proofs.order.sorted_rows.Goals as goal
use Rattle.deposit_tables.proofs.order.sorted_rows.Goals.{then-not-is_repeat+in_ok-push_row, else-not-is_repeat}

pub loop-i-init : goal.loop-i-init
loop-i-init c = (
  [],
  none_kept c.args.rows.now c.in_ok-places.places.items,
  λ k d inside. absurd (omega (arith, inside)),
  c.in_ok-fields.ensures.fields,
  c.in_ok-fields.ensures.partial,
  omega arith,
)

pub push_row-requires-clause-row : goal.push_row-requires-clause-row
push_row-requires-clause-row c =
    let inside : c.loop-i.i < length c.in_ok-places.places.items = omega (arith, c.loop-i-test.true, c.loop-i.auto.i-end, c.len-i-end.ensures) in
    (c.in_ok-places.ensures.places c.index.result.now).0 (c.loop-i.i, inside, sym c.index.ensures)

pub push_row-requires-clause-width : goal.push_row-requires-clause-width
push_row-requires-clause-width c =
    let inside : c.loop-i.i < length c.in_ok-places.places.items = omega (arith, c.loop-i-test.true, c.loop-i.auto.i-end, c.len-i-end.ensures) in
    c.requires.width c.index.result.now [] ((c.in_ok-places.ensures.places c.index.result.now).0 (c.loop-i.i, inside, sym c.index.ensures))

pub push_row-requires-clause-partial : goal.push_row-requires-clause-partial
push_row-requires-clause-partial c = c.loop-i.invariant.4

pub loop-i-preserved : goal.loop-i-preserved
loop-i-preserved c =
    let rows = c.args.rows.now in
    let places = c.in_ok-places.places.items in
    let i = c.loop-i.i in
    let was = c.loop-i.invariant in
    let inside : i < length places = omega (arith, c.loop-i-test.true, c.loop-i.auto.i-end, c.len-i-end.ensures) in
    let told = rw c.deref.ensures.value at c.is_repeat.ensures in
    elim c.if-not-is_repeat.branch [
      | then-not-is_repeat+in_ok-push_row w ↦
          let at : w.index.result.now ≡ get_or places i 0 = w.index.ensures ∙ get_or_default places i w.index.result.now 0 inside in
          let row = row_at rows places i in (
            was.0 ++ row ∷ [],
            next_kept rows places i was.0 was.1 (λ some. rows_differ c.args.width rows places i c.requires.most c.requires.width c.in_ok-places.ensures.places some inside c.in_ok-places.ensures.sorted (λ equal.
                let yes = told.1 (some, equal) in cc (yes, w.if-not-is_repeat.true))),
            wide_more c.args.width was.0 row was.2 (wide_at c.args.width rows places c.requires.width c.in_ok-places.ensures.places i inside),
            ap fields_of w.fields-is ∙ w.in_ok-push_row.ensures.fields ∙ (λ j. was.3 j ++ get_or rows (at j) []) ∙ flat_more was.0 row,
            ap partial_of w.fields-is ∙ w.in_ok-push_row.ensures.partial,
            omega (arith, inside),
          )
      | else-not-is_repeat w ↦
          let both = told.0 w.if-not-is_repeat.false in (
            was.0,
            repeat_left_out rows places i was.0 was.1 both.0 (rows_repeat c.args.width rows places i c.requires.most c.requires.width c.in_ok-places.ensures.places both.0 inside both.1),
            was.2,
            ap fields_of w.fields-is ∙ was.3,
            ap partial_of w.fields-is ∙ was.4,
            omega (arith, inside),
          )
    ]

pub rows_of_fields-requires-clause-rows : goal.rows_of_fields-requires-clause-rows
rows_of_fields-requires-clause-rows c = let was = c.loop-i.invariant in (was.0, was.2, was.3)

pub returns-clause-width : goal.returns-clause-width
returns-clause-width c = let was = c.loop-i.invariant in subst (HaveWidth c.args.width) (sym (c.rows_of_fields.ensures was.0 was.2 was.3)) was.2

pub returns-clause-ascend : goal.returns-clause-ascend
returns-clause-ascend c = let was = c.loop-i.invariant in subst RowsAscend (sym (c.rows_of_fields.ensures was.0 was.2 was.3)) was.1.ascend

pub returns-clause-same : goal.returns-clause-same
returns-clause-same c = λ row.
    let was = c.loop-i.invariant in
    let rows = c.args.rows.now in
    let places = c.in_ok-places.places.items in
    let over : length places ≤ c.loop-i.i = omega (arith, c.loop-i-test.false, c.loop-i.auto.i-end, c.len-i-end.ensures) in
    subst (λ (found : List (List (List ℕ))). Contains found row ↔ Contains rows row) (sym (c.rows_of_fields.ensures was.0 was.2 was.3))
    (all_kept rows places c.loop-i.i was.0 c.in_ok-places.ensures.places over was.1 was.5 row)
