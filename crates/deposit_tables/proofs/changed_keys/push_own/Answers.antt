use Rattle.std.proofs.Common.{◌≡◌, ◌≤◌, ◌<◌, ◌+◌, ◌++◌, ◌∷◌, ◌∙◌, [], ℕ, Contains, List, ap, arith, get_or, length, rules, subst, sym, take}
use Rattle.std.proofs.lemmas.List.{map-append}
use Rattle.dnrd_csv.specs.inside.RowKeys.{borrowed_texts}
use Rattle.deposit_tables.specs.inside.Changing.{AreAdded, HasOwnRow}
use Rattle.deposit_tables.specs.inside.Places.{ArePlaces}
use Rattle.deposit_tables.proofs.KeysChanged.{all_rows, no_rows_added, row_added, row_passed}
use Rattle.deposit_tables.proofs.changed_keys.push_own.Goals as goal
use Rattle.deposit_tables.proofs.changed_keys.push_own.Goals.{then-not-has_row+in_ok-push, else-not-has_row}

pub loop-row-init : goal.loop-row-init
loop-row-init c = no_rows_added c.args.one.now c.args.other.now (borrowed_texts c.args.keys.now.items)

pub has_row-requires-clause-places : goal.has_row-requires-clause-places
has_row-requires-clause-places c = subst (ArePlaces (length c.args.other.now)) (sym c.deref.ensures.value) c.in_ok-places.ensures.places

pub loop-row-preserved : goal.loop-row-preserved
loop-row-preserved c =
    let one = c.args.one.now in
    let other = c.args.other.now in
    let row = c.loop-row.row in
    let before = borrowed_texts c.args.keys.now.items in
    let keys = borrowed_texts c.loop-row.keys.items in
    let inside : row < length one = omega (arith, c.loop-row-test.true, c.loop-row.auto.row-end, c.len-row-end.ensures) in
    elim c.if-not-has_row.branch [
      | then-not-has_row+in_ok-push w ↦
          let none : ¬ Contains other (get_or one row []) = λ has. let yes = c.has_row.ensures.1 has in cc (yes, w.if-not-has_row.true) in
          let is : borrowed_texts c.if-not-has_row.keys.items ≡ keys ++ get_or (get_or one row []) 0 [] ∷ [] =
          ap (λ (k : _). borrowed_texts k.items) w.keys-is ∙ ap borrowed_texts w.in_ok-push.ensures.items ∙ map-append (λ (field : _). field.now) c.loop-row.keys.items (w.field.result ∷ [])
          ∙ ap (λ (key : List ℕ). keys ++ key ∷ []) w.field.ensures in
          row_added one other row inside before keys (borrowed_texts c.if-not-has_row.keys.items) none is c.loop-row.invariant
      | else-not-has_row w ↦
          let has = c.has_row.ensures.0 (first_of (search rules, cc w.if-not-has_row.false)) in
          subst (λ (ks : List (List ℕ)). AreAdded before ks (HasOwnRow (take (row + 1) one) other)) (sym (ap (λ (k : _). borrowed_texts k.items) w.keys-is)) (row_passed one other row inside before keys has c.loop-row.invariant)
    ]

pub returns : goal.returns
returns c =
    let over : length c.args.one.now ≤ c.loop-row.row = omega (arith, c.loop-row-test.false, c.loop-row.auto.row-end, c.len-row-end.ensures) in
    all_rows c.args.one.now c.args.other.now c.loop-row.row (borrowed_texts c.args.keys.now.items) (borrowed_texts c.loop-row.keys.items) over c.loop-row.invariant
