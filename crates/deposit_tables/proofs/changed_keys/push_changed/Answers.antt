use Rattle.std.proofs.Common.{◌≡◌, ◌≤◌, ◌+◌, ◌∙◌, ℕ, List, ap, arith, length, rules, subst, sym}
use denote.Enum.Bare.{same_false, same_true}
use Rattle.dnrd_csv.specs.Table.{HaveWidth, columns_of}
use Rattle.dnrd_csv.specs.inside.RowKeys.{borrowed_texts}
use Rattle.deposit_name.specs.contracts.table.TableName.{the_type}
use Rattle.deposit_verify.specs.Tables.{table_of}
use Rattle.deposit_tables.specs.Owners.{owner_table}
use Rattle.deposit_tables.specs.Unchanged.{HasSameRows}
use Rattle.deposit_tables.specs.inside.Changing.{AreAdded}
use Rattle.deposit_tables.proofs.KeysChanged.{IsSameBelow, all_tables_added, no_tables_added, table_added, table_passed}
use Rattle.deposit_tables.proofs.TablesThen.{at_place}
use Rattle.deposit_tables.proofs.changed_keys.push_changed.Goals as goal
use Rattle.deposit_tables.proofs.changed_keys.push_changed.Goals.{then-eq+in_ok-push_different, else-eq}

pub loop-place-init : goal.loop-place-init
loop-place-init c = no_tables_added (table_of c.args.old.now) (table_of c.args.new.now) c.args.owner (borrowed_texts c.args.keys.now.items)

pub push_different-requires-clause-old : goal.push_different-requires-clause-old
push_different-requires-clause-old c =
    let name = c.table_name_at-name.result in
    let is = at_place c.args.old.now name c.loop-place.place c.index-old-place.result c.requires.old.eight c.loop-place-test.true c.table_name_at-name.ensures c.index-old-place.is in
    rw c.columns-width.ensures (subst (HaveWidth (length (columns_of name))) (sym is) (c.requires.old.columns_right name))

pub push_different-requires-clause-new : goal.push_different-requires-clause-new
push_different-requires-clause-new c =
    let name = c.table_name_at-name.result in
    let is = at_place c.args.new.now name c.loop-place.place c.index-new-place.result c.requires.new.eight c.loop-place-test.true c.table_name_at-name.ensures c.index-new-place.is in
    rw c.columns-width.ensures (subst (HaveWidth (length (columns_of name))) (sym is) (c.requires.new.columns_right name))

pub loop-place-preserved : goal.loop-place-preserved
loop-place-preserved c =
    let old = table_of c.args.old.now in
    let new = table_of c.args.new.now in
    let owner = c.args.owner in
    let place = c.loop-place.place in
    let name = c.table_name_at-name.result in
    let before = borrowed_texts c.args.keys.now.items in
    let keys = borrowed_texts c.loop-place.keys.items in
    elim c.if-eq.branch [
      | then-eq+in_ok-push_different w ↦
          let own : owner_table name ≡ owner = sym c.owner_table.ensures ∙ same_true the_type (search rules) _ _ (sym c.eq.ensures ∙ w.if-eq.true) in
          let was = at_place c.args.old.now name place w.index-old-place.result c.requires.old.eight c.loop-place-test.true c.table_name_at-name.ensures w.index-old-place.is in
          let is = at_place c.args.new.now name place w.index-new-place.result c.requires.new.eight c.loop-place-test.true c.table_name_at-name.ensures w.index-new-place.is in
          let next = borrowed_texts w.push_different.new.keys.items in
          let more : AreAdded keys next (λ key. ¬ HasSameRows (old name) (new name) key) =
          subst (λ (rows : List (List (List ℕ))). AreAdded keys next (λ key. ¬ HasSameRows rows (new name) key)) was
          (subst (λ (rows : List (List (List ℕ))). AreAdded keys next (λ key. ¬ HasSameRows w.index-old-place.result rows key)) is w.in_ok-push_different.ensures) in
          subst (λ (ks : List (List ℕ)). AreAdded before ks (λ key. ¬ IsSameBelow old new owner (place + 1) key)) (sym (ap (λ (k : _). borrowed_texts k.items) w.keys-is))
          (table_added old new owner place name c.table_name_at-name.ensures before keys next own c.loop-place.invariant more)
      | else-eq w ↦
          let other : owner_table name ≡ owner → ⊥ = λ same. same_false the_type _ _ (sym c.eq.ensures ∙ w.if-eq.false) (c.owner_table.ensures ∙ same) in
          subst (λ (ks : List (List ℕ)). AreAdded before ks (λ key. ¬ IsSameBelow old new owner (place + 1) key)) (sym (ap (λ (k : _). borrowed_texts k.items) w.keys-is))
          (table_passed old new owner place name c.table_name_at-name.ensures before keys other c.loop-place.invariant)
    ]

pub returns : goal.returns
returns c =
    let over : 8 ≤ c.loop-place.place = omega (arith, c.loop-place-test.false, c.loop-place.auto.place-end) in
    all_tables_added (table_of c.args.old.now) (table_of c.args.new.now) c.args.owner c.loop-place.place (borrowed_texts c.args.keys.now.items) (borrowed_texts c.loop-place.keys.items) over
    c.loop-place.invariant
