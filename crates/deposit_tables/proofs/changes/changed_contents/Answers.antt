use Rattle.std.proofs.Common.{◌∷◌, [], Contains, arith, length, length-append, refl, subst, sym}
use Rattle.dnrd_csv.specs.Table.{HaveWidth, columns_of}
use Rattle.deposit_verify.specs.Tables.{table_of}
use Rattle.deposit_tables.specs.Owners.{owner_key}
use Rattle.deposit_tables.specs.Restored.{AreRows}
use Rattle.deposit_tables.specs.inside.Changing.{KeysAscend, changed_keys_of}
use Rattle.deposit_tables.proofs.TablesThen.{at_place, holds_more, place_below}
use Rattle.deposit_tables.proofs.changes.changed_contents.Goals as goal

pub loop-place-init : goal.loop-place-init
loop-place-init c = rw c.in_ok-contents.ensures.items (record { count = refl; each = λ name below. absurd (omega (arith, below)) })

pub rows_of_objects-requires-clause-width : goal.rows_of_objects-requires-clause-width
rows_of_objects-requires-clause-width c =
    let name = c.table_name_at-name.result in
    let is = at_place c.args.new.now name c.loop-place.place c.index-new-place.result c.requires.new.eight c.loop-place-test.true c.table_name_at-name.ensures c.index-new-place.is in
    rw c.columns-width.ensures (subst (HaveWidth (length (columns_of name))) (sym is) (c.requires.new.columns_right name))

pub rows_of_objects-requires-clause-ascend : goal.rows_of_objects-requires-clause-ascend
rows_of_objects-requires-clause-ascend c = subst KeysAscend (sym c.owners_in-keys.ensures) (c.requires.ascend c.table_name_at-name.result)

pub loop-place-preserved : goal.loop-place-preserved
loop-place-preserved c =
    let name = c.table_name_at-name.result in
    let new = c.args.new.now in
    let changed = c.args.changed.now in
    let contents = c.loop-place.contents.items in
    let rows = c.in_ok-rows_of_objects.field-0 in
    let is = at_place new name c.loop-place.place c.index-new-place.result c.requires.new.eight c.loop-place-test.true c.table_name_at-name.ensures c.index-new-place.is in
    let wide : HaveWidth (length (columns_of name)) rows = rw c.columns-width.ensures at c.in_ok-rows_of_objects.ensures.width in
    let are : AreRows (λ row. Contains (table_of new name) row × Contains (changed_keys_of changed name) (owner_key row)) rows = rw (is, c.owners_in-keys.ensures) at c.in_ok-rows_of_objects.ensures.rows in
    rw c.in_ok-push.ensures.items (record {
      count = omega (arith, length-append contents (rows ∷ []), c.loop-place.invariant.count);
      each = holds_more contents (λ n t. HaveWidth (length (columns_of n)) t × AreRows (λ row. Contains (table_of new n) row × Contains (changed_keys_of changed n) (owner_key row)) t) c.loop-place.place name rows
          c.loop-place.invariant.count c.loop-place.invariant.each c.table_name_at-name.ensures (wide, are);
    })

pub returns-clause-all : goal.returns-clause-all
returns-clause-all c = record {
  eight = omega (arith, c.loop-place.invariant.count, c.loop-place-test.false, c.loop-place.auto.place-end);
  columns_right = λ name. let below = place_below name in (c.loop-place.invariant.each name (omega (arith, below, c.loop-place-test.false))).0;
}

pub returns-clause-rows : goal.returns-clause-rows
returns-clause-rows c = λ name. let below = place_below name in (c.loop-place.invariant.each name (omega (arith, below, c.loop-place-test.false))).1
