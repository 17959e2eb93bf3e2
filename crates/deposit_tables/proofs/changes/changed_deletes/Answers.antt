use Rattle.std.proofs.Common.{◌≡◌, ◌∷◌, [], IsTrue, arith, false, filter, length, length-append, refl, subst, sym}
use Rattle.deposit_name.specs.Tables.{has_deletes}
use Rattle.dnrd_csv.specs.Table.{HaveWidth, columns_of}
use Rattle.deposit_verify.specs.References.{column}
use Rattle.deposit_verify.specs.Tables.{table_of}
use Rattle.deposit_tables.specs.inside.Changing.{changed_keys_of, is_gone}
use Rattle.deposit_tables.proofs.TablesThen.{at_place, holds_more, place_below}
use Rattle.deposit_tables.proofs.changes.changed_deletes.Goals as goal

pub loop-place-init : goal.loop-place-init
loop-place-init c = rw c.in_ok-deletes.ensures.items (record { count = refl; each = λ name below. absurd (omega (arith, below)) })

pub gone_in-requires : goal.gone_in-requires
gone_in-requires c =
    let name = c.table_name_at-name.result in
    let is = at_place c.args.new.now name c.loop-place.place c.index-new-place.result c.requires.eight c.loop-place-test.true c.table_name_at-name.ensures c.index-new-place.is in
    subst (HaveWidth (length (columns_of name))) (sym is) (c.requires.columns_right name)

pub loop-place-preserved : goal.loop-place-preserved
loop-place-preserved c =
    let name = c.table_name_at-name.result in
    let new = c.args.new.now in
    let changed = c.args.changed.now in
    let deletes = c.loop-place.deletes.items in
    let keys = c.in_ok-gone_in.field-0 in
    let is = at_place new name c.loop-place.place c.index-new-place.result c.requires.eight c.loop-place-test.true c.table_name_at-name.ensures c.index-new-place.is in
    let gone : IsTrue (has_deletes name) → keys ≡ filter (is_gone (column 0 (table_of new name))) (changed_keys_of changed name) = rw is at c.in_ok-gone_in.ensures.gone in
    rw c.in_ok-push.ensures.items (record {
      count = omega (arith, length-append deletes (keys ∷ []), c.loop-place.invariant.count);
      each = holds_more deletes (λ n t. (IsTrue (has_deletes n) → t ≡ filter (is_gone (column 0 (table_of new n))) (changed_keys_of changed n)) × (has_deletes n ≡ false → t ≡ [])) c.loop-place.place name keys
          c.loop-place.invariant.count c.loop-place.invariant.each c.table_name_at-name.ensures (gone, c.in_ok-gone_in.ensures.none);
    })

pub returns-clause-gone : goal.returns-clause-gone
returns-clause-gone c = λ name. let below = place_below name in (c.loop-place.invariant.each name (omega (arith, below, c.loop-place-test.false))).0

pub returns-clause-none : goal.returns-clause-none
returns-clause-none c = λ name. let below = place_below name in (c.loop-place.invariant.each name (omega (arith, below, c.loop-place-test.false))).1
