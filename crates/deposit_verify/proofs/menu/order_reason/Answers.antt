use Rattle.std.proofs.Common.{◌<◌, ◌+◌, arith, inl, inr, length, refl}
use Rattle.std.proofs.lemmas.Bool.Decides.{eqb_tells}
use Rattle.deposit_verify.proofs.MenuLemmas.{out_of_order}
use Rattle.deposit_verify.proofs.TableLemmas.{rise_more}
use Rattle.deposit_verify.proofs.menu.order_reason.Goals as goal

pub returns-then-table_place : goal.returns-then-table_place
returns-then-table_place c =
    let files = c.args.files.now in
    let i = c.loop-place.place in
    let inside : i < length files = omega (arith, c.loop-place-test.true) in
    (refl, out_of_order files i _ _ _ _ c.table_place.ensures.place c.table_place-in-loop-place.ensures.place c.loop-place.auto.place inside c.if-table_place.true c.loop-place.invariant)

pub loop-place-preserved : goal.loop-place-preserved
loop-place-preserved c = λ k below.
    let files = c.args.files.now in
    let i = c.loop-place.place in
    let inside : i < length files = omega (arith, c.loop-place-test.true) in
    elim (eqb_tells (k + 1) i) [
      | inl here ↦ rise_more files i _ _ _ _ c.table_place.ensures.place c.table_place-in-loop-place.ensures.place c.loop-place.auto.place inside c.if-table_place.false k here.1
      | inr other ↦ c.loop-place.invariant k (omega (arith, below, other.1))
    ]
