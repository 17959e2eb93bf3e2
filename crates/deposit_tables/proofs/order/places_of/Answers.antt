use Rattle.std.proofs.Common.{◌≡◌, arith, length, refl, subst}
use Rattle.deposit_tables.specs.inside.Places.{ArePlaces}
use Rattle.deposit_tables.proofs.RowsOrdered.{are_places, one_number_more}
use Rattle.deposit_tables.proofs.order.places_of.Goals as goal

pub loop-place-init : goal.loop-place-init
loop-place-init c = record { count = rw c.in_ok-places.ensures.items (refl); each = λ i below. absurd (omega (arith, below)) }

pub loop-place-preserved : goal.loop-place-preserved
loop-place-preserved c = rw c.in_ok-push.ensures.items (one_number_more c.loop-place.place c.loop-place.places.items c.loop-place.invariant)

pub returns : goal.returns
returns c =
    let all : c.loop-place.place ≡ length c.args.rows.now = omega (arith, c.loop-place-test.false, c.loop-place.auto.place-end, c.len-place-end.ensures) in
    subst (λ (n : _). ArePlaces n c.loop-place.places.items) all (are_places c.loop-place.place c.loop-place.places.items c.loop-place.invariant)
