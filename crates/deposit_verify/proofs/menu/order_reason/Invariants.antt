use Rattle.std.proofs.Common.{ℕ, ◌<◌, ◌+◌, get_or, map}
use Rattle.deposit_verify.specs.Places.{table_place}
use Rattle.deposit_verify.proofs.menu.order_reason.Given as goal

abbrev pub invariant-loop-place : goal.invariant-loop-place
invariant-loop-place l =
    let places = map table_place (map (λ f. f.name) l.files) in
    (k : ℕ) → k + 1 < l.place → get_or places k 0 < get_or places (k + 1) 0
