use Rattle.std.proofs.Common.{◌≡◌, map, take}
use Rattle.deposit_verify.specs.Places.{all_tables}
use Rattle.deposit_verify.proofs.menu.first_other_table.Given as goal

abbrev pub invariant-loop-place : goal.invariant-loop-place
invariant-loop-place l = take l.place (map (λ f. f.name) l.files) ≡ take l.place all_tables
