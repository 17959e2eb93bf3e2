use Rattle.std.proofs.Common.{◌≡◌, ℕ, List, drop, length}
use Rattle.deposit_verify.specs.Rows.{rows_under}
use Rattle.deposit_verify.proofs.named_keys.place_of.Given as goal

abbrev pub invariant-loop-i : goal.invariant-loop-i
invariant-loop-i l = (tables : List (List (List (List ℕ)))) → length tables ≡ length l.entries
    → rows_under (drop l.i l.entries) (drop l.i tables) l.name ≡ rows_under l.entries tables l.name
