use Rattle.std.proofs.Common.{◌≡◌, ◌-◌, ◌++◌, drop, length}
use Rattle.envelope.specs.Frame.{fixed_digits}
use Rattle.envelope.proofs.frame.eight_digits.Given as goal

-- the digits of what is left, and those that are written, are the number's
abbrev pub invariant-loop-i : goal.invariant-loop-i
invariant-loop-i l = record {
  eight : length l.digits ≡ 8;
  written : fixed_digits (8 - l.i) l.left ++ drop (8 - l.i) l.digits ≡ fixed_digits 8 l.fn.n;
}
