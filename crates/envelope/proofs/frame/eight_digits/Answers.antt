use Rattle.std.proofs.Common.{◌≡◌, ℕ, suc, ◌+◌, ◌-◌, ◌/◌, ◌%◌, ◌<◌, List, [], ◌∷◌, ◌++◌, ◌∙◌, add-one, ap, append_assoc, arith, drop, length, sym}
use Rattle.std.specs.Prelude.{slice_set}
use Rattle.std.proofs.lemmas.List.{drop-set, length-set}
use Rattle.envelope.specs.Frame.{fixed_digits}
use Rattle.envelope.proofs.frame.eight_digits.Goals as goal

-- one digit more before those that are written
one_more : (digits text : List ℕ) (k left : ℕ) → k < length digits → fixed_digits (suc k) left ++ drop (suc k) digits ≡ text
    → fixed_digits k (left / 10) ++ drop k (slice_set digits k (48 + left % 10)) ≡ text
unfolding fixed_digits
one_more digits text k left inside was =
    ap (λ (t : List ℕ). fixed_digits k (left / 10) ++ t) (drop-set digits k (48 + left % 10) inside ∙ ap (λ (n : ℕ). (48 + left % 10) ∷ drop n digits) (add-one k))
    ∙ sym (append_assoc (fixed_digits k (left / 10)) ((48 + left % 10) ∷ []) (drop (suc k) digits)) ∙ was

pub loop-i-preserved : goal.loop-i-preserved
loop-i-preserved c =
    let i = c.loop-i.i in
    let digits = c.loop-i.digits in
    let left = c.loop-i.left in
    let before : 8 - i ≡ suc (7 - i) = omega (arith, c.loop-i-test.true) in
    let after : 8 - (i + 1) ≡ 7 - i = omega (arith, c.loop-i-test.true) in
    let was = rw before at c.loop-i.invariant.written in
    record {
      eight = length-set digits (7 - i) (48 + left % 10) ∙ c.loop-i.invariant.eight;
      written = rw after (one_more digits (fixed_digits 8 c.args.n) (7 - i) left (omega (arith, c.loop-i.invariant.eight)) was);
    }

pub returns : goal.returns
unfolding fixed_digits
returns c =
    let none : 8 - c.loop-i.i ≡ 0 = omega (arith, c.loop-i-test.false) in
    rw none at c.loop-i.invariant.written
