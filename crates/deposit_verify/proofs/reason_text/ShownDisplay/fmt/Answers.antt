use Rattle.std.proofs.Common.{◌≡◌, ◌≤◌, ◌∙◌, ℕ, List, ap, arith, flat_map, length, min, subst, take}
use Rattle.std.proofs.lemmas.List.{take_all, take_min}
use Rattle.std.specs.Fmt.{HasWritten}
use Rattle.deposit_verify.specs.ReasonText.{byte_shown}
use Rattle.deposit_verify.proofs.reason_text.ShownDisplay.fmt.Goals as goal

-- all of the beginning is taken
whole_beginning : (xs : List ℕ) (m n : ℕ) → m ≡ min (length xs) 40 → length (take m xs) ≤ n → take n (take m xs) ≡ take 40 xs
whole_beginning xs m n least far =
    let as_much : m ≡ min 40 (length xs) = omega (arith, least) in
    take_all n (take m xs) far ∙ ap (λ (k : ℕ). take k xs) as_much ∙ take_min 40 xs

pub returns-clause-writes : goal.returns-clause-writes
returns-clause-writes g c = λ plain ok.
    subst (λ (shown : List ℕ). HasWritten g.W.Write.write_str_gives c.args.f.now (flat_map byte_shown shown) c.loop-byte.f)
    (whole_beginning c.args.self.now.0.now c.min.result c.loop-byte.byte-index c.min.ensures (omega (arith, c.loop-byte-test.false, c.loop-byte.auto.byte-index-end))) (c.loop-byte.invariant plain)
