use Rattle.std.proofs.Common.{◌≡◌, ◌+◌, ◌-◌, ◌*◌, ◌/◌, ◌<◌, ◌≤◌, ap, ◌∙◌, arith}
use Rattle.extent_map.specs.Words.{bit}
use Rattle.extent_map.proofs.BitLemmas.{in_word, no_run}
use Rattle.extent_map.proofs.words.next_start.Goals as goal

pub returns-clause-none : goal.returns-clause-none
returns-clause-none c = λ start low high.
    let words = c.args.words.now in
    let at = c.args.from / 64 in
    let behind = c.behind_last_zero.result in
    let fits = c.behind_last_zero.ensures.range in
    let count = c.if-count-lt64.false in
    let is = c.max.ensures in
    let before : start < 64 * at + behind = omega (arith, is, low, high) in
    let some : 1 ≤ behind = omega (arith, before, low) in
    let place : 64 * at + behind - 1 ≡ 64 * at + (behind - 1) = omega (arith, some) in
    let zero : bit words (64 * at + behind - 1) ≡ 0 = ap (bit words) place ∙ in_word words at (behind - 1) (omega (arith, fits, some)) ∙ c.behind_last_zero.ensures.zero some in
    no_run words start c.args.count (64 * at + behind - 1) zero (omega (arith, before)) (omega (arith, fits, count, low, some))
