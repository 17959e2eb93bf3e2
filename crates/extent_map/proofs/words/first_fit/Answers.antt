use Rattle.std.proofs.Common.{◌≡◌, ◌*◌, ◌<◌, ◌≤◌, ⊎_elim, length, arith}
use Rattle.std.proofs.lemmas.Bool.{cases_lt}
use Rattle.extent_map.proofs.BitLemmas.{past_end, no_run}
use Rattle.extent_map.proofs.words.first_fit.Goals as goal

pub returns-then-start-end-clause-none : goal.returns-then-start-end-clause-none
returns-then-start-end-clause-none c = λ s run. ⊎_elim
    (λ (low : s < c.loop-from.from). c.loop-from.invariant s low run)
    (λ (from : c.loop-from.from ≤ s). ⊎_elim
    (λ (before : s < c.first_one-start.result). no_run c.args.words.now s c.args.count s (c.first_one-start.ensures.before s from before) (omega arith) (omega (arith, c.requires.some)) run)
    (λ (past : c.first_one-start.result ≤ s). no_run c.args.words.now s c.args.count s (past_end c.args.words.now s (omega (arith, past, c.if-start-end.true))) (omega arith) (omega (arith, c.requires.some)) run)
    (cases_lt s c.first_one-start.result))
    (cases_lt s c.loop-from.from)

pub returns-then-stop-start-clause-fits : goal.returns-then-stop-start-clause-fits
returns-then-stop-start-clause-fits c = record {
  run = λ b from to. c.first_zero-stop.ensures.before b from (omega (arith, to, c.if-stop-start.true));
  lowest = λ s run. ⊎_elim
      (λ (before : s < c.first_one-start.result). ⊎_elim
      (λ (low : s < c.loop-from.from). absurd (c.loop-from.invariant s low run))
      (λ (from : c.loop-from.from ≤ s). absurd (no_run c.args.words.now s c.args.count s (c.first_one-start.ensures.before s from before) (omega arith) (omega (arith, c.requires.some)) run))
      (cases_lt s c.loop-from.from))
      (λ (past : c.first_one-start.result ≤ s). past)
      (cases_lt s c.first_one-start.result);
}

pub loop-from-preserved : goal.loop-from-preserved
loop-from-preserved c = λ s lt run.
    let words = c.args.words.now in
    let stop = c.first_zero-stop.result in
    let at_stop : Rattle.extent_map.specs.Words.bit words stop ≡ 0 = ⊎_elim
    (λ (inside : stop < 64 * length words). c.first_zero-stop.ensures.found inside)
    (λ (end : 64 * length words ≤ stop). past_end words stop end)
    (cases_lt stop (64 * length words)) in
    ⊎_elim
    (λ (low : s < c.loop-from.from). c.loop-from.invariant s low run)
    (λ (from : c.loop-from.from ≤ s). ⊎_elim
    (λ (before : s < c.first_one-start.result). no_run words s c.args.count s (c.first_one-start.ensures.before s from before) (omega arith) (omega (arith, c.requires.some)) run)
    (λ (past : c.first_one-start.result ≤ s). ⊎_elim
    (λ (here : s < stop). no_run words s c.args.count stop at_stop (omega (arith, here)) (omega (arith, past, c.if-stop-start.false, c.first_zero-stop.ensures.range.0)) run)
    (λ (behind : stop ≤ s). c.next_start-from.ensures.none s behind lt run)
    (cases_lt s stop))
    (cases_lt s c.first_one-start.result))
    (cases_lt s c.loop-from.from)

pub returns-clause-none : goal.returns-clause-none
returns-clause-none c = λ s run. ⊎_elim
    (λ (low : s < c.loop-from.from). c.loop-from.invariant s low run)
    (λ (from : c.loop-from.from ≤ s). no_run c.args.words.now s c.args.count s (past_end c.args.words.now s (omega (arith, from, c.loop-from-test.false))) (omega arith) (omega (arith, c.requires.some)) run)
    (cases_lt s c.loop-from.from)
