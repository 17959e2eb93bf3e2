use Rattle.std.proofs.Common.{◌≡◌, ◌≢◌, ⊎_elim, ◌∙◌, ap, arith}
use Rattle.std.proofs.lemmas.Bool.{cases_eq}
use Rattle.extent_map.specs.Words.{bit}
use Rattle.extent_map.proofs.BitLemmas.{run_grows}
use Rattle.extent_map.proofs.words.set_run.Goals as goal

pub loop-b-preserved : goal.loop-b-preserved
loop-b-preserved c =
    let inv = c.loop-b.invariant in
    let b = c.loop-b.b in
    let low = c.loop-b.auto.b in
    let high = c.loop-b-test.true in
    let now = c.set.ensures in
    record {
      length = now.length ∙ inv.length;
      done = λ d from to. ⊎_elim
          (λ (same : d ≡ b). ap (bit c.set.new.words) same ∙ now.here)
          (λ (other : d ≢ b). now.others d other ∙ inv.done d from (omega (arith, to, other)))
          (cases_eq d b);
      below = λ d lt. now.others d (λ e. omega (arith, e, lt, low)) ∙ inv.below d lt;
      above = λ d le. now.others d (λ e. omega (arith, e, le)) ∙ inv.above d (omega (arith, le));
      count = λ n le. run_grows c.args.words.now c.loop-b.words c.set.new.words c.args.start b n c.args.count low (omega (arith, high, le))
          (inv.above b (omega arith) ∙ c.requires.zeros b low high) now.here now.others (inv.count n le);
    }
