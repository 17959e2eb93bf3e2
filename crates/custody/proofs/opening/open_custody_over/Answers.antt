use Rattle.std.proofs.Common.{◌<◌, ◌^◌, ◌-◌, ◌∙◌, sym, ap, subst}
use Rattle.custody.proofs.opening.open_custody_over.Goals as goal

pub returns-clause-order : goal.returns-clause-order
returns-clause-order g c =
    let volume = c.over.ensures.volume in
    record {
      whole = c.requires.whole;
      blocks = ap g.V.Volume.size volume ∙ c.requires.size;
      placeable = λ b. (λ free. (c.requires.map.free b).0 ((c.over.ensures.free b).0 free), λ placeable. (c.over.ensures.free b).1 ((c.requires.map.free b).1 placeable));
      count = subst (λ n. n < 2 ^ 64 - 1) (ap g.V.Volume.failures (sym volume)) c.requires.count;
    }
