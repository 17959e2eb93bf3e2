use Rattle.std.proofs.Common.{◌∙◌, ap}
use Rattle.std.specs.Set.{distinct_count}
use Rattle.std.specs.Str.{bytes_eq}
use Rattle.deposit_verify.proofs.base.count_after.Goals as goal

pub returns : goal.returns
returns c = rw (c.deref.ensures.value, c.deref-2.ensures.value) at c.count_after.ensures ∙ ap (distinct_count bytes_eq) (c.in_ok-found.ensures.after c.args.keys.now)
