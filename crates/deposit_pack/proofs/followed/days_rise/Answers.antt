use Rattle.std.proofs.Common.{nat_lt, rules, arith}
use Rattle.std.proofs.lemmas.Fn.{always_returns_same}
use Rattle.std.proofs.lemmas.Grind.{common_steps}
use Rattle.deposit_pack.proofs.FollowedLemmas.{rise_by_answer}
use Rattle.deposit_pack.proofs.followed.days_rise.Goals as goal

pub returns : goal.returns
returns c =
    rise_by_answer c.args.names.now c.is_sorted_by.result
    (c.is_sorted_by.ensures.cases (λ one next. nat_lt one.day next.day) (always_returns_same _ _ _ (λ a r s called. (first_of (search rules, grind (arith, common_steps)), first_of (search rules, cc, grind (arith, common_steps))))))
