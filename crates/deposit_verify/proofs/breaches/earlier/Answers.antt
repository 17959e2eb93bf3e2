use Rattle.deposit_verify.proofs.BreachLemmas.{one_first, only_one, only_other, other_first}
use Rattle.deposit_verify.proofs.breaches.earlier.Goals as goal

pub returns-then-is_before : goal.returns-then-is_before
returns-then-is_before c = λ tables some more is too.
    other_first tables some more c.in-Some-Some.one c.in-Some-Some.other (rw c.in-Some-Some.is-0 at is) (rw c.in-Some-Some.is-1 at too) (c.is_before.ensures.0 c.if-is_before.true)

pub returns-else-is_before : goal.returns-else-is_before
returns-else-is_before c = λ tables some more is too.
    one_first tables some more c.in-Some-Some.one c.in-Some-Some.other (rw c.in-Some-Some.is-0 at is) (rw c.in-Some-Some.is-1 at too) (λ before. cc (c.is_before.ensures.1 before, c.if-is_before.false))

pub returns-in-Some-None : goal.returns-in-Some-None
returns-in-Some-None c = λ tables some more is too.
    only_one tables some more c.in-Some-None.one (rw c.in-Some-None.is-0 at is) (rw c.in-Some-None.is-1 at too)

pub returns-in-None-default : goal.returns-in-None-default
returns-in-None-default c = λ tables some more is too.
    only_other tables some more c.args.other (rw c.in-None-default.is-0 at is) too
