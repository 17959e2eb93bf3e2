use Rattle.std.proofs.Common.{◌≡◌, ◌+◌, ◌∙◌, List, [], ◌∷◌, drop, refl, sym, ap, subst, arith}
use Rattle.std.specs.Prelude.{map}
use Rattle.std.proofs.lemmas.List.{drop_more}
use Rattle.std.proofs.Math.ListN.{drop_of_length-le}
use Rattle.custody_rules.specs.DueDays.{due_day_pair}
use Rattle.custody_rules.specs.declared.days_due.DueDay.{DueDay}
use Rattle.agent_cli.specs.Acts.{IsSwept}
use Rattle.agent_cli.proofs.sweeping.check_days.Goals as goal

pub returns-then-status-ne0-clause-swept : goal.returns-then-status-ne0-clause-swept
returns-then-status-ne0-clause-swept g c =
    let days = c.args.days.now in
    let i = c.loop-day.day-index in
    let output = g.W.Write.contents c.check_day-status.new.out in
    let errors = g.E.Write.contents c.check_day-status.new.err in
    c.loop-day.invariant c.check_day-status.new.custody c.check_day-status.result output errors
    (subst (λ (left : List DueDay). IsSwept (map due_day_pair left) c.loop-day.custody c.args.now c.check_day-status.new.custody c.check_day-status.result (record { before = g.W.Write.contents c.loop-day.out; after = output }) (record { before = g.E.Write.contents c.loop-day.err; after = errors }))
    (sym (drop_more days i c.day-item.result (omega arith) ∙ ap (λ x. x ∷ drop (i + 1) days) (sym c.day-item.is)))
    (c.check_day-status.new.custody, c.check_day-status.result, output, errors, c.check_day-status.ensures.applied, (λ done. absurd (c.if-status-ne0.true done)), (λ _. (refl, refl, refl, refl))))

pub loop-day-preserved : goal.loop-day-preserved
loop-day-preserved g c = λ new status out err rest.
    let days = c.args.days.now in
    let i = c.loop-day.day-index in
    c.loop-day.invariant new status out err
    (subst (λ (left : List DueDay). IsSwept (map due_day_pair left) c.loop-day.custody c.args.now new status (record { before = g.W.Write.contents c.loop-day.out; after = out }) (record { before = g.E.Write.contents c.loop-day.err; after = err }))
    (sym (drop_more days i c.day-item.result (omega arith) ∙ ap (λ x. x ∷ drop (i + 1) days) (sym c.day-item.is)))
    (c.check_day-status.new.custody, c.check_day-status.result, g.W.Write.contents c.check_day-status.new.out, g.E.Write.contents c.check_day-status.new.err, c.check_day-status.ensures.applied, (λ _. rest), (λ other. absurd (other c.if-status-ne0.false))))

pub returns-clause-swept : goal.returns-clause-swept
returns-clause-swept g c =
    let left : drop c.loop-day.day-index c.args.days.now ≡ [] = drop_of_length-le c.args.days.now (omega arith) in
    c.loop-day.invariant c.loop-day.custody 0 (g.W.Write.contents c.loop-day.out) (g.E.Write.contents c.loop-day.err)
    (subst (λ (l : List DueDay). IsSwept (map due_day_pair l) c.loop-day.custody c.args.now c.loop-day.custody 0 (record { before = g.W.Write.contents c.loop-day.out; after = g.W.Write.contents c.loop-day.out }) (record { before = g.E.Write.contents c.loop-day.err; after = g.E.Write.contents c.loop-day.err }))
    (sym left) (refl, refl, refl, refl))
