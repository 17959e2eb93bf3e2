use Rattle.std.proofs.Common.{◌∙◌, sym, ap, subst, map}
use Rattle.std.specs.FinMap.{from_entries}
use Rattle.plain_machine.specs.Plain.{state_view, plain_registry_entry, IsPlainStep}
use Rattle.custody_machine.specs.Machine.{Register, step}
use Rattle.plain_machine.proofs.PlainSteps.{as_answered, registry_pushed, registers_again, registers}
use Rattle.plain_machine.proofs.state.PlainState.register.Goals as goal

pub returns-in-Some-clause-step : goal.returns-in-Some-clause-step
returns-in-Some-clause-step c = λ now.
    subst (λ a. IsPlainStep a (state_view c.args.self.now) (state_view c.args.self.now) (step (state_view c.args.self.now) (Register c.args.tld c.args.first_day) now)) (sym c.registry_answer.ensures)
    (registers_again (state_view c.args.self.now) c.args.tld c.args.first_day now c.in-Some.kept (sym c.first_day.ensures ∙ c.in-Some.is))

pub returns-in_ok-push-in-None-clause-step : goal.returns-in_ok-push-in-None-clause-step
returns-in_ok-push-in-None-clause-step c = λ now.
    let none = sym c.first_day.ensures ∙ c.in-None.is in
    let maps = ap (λ items. from_entries (map plain_registry_entry items)) c.in_ok-push-in-None.ensures.items ∙ registry_pushed c.args.self.now.registries.items (record { tld = c.args.tld; first_day = c.args.first_day }) none in
    as_answered _ _ _ _ _ c.registry_answer-in-None.ensures (registers (state_view c.args.self.now) _ c.args.tld c.args.first_day now none (ap (λ m. record (state_view c.args.self.now) { registries = m }) maps))
