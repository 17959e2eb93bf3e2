use Rattle.std.proofs.Common.{◌≡◌, ◌∙◌, sym, ap, subst}
use Rattle.std.specs.Prelude.{option_map}
use Rattle.std.specs.Option.{IfSome}
use Rattle.custody_records.specs.TypedRecords.{hold_key, hold_value}
use Rattle.plain_machine.specs.Plain.{state_view}
use Rattle.plain_machine.proofs.PlainSteps.{as_answered}
use Rattle.plain_machine.proofs.PlainHolding.{holds_new, refuses_hold, repeats_hold}
use Rattle.plain_machine.proofs.state.PlainState.hold.Goals as goal

pub returns-in-Some-clause-step : goal.returns-in-Some-clause-step
returns-in-Some-clause-step c = refuses_hold (state_view c.args.self.now) c.args.reference c.args.tld c.args.day c.args.now c.in-Some.refusal (sym c.refusal_of_hold.ensures ∙ c.in-Some.is)

pub returns-in-Some-kept_hold-clause-step : goal.returns-in-Some-kept_hold-clause-step
returns-in-Some-kept_hold-clause-step c =
    as_answered _ _ _ _ _ c.hold_answer.ensures (repeats_hold (state_view c.args.self.now) c.args.reference c.args.tld c.args.day c.args.now c.in-Some-kept_hold.hold.now (sym c.refusal_of_hold.ensures ∙ c.in_default.is)
    (sym c.kept_hold.ensures.found ∙ ap (option_map (λ h. hold_value h.now)) c.in-Some-kept_hold.is)
    (subst (λ o. IfSome o (λ h. hold_key h.now ≡ c.args.reference)) c.in-Some-kept_hold.is c.kept_hold.ensures.key))

pub returns-clause-step : goal.returns-clause-step
returns-clause-step c =
    let old = state_view c.args.self.now in
    as_answered _ _ _ _ _ c.hold_answer-2.ensures (holds_new old c.args.reference c.args.tld c.args.day c.args.now _ (sym c.refusal_of_hold.ensures ∙ c.in_default.is)
    (sym c.kept_hold.ensures.found ∙ ap (option_map (λ h. hold_value h.now)) c.in_default-kept_hold.is) (ap (λ m. record old { holds = m }) c.in_ok-add.ensures.added))
