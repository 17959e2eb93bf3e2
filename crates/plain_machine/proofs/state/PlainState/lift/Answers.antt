use Rattle.std.proofs.Common.{◌∙◌, sym, ap}
use Rattle.std.specs.Prelude.{option_map}
use Rattle.custody_records.specs.TypedRecords.{hold_value}
use Rattle.plain_machine.specs.Plain.{state_view}
use Rattle.plain_machine.proofs.PlainSteps.{as_answered}
use Rattle.plain_machine.proofs.PlainHolding.{lifts, refuses_lift, repeats_lift}
use Rattle.plain_machine.proofs.state.PlainState.lift.Goals as goal

pub returns-in_default : goal.returns-in_default
returns-in_default c = refuses_lift (state_view c.args.self.now) c.args.reference c.args.now (sym c.hold_of.ensures.found ∙ ap (option_map (λ h. hold_value h.now)) c.in_default.is)

pub returns-in-Some-lifted : goal.returns-in-Some-lifted
returns-in-Some-lifted c =
    let kept = hold_value c.in-Some.hold.now in
    as_answered _ _ _ _ _ c.lifting_answer.ensures (repeats_lift (state_view c.args.self.now) c.args.reference c.args.now kept (sym c.in-Some.ensures.found) c.in-Some-lifted.at c.in-Some-lifted.is)

pub returns : goal.returns
returns c =
    let old = state_view c.args.self.now in
    let kept = hold_value c.in-Some.hold.now in
    let there = sym c.in-Some.ensures.found in
    as_answered _ _ _ _ _ c.lifting_answer-2.ensures (lifts old c.args.reference c.args.now kept there _ c.in_default-lifted.is (ap (λ m. record old { holds = m }) (c.lift.ensures kept there)))
