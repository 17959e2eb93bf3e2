use Rattle.std.proofs.Common.{◌∙◌, sym, ap, subst, map}
use Rattle.std.specs.Prelude.{option_map}
use Rattle.std.specs.FinMap.{from_entries}
use Rattle.plain_machine.specs.declared.state.PlainContent.TheVariants.{Held}
use Rattle.custody_machine.specs.State as state
use Rattle.plain_machine.specs.Plain.{state_view, plain_part_entry, part_view, IsPlainStep}
use Rattle.custody_machine.specs.Machine.{Receive, step, state_with_part}
use Rattle.custody_records.specs.Records.{key_of}
use Rattle.plain_machine.proofs.PlainPurges.{once_tried}
use Rattle.plain_machine.proofs.PlainSteps.{as_answered, part_pushed, refuses, repeats, place_is_free, receives_new}
use Rattle.plain_machine.proofs.state.PlainState.receive_part.Goals as goal

pub invariant_of-self : goal.invariant_of-self
invariant_of-self c =
    let text = c.requires.0 in
    let none = sym c.find_refusal.ensures ∙ c.in-None.is in
    let new = sym c.find_recorded.ensures ∙ ap (option_map (λ p. part_view p.now)) c.in-None-find_recorded.is in
    record {
      once = once_tried c.args.self.now.parts.items c.push.new.self.items (record { name = c.args.name.now; received = c.args.now; content = Held c.in_ok-copy-in-None-find_recorded.copy }) _ c.push.ensures.items c.args.self.now.once
          (place_is_free (state_view c.args.self.now) text c.args.bytes.now c.args.now c.args.name.now c.requires.1 none new);
    }

pub returns-in-Some-clause-step : goal.returns-in-Some-clause-step
returns-in-Some-clause-step c = λ text named. refuses (state_view c.args.self.now) text c.args.bytes.now c.args.now c.args.name.now named c.in-Some.refusal (sym c.find_refusal.ensures ∙ c.in-Some.is)

pub returns-in-Some-find_recorded-clause-step : goal.returns-in-Some-find_recorded-clause-step
returns-in-Some-find_recorded-clause-step c = λ text named.
    subst (λ a. IsPlainStep a (state_view c.args.self.now) (state_view c.args.self.now) (step (state_view c.args.self.now) (Receive text c.args.bytes.now) c.args.now)) (sym c.part_answer.ensures)
    (repeats (state_view c.args.self.now) text c.args.bytes.now c.args.now c.args.name.now named (part_view c.in-Some-find_recorded.part.now) (sym c.find_refusal.ensures ∙ c.in-None.is) (sym c.find_recorded.ensures ∙ ap (option_map (λ p. part_view p.now)) c.in-Some-find_recorded.is))

pub returns-in_ok-push-in-None-find_recorded-clause-step : goal.returns-in_ok-push-in-None-find_recorded-clause-step
returns-in_ok-push-in-None-find_recorded-clause-step c = λ text named.
    let none = sym c.find_refusal.ensures ∙ c.in-None.is in
    let new = sym c.find_recorded.ensures ∙ ap (option_map (λ p. part_view p.now)) c.in-None-find_recorded.is in
    let free = place_is_free (state_view c.args.self.now) text c.args.bytes.now c.args.now c.args.name.now named none new in
    let maps = ap (λ items. from_entries (map plain_part_entry items)) c.in_ok-push-in-None-find_recorded.ensures.items
    ∙ part_pushed c.args.self.now.parts.items (record { name = c.args.name.now; received = c.args.now; content = Held c.in_ok-copy-in-None-find_recorded.copy }) free in
    let all = ap (λ m. record (state_view c.args.self.now) { parts = m }) maps ∙ ap (λ bytes. state_with_part (state_view c.args.self.now) (key_of c.args.name.now) (record { kind = c.args.name.now.kind; received = c.args.now; content = state.Held bytes })) c.in_ok-copy-in-None-find_recorded.ensures.items in
    as_answered _ _ _ _ _ c.part_answer-in-None-find_recorded.ensures (receives_new (state_view c.args.self.now) text c.args.bytes.now c.args.now c.args.name.now named _ none new all)
