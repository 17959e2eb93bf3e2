use Rattle.std.proofs.Common.{sym, ◌∙◌, ap}
use Rattle.std.specs.Prelude.{option_map}
use Rattle.std.specs.FinMap.{get}
use Rattle.custody_records.specs.TypedRecords.{notice_entry}
use Rattle.plain_machine.specs.Plain.{notices_view, state_view}
use Rattle.plain_machine.proofs.NoticeRows.{number_is_new}
use Rattle.plain_machine.proofs.PlainSteps.{as_answered, refuses_check, repeats_check, misses_new}
use Rattle.plain_machine.proofs.state.PlainState.receive_check.Goals as goal

pub returns-in-Some-clause-step : goal.returns-in-Some-clause-step
returns-in-Some-clause-step c = refuses_check (state_view c.args.self.now) c.args.tld.now c.args.day c.args.now c.in-Some.refusal (sym c.refusal_of_check.ensures ∙ c.in-Some.is)

pub returns-in-Some-absence_of-clause-step : goal.returns-in-Some-absence_of-clause-step
returns-in-Some-absence_of-clause-step c =
    as_answered _ _ _ _ _ c.notice_answer.ensures (repeats_check (state_view c.args.self.now) c.args.tld.now c.args.day c.args.now c.in-Some-absence_of.notice (sym c.refusal_of_check.ensures ∙ c.in_default.is)
    (sym c.absence_of.ensures ∙ ap (option_map notice_entry) c.in-Some-absence_of.is))

pub add-requires : goal.add-requires
add-requires c = record { new = ap (get (notices_view c.args.self.now.notices)) c.in_ok-notice.ensures.key ∙ number_is_new (notices_view c.args.self.now.notices) c.args.tld.now }

pub returns-clause-step : goal.returns-clause-step
returns-clause-step c =
    as_answered _ _ _ _ _ c.notice_answer-2.ensures (misses_new (state_view c.args.self.now) c.args.tld.now c.args.day c.args.now c.in_ok-notice.notice _ (sym c.refusal_of_check.ensures ∙ c.in_default.is)
    (sym c.absence_of.ensures ∙ ap (option_map notice_entry) c.in_default-absence_of.is) c.in_ok-notice.ensures.key c.in_ok-notice.ensures.value
    (ap (λ m. record (state_view c.args.self.now) { notices = m }) c.in_ok-add.ensures.added))
