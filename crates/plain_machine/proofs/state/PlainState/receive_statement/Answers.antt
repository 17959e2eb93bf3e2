use Rattle.std.proofs.Common.{sym, ◌∙◌, ap}
use Rattle.std.specs.Prelude.{option_map}
use Rattle.std.specs.FinMap.{get}
use Rattle.custody_records.specs.TypedRecords.{notice_entry}
use Rattle.plain_machine.specs.Plain.{notices_view, state_view}
use Rattle.plain_machine.proofs.NoticeRows.{number_is_new}
use Rattle.plain_machine.proofs.PlainSteps.{as_answered, refuses_stated, repeats_stated, states_new}
use Rattle.plain_machine.proofs.state.PlainState.receive_statement.Goals as goal

pub returns-in-Some-clause-step : goal.returns-in-Some-clause-step
returns-in-Some-clause-step c = refuses_stated (state_view c.args.self.now) c.args.stated.now c.args.now c.in-Some.refusal (sym c.refusal_of_statement.ensures ∙ c.in-Some.is)

pub returns-in-Some-kept_verdict-clause-step : goal.returns-in-Some-kept_verdict-clause-step
returns-in-Some-kept_verdict-clause-step c =
    as_answered _ _ _ _ _ c.notice_answer.ensures (repeats_stated (state_view c.args.self.now) c.args.stated.now c.args.now c.in-Some-kept_verdict.notice (sym c.refusal_of_statement.ensures ∙ c.in_default.is)
    (sym c.kept_verdict.ensures ∙ ap (option_map notice_entry) c.in-Some-kept_verdict.is))

pub add-requires : goal.add-requires
add-requires c = record { new = ap (get (notices_view c.args.self.now.notices)) c.in_ok-notice.ensures.key ∙ number_is_new (notices_view c.args.self.now.notices) c.args.stated.now.tld }

pub returns-clause-step : goal.returns-clause-step
returns-clause-step c =
    as_answered _ _ _ _ _ c.notice_answer-2.ensures (states_new (state_view c.args.self.now) c.args.stated.now c.args.now c.in_ok-notice.notice _ (sym c.refusal_of_statement.ensures ∙ c.in_default.is)
    (sym c.kept_verdict.ensures ∙ ap (option_map notice_entry) c.in_default-kept_verdict.is) c.in_ok-notice.ensures.key c.in_ok-notice.ensures.value
    (ap (λ m. record (state_view c.args.self.now) { notices = m }) c.in_ok-add.ensures.added))
