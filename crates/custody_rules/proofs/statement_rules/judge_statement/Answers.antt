use Rattle.std.proofs.Common.{◌∙◌, refl, sym, ap, is_none}
use Rattle.custody_records.specs.MemoryRecords.{records_of}
use Rattle.custody_records.specs.TypedRecords.{notice_entry, notice_key, notice_value}
use Rattle.custody_machine.specs.Machine.{Statement, OfNotice}
use Rattle.custody_machine.specs.StoredState.{state_in}
use Rattle.custody_machine.specs.declared.answers.Refusal.TheVariants.{RegistryUnknown}
use Rattle.custody_machine.proofs.Accepting.{step_none}
use Rattle.custody_machine.proofs.Stated.{stated_by}
use Rattle.custody_rules.proofs.Ruled.{refuses, repeats, unknown_first}
use Rattle.custody_rules.proofs.Statements.{first_of_statement, kept_in_state}
use Rattle.custody_rules.proofs.statement_rules.judge_statement.Goals as goal

pub returns-in_default : goal.returns-in_default
returns-in_default c =
    refuses (records_of c.args.records.now) (Statement c.args.statement.now) c.args.now RegistryUnknown (λ e. cc) (λ e. cc) (λ image. unknown_first _ _ (sym c.first_day.ensures ∙ c.in_default.is))

pub returns-in-Some-kept_verdict : goal.returns-in-Some-kept_verdict
returns-in-Some-kept_verdict c =
    let records = records_of c.args.records.now in
    let st = c.args.statement.now in
    let notice = c.in-Some-kept_verdict.notice.now in
    repeats records (Statement st) c.args.now (OfNotice (notice_key notice) (notice_value notice)) refl (λ s none. none)
    (λ image. record { kept = notice_entry notice; found = kept_in_state records st image ∙ sym c.in-Some-kept_verdict.ensures; made = refl; registry = ap is_none (sym c.first_day.ensures ∙ c.in-Some.is) }) (λ image. tt)

pub returns-in-Some-refusal_of_statement : goal.returns-in-Some-refusal_of_statement
returns-in-Some-refusal_of_statement c =
    let records = records_of c.args.records.now in
    let refused = c.in-Some-refusal_of_statement in
    refuses records (Statement c.args.statement.now) c.args.now refused.refusal refused.ensures.early.0 refused.ensures.early.1
    (λ image. first_of_statement records c.args.statement.now image c.args.now c.in-Some.first_day (sym c.first_day.ensures ∙ c.in-Some.is) (sym c.in-None.ensures) ∙ sym refused.ensures.first)

pub returns-in-None-refusal_of_statement : goal.returns-in-None-refusal_of_statement
returns-in-None-refusal_of_statement c = (
  refl,
  λ image.
      let records = records_of c.args.records.now in
      let st = c.args.statement.now in
      let first = first_of_statement records st image c.args.now c.in-Some.first_day (sym c.first_day.ensures ∙ c.in-Some.is) (sym c.in-None.ensures) in
      step_none (state_in records image) (Statement st) c.args.now (first ∙ sym c.in-None-refusal_of_statement.ensures.first)
      ∙ ap (stated_by (state_in records image) st c.args.now) (kept_in_state records st image ∙ sym c.in-None.ensures),
)
