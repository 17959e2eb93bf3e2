use Rattle.std.proofs.Common.{◌∙◌, refl, sym, ap, is_none}
use Rattle.custody_records.specs.MemoryRecords.{records_of}
use Rattle.custody_records.specs.TypedRecords.{notice_entry, notice_key, notice_value}
use Rattle.custody_machine.specs.Machine.{Check, OfNotice}
use Rattle.custody_machine.specs.StoredState.{state_in}
use Rattle.custody_machine.specs.declared.answers.Refusal.TheVariants.{RegistryUnknown}
use Rattle.custody_machine.proofs.Accepting.{step_none}
use Rattle.custody_machine.proofs.Checked.{missed_by}
use Rattle.custody_rules.proofs.Ruled.{refuses, repeats, unknown_first}
use Rattle.custody_rules.proofs.check_rules.judge_check.Goals as goal

pub returns-in_default : goal.returns-in_default
returns-in_default c =
    refuses (records_of c.args.records.now) (Check c.args.tld c.args.day) c.args.now RegistryUnknown (λ e. cc) (λ e. cc) (λ image. unknown_first _ _ (sym c.first_day.ensures ∙ c.in_default.is))

pub returns-in-Some-notice_of : goal.returns-in-Some-notice_of
returns-in-Some-notice_of c =
    let notice = c.in-Some-notice_of.notice.now in
    repeats (records_of c.args.records.now) (Check c.args.tld c.args.day) c.args.now (OfNotice (notice_key notice) (notice_value notice)) refl (λ s none. none)
    (λ image. record { kept = notice_entry notice; found = sym c.in-Some-notice_of.ensures; made = refl; registry = ap is_none (sym c.first_day.ensures ∙ c.in-Some.is) }) (λ image. tt)

pub returns-in-Some-refusal_of_check : goal.returns-in-Some-refusal_of_check
returns-in-Some-refusal_of_check c =
    let refused = c.in-Some-refusal_of_check in
    refuses (records_of c.args.records.now) (Check c.args.tld c.args.day) c.args.now refused.refusal refused.ensures.early.0 refused.ensures.early.1
    (λ image. sym (refused.ensures.first image (sym c.first_day.ensures ∙ c.in-Some.is) (sym c.in-None.ensures)))

pub returns-in-None-refusal_of_check : goal.returns-in-None-refusal_of_check
returns-in-None-refusal_of_check c = (
  refl,
  λ image.
      let state = state_in (records_of c.args.records.now) image in
      step_none state (Check c.args.tld c.args.day) c.args.now (sym (c.in-None-refusal_of_check.ensures.first image (sym c.first_day.ensures ∙ c.in-Some.is) (sym c.in-None.ensures)))
      ∙ ap (missed_by state c.args.tld c.args.day c.args.now) (sym c.in-None.ensures),
)
