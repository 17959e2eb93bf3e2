use Rattle.std.proofs.Common.{◌∙◌, sym, subst}
use Rattle.custody_records.specs.MemoryRecords.{records_of}
use Rattle.custody_records.specs.TypedRecords.{hold_value}
use Rattle.custody_machine.specs.Machine.{Hold, OfHold}
use Rattle.custody_machine.specs.declared.answers.Refusal.TheVariants.{RegistryUnknown}
use Rattle.custody_machine.specs.Rulings.{RefuseRuling, KeptRuling, Decides, Ruling}
use Rattle.custody_machine.specs.declared.answers.Refusal.{Refusal}
use Rattle.custody_rules.proofs.Ruled.{refuses, unknown_first}
use Rattle.custody_rules.proofs.Holds.{refuses_used, repeats_hold, rules_new}
use Rattle.custody_rules.proofs.hold_rules.judge_hold.Goals as goal

pub returns-in_default : goal.returns-in_default
returns-in_default c =
    refuses (records_of c.args.records.now) (Hold c.args.reference c.args.tld c.args.day) c.args.now RegistryUnknown (λ e. cc) (λ e. cc) (λ image. unknown_first _ _ (sym c.first_day.ensures ∙ c.in_default.is))

pub returns-in-Some-hold : goal.returns-in-Some-hold
returns-in-Some-hold c =
    let records = records_of c.args.records.now in
    let kept = hold_value c.in-Some-hold.hold.now in
    subst (λ reference. Decides (KeptRuling (OfHold reference kept)) records (Hold c.args.reference c.args.tld c.args.day) c.args.now) (sym c.in-Some-hold.ensures.key)
    (repeats_hold records c.args.reference c.args.tld c.args.day c.args.now _ (sym c.first_day.ensures ∙ c.in-Some.is) kept (sym c.in-Some-hold.ensures.found) (sym c.is_of_day.ensures ∙ c.if-is_of_day.true))

pub returns-in-Some-2 : goal.returns-in-Some-2
returns-in-Some-2 c =
    subst (λ (refusal : Refusal). Decides (RefuseRuling refusal) (records_of c.args.records.now) (Hold c.args.reference c.args.tld c.args.day) c.args.now) (sym c.refusal_of_used.ensures)
    (refuses_used (records_of c.args.records.now) c.args.reference c.args.tld c.args.day c.args.now _ (sym c.first_day.ensures ∙ c.in-Some.is) (hold_value c.in-Some-hold.hold.now)
    (sym c.in-Some-hold.ensures.found) (sym c.is_of_day.ensures ∙ c.if-is_of_day.false) c.is_day_outside-is_out.result c.is_day_outside-is_out.ensures)

pub returns-in-None : goal.returns-in-None
returns-in-None c =
    subst (λ (ruling : Ruling). Decides ruling (records_of c.args.records.now) (Hold c.args.reference c.args.tld c.args.day) c.args.now) (sym c.judge_new.ensures)
    (rules_new (records_of c.args.records.now) c.args.reference c.args.tld c.args.day c.args.now _ (sym c.first_day.ensures ∙ c.in-Some.is) (sym c.in-None.ensures.found) c.is_day_outside-is_out.result c.is_day_outside-is_out.ensures)
