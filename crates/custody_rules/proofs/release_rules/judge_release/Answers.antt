use Rattle.std.proofs.Common.{◌∙◌, sym, subst}
use Rattle.custody_records.specs.MemoryRecords.{records_of}
use Rattle.custody_records.specs.TypedRecords.{release_value}
use Rattle.custody_machine.specs.Machine.{Release, OfRelease}
use Rattle.custody_machine.specs.declared.answers.Refusal.TheVariants.{RegistryUnknown}
use Rattle.custody_machine.specs.Rulings.{KeptRuling, Decides}
use Rattle.custody_rules.proofs.Ruled.{refuses, unknown_first}
use Rattle.custody_rules.proofs.Releases.{makes_release, refuses_ground, refuses_used, repeats_release}
use Rattle.custody_rules.proofs.release_rules.judge_release.Goals as goal

pub returns-in_default : goal.returns-in_default
returns-in_default c =
    refuses (records_of c.args.records.now) (Release c.args.reference c.args.tld c.args.reason) c.args.now RegistryUnknown (λ e. cc) (λ e. cc) (λ image. unknown_first _ _ (sym c.first_day.ensures ∙ c.in_default.is))

pub returns-in-Some-release : goal.returns-in-Some-release
returns-in-Some-release c =
    let records = records_of c.args.records.now in
    let kept = release_value c.in-Some-release.release.now in
    subst (λ reference. Decides (KeptRuling (OfRelease reference kept)) records (Release c.args.reference c.args.tld c.args.reason) c.args.now) (sym c.in-Some-release.ensures.key)
    (repeats_release records c.args.reference c.args.tld c.args.reason c.args.now _ (sym c.first_day.ensures ∙ c.in-Some.is) kept (sym c.in-Some-release.ensures.found) (sym c.is_on_ground.ensures ∙ c.if-is_on_ground.true))

pub returns-in-Some-2 : goal.returns-in-Some-2
returns-in-Some-2 c =
    refuses_used (records_of c.args.records.now) c.args.reference c.args.tld c.args.reason c.args.now _ (sym c.first_day.ensures ∙ c.in-Some.is) (release_value c.in-Some-release.release.now) (sym c.in-Some-release.ensures.found) (sym c.is_on_ground.ensures ∙ c.if-is_on_ground.false)

pub returns-in-None : goal.returns-in-None
returns-in-None c =
    makes_release (records_of c.args.records.now) c.args.reference c.args.tld c.args.reason c.args.now _ (sym c.first_day.ensures ∙ c.in-Some.is) (sym c.in-None.ensures.found) (sym c.has_ground.ensures ∙ c.if-has_ground.true)

pub returns-in-None-2 : goal.returns-in-None-2
returns-in-None-2 c =
    refuses_ground (records_of c.args.records.now) c.args.reference c.args.tld c.args.reason c.args.now _ (sym c.first_day.ensures ∙ c.in-Some.is) (sym c.in-None.ensures.found) (sym c.has_ground.ensures ∙ c.if-has_ground.false)
