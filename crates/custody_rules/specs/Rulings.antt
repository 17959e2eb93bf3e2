-- The rulings of the code, as those of the machine.
use Rattle.custody_records.specs.TypedRecords.{notice_key, notice_value, part_value, release_key, release_value, hold_key, hold_value}
use Rattle.custody_machine.specs.Machine.{Record, OfRegistry, OfNotice, OfRelease, OfHold, OfLifting}
use Rattle.custody_machine.specs.Rulings as machine
use Rattle.custody_rules.specs.declared.ruling.Change as change
use Rattle.custody_rules.specs.declared.ruling.Change.TheVariants as makes
use Rattle.custody_rules.specs.declared.ruling.KeptRecord as kept
use Rattle.custody_rules.specs.declared.ruling.KeptRecord.TheVariants as answers
use Rattle.custody_rules.specs.declared.ruling.Ruling as code
use Rattle.custody_rules.specs.declared.ruling.Ruling.TheVariants.{Refuse, Kept, Compare, Go}

abbrev pub change_of : change.Change → machine.Change
change_of (makes.Registry registry) = machine.AddsRegistry registry.tld registry.first_day
change_of (makes.Part name) = machine.AddsPart name
change_of (makes.Verdict statement) = machine.AddsVerdict statement
change_of (makes.Absence tld day) = machine.AddsAbsence tld day
change_of (makes.Release reference tld reason) = machine.AddsRelease reference tld reason
change_of (makes.Hold reference tld day) = machine.AddsHold reference tld day
change_of (makes.Lift reference) = machine.LiftsHold reference
change_of makes.Purge = machine.DropsBytes

abbrev pub record_of : kept.KeptRecord → Record
record_of (answers.Registry registry) = OfRegistry registry.tld registry.first_day
record_of (answers.Notice notice) = OfNotice (notice_key notice) (notice_value notice)
record_of (answers.Release release) = OfRelease (release_key release.now) (release_value release.now)
record_of (answers.Hold hold) = OfHold (hold_key hold.now) (hold_value hold.now)
record_of (answers.Lifting reference at) = OfLifting reference at

abbrev pub ruling_of : code.Ruling → machine.Ruling
ruling_of (Refuse refusal) = machine.RefuseRuling refusal
ruling_of (Kept kept) = machine.KeptRuling (record_of kept)
ruling_of (Compare part extents) = machine.CompareRuling part.now.name (part_value part.now) extents.now
ruling_of (Go change) = machine.GoRuling (change_of change)
