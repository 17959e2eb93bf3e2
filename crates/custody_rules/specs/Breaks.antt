-- What is wrong among records.
use Rattle.custody_records.specs.Records.{Records}
use Rattle.custody_machine.specs.declared.answers.Failure.{Failure}
use Rattle.custody_machine.specs.declared.answers.Failure.TheVariants.{NoMemory, Damaged}
use Rattle.custody_machine.specs.declared.damage.Damage.{Damage}
use Rattle.custody_machine.specs.declared.damage.Damage.TheVariants.{Extent, Overlap, Link}
use Rattle.custody_machine.specs.StoredState.{HaveExtentsInRange, HaveBlocksOnce, AreLinked}

-- the first of the rules among records that these break: no other damage is theirs
abbrev pub BreaksFirst : Damage → Records → Type 0
BreaksFirst Extent records = ¬ HaveExtentsInRange records
BreaksFirst Overlap records = HaveExtentsInRange records × (¬ HaveBlocksOnce records)
BreaksFirst Link records = HaveExtentsInRange records × HaveBlocksOnce records × (¬ AreLinked records)
BreaksFirst _ records = ⊥

-- a failure that is told of records: the first rule that they break, or want of memory
abbrev pub ReportsBreak : Records → Failure → Type 0
ReportsBreak records NoMemory = Unit
ReportsBreak records (Damaged damage) = BreaksFirst damage records
ReportsBreak records _ = ⊥
