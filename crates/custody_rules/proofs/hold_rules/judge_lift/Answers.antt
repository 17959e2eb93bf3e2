use Rattle.std.proofs.Common.{sym}
use Rattle.custody_records.specs.MemoryRecords.{records_of}
use Rattle.custody_records.specs.TypedRecords.{hold_value}
use Rattle.custody_rules.proofs.Holds.{makes_lifting, refuses_no_hold, repeats_lifting}
use Rattle.custody_rules.proofs.hold_rules.judge_lift.Goals as goal

pub returns-in-Some-lifted : goal.returns-in-Some-lifted
returns-in-Some-lifted c = λ now. repeats_lifting (records_of c.args.records.now) c.args.reference now (hold_value c.in-Some.hold.now) (sym c.in-Some.ensures.found) c.in-Some-lifted.at c.in-Some-lifted.is

pub returns-in-None-lifted : goal.returns-in-None-lifted
returns-in-None-lifted c = λ now. makes_lifting (records_of c.args.records.now) c.args.reference now (hold_value c.in-Some.hold.now) (sym c.in-Some.ensures.found) c.in-None-lifted.is

pub returns-in-None : goal.returns-in-None
returns-in-None c = λ now. refuses_no_hold (records_of c.args.records.now) c.args.reference now (sym c.in-None.ensures.found)
