use Rattle.std.proofs.Common.{sym}
use Rattle.custody_records.specs.MemoryRecords.{records_of}
use Rattle.custody_machine.specs.StoredState.{state_in}
use Rattle.custody_machine.proofs.Composed.{register_repeats}
use Rattle.custody_rules.proofs.Judged.{registry_is_new}
use Rattle.custody_rules.proofs.judging.judge_registry.Goals as goal

pub returns-in-Some : goal.returns-in-Some
returns-in-Some c = λ now image. register_repeats (state_in (records_of c.args.records.now) image) c.args.tld c.args.first_day now c.in-Some.kept (sym c.in-Some.ensures)

pub returns-in-None : goal.returns-in-None
returns-in-None c = λ now. registry_is_new (records_of c.args.records.now) c.args.tld c.args.first_day now (sym c.in-None.ensures)
