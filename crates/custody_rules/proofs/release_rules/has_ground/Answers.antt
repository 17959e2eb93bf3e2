use Rattle.std.proofs.Common.{◌∙◌, ap}
use Rattle.custody_records.specs.MemoryRecords.{records_of}
use Rattle.desk.specs.Standing.{ground_stands}
use Rattle.custody_rules.proofs.Releases.{rows_told}
use Rattle.custody_rules.proofs.release_rules.has_ground.Goals as goal

pub returns : goal.returns
returns c = c.ground_stands.ensures ∙ ap (λ rows. ground_stands c.args.reason rows c.args.now) (rows_told (records_of c.args.records.now) c.args.tld.now c.notices_of.result.now c.notices_of.ensures)
