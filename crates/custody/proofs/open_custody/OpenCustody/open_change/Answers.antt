use Rattle.custody.specs.OpenCustody.{current_records}
use Rattle.custody.proofs.Uploads.{only_a_part}
use Rattle.custody.proofs.open_custody.OpenCustody.open_change.Goals as goal

pub unreachable-requires : goal.unreachable-requires
unreachable-requires g c = only_a_part c.args.change c.in_default.not-Part (current_records c.args.self.now) c.requires.1 c.args.len c.requires.2 c.requires.3
