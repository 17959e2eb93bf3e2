use Rattle.std.proofs.Common.{◌∙◌, ap}
use Rattle.custody_records.specs.Form.{ground_in}
use Rattle.custody_records.proofs.FieldLemmas.{ground_read, ground_not_text}
use Rattle.custody_records.proofs.releases.read_ground.Goals as goal

pub returns-in-Ok : goal.returns-in-Ok
returns-in-Ok c = ground_read _ _ c.parse.ensures.text c.parse.ensures.only ∙ ap ground_in c.in-Ok.ensures.cases.0

pub returns-in-Err : goal.returns-in-Err
returns-in-Err c = ground_not_text c.args.text.now c.in-Err.ensures.cases.0
