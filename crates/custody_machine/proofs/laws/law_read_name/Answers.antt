use Rattle.custody_machine.proofs.NameReading.{is_reading}
use Rattle.custody_machine.proofs.laws.law_read_name.Goals as goal

pub returns : goal.returns
returns c = is_reading
