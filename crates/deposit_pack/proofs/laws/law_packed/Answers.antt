use Rattle.deposit_pack.proofs.UnpackingLaw.{unpacking_law}
use Rattle.deposit_pack.proofs.laws.law_packed.Goals as goal

pub returns : goal.returns
returns c = unpacking_law (record { envelope = c.law_one_reading.ensures.envelope; frame = c.law_one_reading.ensures.frame })
