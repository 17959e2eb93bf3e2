use Rattle.deposit_pack.proofs.OnlyPacked.{only_packed}
use Rattle.deposit_pack.proofs.PackedFiles.{packs}
use Rattle.deposit_pack.proofs.PackedPasses.{passes}
use Rattle.deposit_pack.proofs.laws.law_packing.Goals as goal

pub returns : goal.returns
returns c =
    let reading = c.law_one_reading.ensures in
    record {
      packs = packs;
      passes = λ a o before known packable is. passes c.law_table_reader.ensures a o before packable known is c.law_pass.ensures;
      only = only_packed c.law_table_reader.ensures (record { envelope = reading.envelope; frame = reading.frame }) c.law_pass.ensures;
    }
