use Rattle.std.proofs.Common.{length}
use Rattle.std.proofs.Math.Nat.{sub-zero}
use Rattle.std.proofs.Math.Seq.{take-length}
use Rattle.csv.specs.Records.{fields_of}
use Rattle.dnrd_csv.proofs.reading.spell.Goals as goal

pub returns : goal.returns
returns c = rw (c.clear.ensures.items, c.len.ensures, sub-zero (length (fields_of c.args.row.now)), take-length (fields_of c.args.row.now)) at c.write_row.ensures
