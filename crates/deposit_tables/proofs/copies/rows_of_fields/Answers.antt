use Rattle.csv.specs.Records.{fields_of}
use Rattle.deposit_tables.proofs.RowsCopied.{rows_are}
use Rattle.deposit_tables.proofs.copies.rows_of_fields.Goals as goal

pub returns : goal.returns
returns c = λ rows wide flat. rows_are c.args.width (fields_of c.args.fields) c.in-Some.rows rows c.requires.some c.in-Some.ensures.some wide flat
