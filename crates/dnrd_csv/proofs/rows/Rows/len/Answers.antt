use Rattle.std.proofs.Common.{◌∙◌, ap, length, sym}
use Rattle.csv.specs.Records.{fields_of}
use Rattle.dnrd_csv.proofs.RowLemmas.{length-rows_from}
use Rattle.dnrd_csv.proofs.rows.Rows.len.Goals as goal

pub returns : goal.returns
returns c =
    let kept = c.self.inside in
    sym (length-rows_from kept.width kept.count (fields_of kept.fields)) ∙ ap length c.self.view_is
