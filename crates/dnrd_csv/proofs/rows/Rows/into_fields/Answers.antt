use Rattle.std.proofs.Common.{◌∙◌, ap, sym}
use Rattle.csv.specs.Records.{fields_of}
use Rattle.dnrd_csv.proofs.FieldLemmas.{flat-rows_from}
use Rattle.dnrd_csv.proofs.RowLemmas.{flat, singles}
use Rattle.dnrd_csv.proofs.rows.Rows.into_fields.Goals as goal

pub returns-clause-fields : goal.returns-clause-fields
returns-clause-fields c =
    let kept = c.self.inside in
    sym (flat-rows_from kept.width kept.count (fields_of kept.fields) c.self.invariant.fits) ∙ ap flat c.self.view_is

pub returns-clause-keys : goal.returns-clause-keys
returns-clause-keys c one =
    let kept = c.self.inside in
    singles kept.width kept.count (fields_of kept.fields) c.self.invariant.fits (rw (sym c.self.view_is) at one) ∙ c.self.view_is
