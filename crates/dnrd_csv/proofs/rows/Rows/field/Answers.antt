use Rattle.std.proofs.Common.{◌<◌, ◌∙◌, ◌+◌, ◌*◌, arith, length, sym}
use Rattle.csv.specs.Records.{fields_of}
use Rattle.dnrd_csv.proofs.RowLemmas.{field_in, field_inside, length-rows_from}
use Rattle.dnrd_csv.proofs.rows.Rows.field.Goals as goal

inside : (c : goal.After-self) → c.args.row * c.self.inside.width + c.args.column < length (fields_of c.self.inside.fields)
inside c =
    let kept = c.self.inside in
    let fields = fields_of kept.fields in
    let requires = rw (sym c.self.view_is) at c.requires in
    field_inside kept.width kept.count fields c.args.row c.args.column (omega (arith, length-rows_from kept.width kept.count fields, requires.row)) requires.column

pub overflow_mul-row : goal.overflow_mul-row
overflow_mul-row c = omega (arith, inside c, c.self.invariant.fits, c.self.invariant.small)

pub overflow_add-row : goal.overflow_add-row
overflow_add-row c = omega (arith, inside c, c.self.invariant.fits, c.self.invariant.small)

pub field_at-requires : goal.field_at-requires
field_at-requires c = inside c

pub returns : goal.returns
returns c =
    let kept = c.self.inside in
    let fields = fields_of kept.fields in
    let requires = rw (sym c.self.view_is) at c.requires in
    rw (sym c.self.view_is) (c.field_at.ensures
    ∙ field_in kept.width kept.count fields c.args.row c.args.column (omega (arith, length-rows_from kept.width kept.count fields, requires.row)) requires.column)
