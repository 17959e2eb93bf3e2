use Rattle.std.proofs.Common.{List, ℕ, ◌≡◌, ◌∙◌, ◌∷◌, [], arith, get_or, length, subst, sym}
use Rattle.csv.specs.Records.{fields_of}
use Rattle.dnrd_csv.specs.declared.form.Form.TheVariants.{HostName}
use Rattle.dnrd_csv.specs.Table.{IsFirstOutOfForm}
use Rattle.dnrd_csv.specs.Text.{key_rows}
use Rattle.dnrd_csv.proofs.KeyRows.{cut_are_rows, cut_fits, refused_key}
use Rattle.dnrd_csv.proofs.any_spelling.rows_of.Goals as goal

pub returns-in-Some-clause-refused : goal.returns-in-Some-clause-refused
returns-in-Some-clause-refused c key =
    let fields = fields_of c.args.fields in
    let row = c.in-Some.row in
    let field : c.in_ok-field.field.items ≡ get_or fields row [] = c.in_ok-field.ensures.items_if_clones_equal (λ one other e. e) ∙ c.field_at.ensures in
    refused_key c.args.columns.now fields HostName row c.in_ok-field.field.items c.in-Some.ensures.one
    (subst (λ (t : List ℕ). IsFirstOutOfForm (get_or c.args.columns.now 0 HostName ∷ []) (key_rows fields) row 0 t) (sym field) c.in-Some.ensures.some)

pub invariant_of-result : goal.invariant_of-result
invariant_of-result c =
    let fits = cut_fits (length (fields_of c.args.fields)) (length c.args.columns.now) c.requires.fits in
    record {
      fits = rw c.len.ensures fits;
      small = rw c.len.ensures (omega (arith, fits, c.len.ensures, c.len.type_inv));
      in_form = rw c.len.ensures (cut_are_rows c.args.columns.now (fields_of c.args.fields) HostName c.requires.begins c.requires.fits c.in_default.ensures.none).in_form;
    }

pub returns-clause-width : goal.returns-clause-width
returns-clause-width c = rw c.len.ensures (cut_are_rows c.args.columns.now (fields_of c.args.fields) HostName c.requires.begins c.requires.fits c.in_default.ensures.none).width_right
