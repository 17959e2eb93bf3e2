use Rattle.std.proofs.Common.{List, ◌<◌, ℕ, [], arith, get_or, length, rules, subst, sym}
use Rattle.std.proofs.lemmas.Option.{slice_get-get_or}
use Rattle.dnrd_csv.specs.Form.{HasForm}
use Rattle.dnrd_csv.specs.declared.form.Form.TheVariants.{HostName}
use Rattle.dnrd_csv.proofs.RowLemmas.{zip_more}
use Rattle.dnrd_csv.proofs.row_checks.column_out_of_form.Goals as goal

pub returns-then-not-accepts-clause-some : goal.returns-then-not-accepts-clause-some
returns-then-not-accepts-clause-some c =
    let row = get_or c.args.rows.now c.args.i [] in
    let form = get_or c.args.columns.now c.loop-column.column HostName in
    let inside : c.loop-column.column < length row = omega (arith, c.requires.columns, c.loop-column-test.true) in
    record {
      column_form = form;
      there = slice_get-get_or row c.loop-column.column [] inside;
      form_there = slice_get-get_or c.args.columns.now c.loop-column.column HostName c.loop-column-test.true;
      out_of_form = λ has. cc (c.if-not-accepts.ensures.1 (subst (λ (t : List ℕ). HasForm form t) (sym c.field.ensures) has));
      fields_before = c.loop-column.invariant;
    }

pub loop-column-preserved : goal.loop-column-preserved
loop-column-preserved c =
    let row = get_or c.args.rows.now c.args.i [] in
    let inside : c.loop-column.column < length row = omega (arith, c.requires.columns, c.loop-column-test.true) in
    let has = subst (λ (t : List ℕ). HasForm (get_or c.args.columns.now c.loop-column.column HostName) t) c.field.ensures (c.if-not-accepts.ensures.0 (search rules)) in
    zip_more HasForm c.args.columns.now row c.loop-column.column HostName [] c.loop-column-test.true inside c.loop-column.invariant has
