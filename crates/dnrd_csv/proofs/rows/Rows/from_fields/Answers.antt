use Rattle.std.proofs.Common.{All, ◌≡◌, ◌≢◌, ◌≤◌, ◌*◌, ◌/◌, ◌%◌, ◌∙◌, [], ℕ, ap, arith, length, rules}
use Rattle.csv.specs.Records.{fields_of}
use Rattle.dnrd_csv.specs.inside.Fields.{AreRowsOf}
use Rattle.dnrd_csv.specs.inside.Rows.{rows_from}
use Rattle.dnrd_csv.proofs.FieldLemmas.{alone_filled, ends_with_row, rows_of_fields}
use Rattle.dnrd_csv.proofs.rows.Rows.from_fields.Goals as goal
use Rattle.dnrd_csv.proofs.rows.Rows.from_fields.Goals.{then-width-eq0-via-then-width-eq0, then-width-eq0-via-else-width-eq0+then-len-width-ne0, else-width-eq1-via-then-width-eq1+else-not-none_is_empty, else-width-eq1-via-else-width-eq1, Joined-else-width-eq1}

pub returns-then-width-eq0-clause-none : goal.returns-then-width-eq0-clause-none
returns-then-width-eq0-clause-none c rows of =
    let ends = ap (λ (n : ℕ). n % c.args.width) c.len-len.ensures ∙ ends_with_row c.args.width (fields_of c.args.fields) rows of in
    elim c.then-width-eq0.branch [
      | then-width-eq0-via-then-width-eq0 w ↦ omega (arith, of.some)
      | then-width-eq0-via-else-width-eq0+then-len-width-ne0 w ↦ omega (arith, ends)
    ]

pub returns-then-not-none_is_empty-clause-none : goal.returns-then-not-none_is_empty-clause-none
returns-then-not-none_is_empty-clause-none c rows of =
    let filled = alone_filled (fields_of c.args.fields) rows (rw c.if-width-eq1.true at of) in
    cc (c.if-not-none_is_empty.ensures.1 filled)

filled : (c : Joined-else-width-eq1) → c.args.width ≡ 1 → All (λ field. field ≢ []) (fields_of c.args.fields)
filled c one =
    elim c.else-width-eq1.branch [
      | else-width-eq1-via-then-width-eq1+else-not-none_is_empty w ↦ w.if-not-none_is_empty.ensures.0 (search rules)
      | else-width-eq1-via-else-width-eq1 w ↦ absurd (omega arith)
    ]

made : (c : Joined-else-width-eq1) → AreRowsOf c.args.width (fields_of c.args.fields) (rows_from c.args.width (c.len-len.result / c.args.width) (fields_of c.args.fields))
made c =
    let some : 1 ≤ c.args.width = omega arith in
    let fits : length (fields_of c.args.fields) ≡ c.len-len.result / c.args.width * c.args.width = omega (arith, c.len-len.ensures) in
    rows_of_fields c.args.width (c.len-len.result / c.args.width) (fields_of c.args.fields) some fits (filled c)

pub invariant_of-result : goal.invariant_of-result
invariant_of-result c = record {
  fits = omega (arith, c.len-len.ensures);
  small = omega (arith, c.len-len.ensures, c.len-len.type_inv);
  in_form = (made ((goal.at.invariant_of-result c).Joined-else-width-eq1)).in_form;
}

pub returns-clause-some : goal.returns-clause-some
returns-clause-some c = made ((goal.at.returns-clause-some c).Joined-else-width-eq1)
