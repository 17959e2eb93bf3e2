use Rattle.std.proofs.Common.{List, ℕ, [], arith, subst, sym}
use Rattle.std.proofs.lemmas.List.Elements.{All-from_get_or}
use Rattle.csv.specs.Records.{fields_of}
use Rattle.dnrd_csv.specs.Form.{HasForm}
use Rattle.dnrd_csv.proofs.KeyRows.{first_key}
use Rattle.dnrd_csv.proofs.any_spelling.first_field_out_of_form.Goals as goal

pub returns-then-not-accepts-clause-some : goal.returns-then-not-accepts-clause-some
returns-then-not-accepts-clause-some c =
    first_key c.args.form (fields_of c.args.fields.now) c.loop-i.i (omega (arith, c.loop-i-test.true, c.len-i-end.ensures)) c.loop-i.invariant
    (λ has. cc (c.if-not-accepts.ensures.1 (subst (λ (t : List ℕ). HasForm c.args.form t) (sym c.field_at.ensures) has)))

pub returns-clause-none : goal.returns-clause-none
returns-clause-none c =
    All-from_get_or (HasForm c.args.form) (fields_of c.args.fields.now) [] (λ k inside. c.loop-i.invariant k (omega (arith, inside, c.loop-i-test.false, c.len-i-end.ensures)))
