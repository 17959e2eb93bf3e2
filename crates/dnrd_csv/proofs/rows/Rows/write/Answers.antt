use Rattle.std.proofs.Common.{List, ℕ, ◌<◌, ◌≤◌, ◌≡◌, ◌+◌, ◌-◌, ◌++◌, ◌∙◌, ◌*◌, [], ap, append_assoc, arith, drop, get_or, length, sym, take}
use Rattle.std.proofs.lemmas.List.{take_all}
use Rattle.std.proofs.Math.Nat.{mul-le-mul_right}
use Rattle.csv.specs.Records.{fields_of}
use Rattle.dnrd_csv.specs.Text.{row_text, table_text}
use Rattle.dnrd_csv.proofs.RowLemmas.{length-rows_from, row_at}
use Rattle.dnrd_csv.proofs.WritingLemmas.{table_more}
use Rattle.dnrd_csv.proofs.rows.Rows.write.Goals as goal

pub overflow_mul-i : goal.overflow_mul-i
overflow_mul-i c =
    let below : c.loop-i.i ≤ c.self.inside.count = omega arith in
    omega (arith, mul-le-mul_right c.self.inside.width below, c.self.invariant.fits, c.self.invariant.small)

pub overflow_mul-i-in-loop-i : goal.overflow_mul-i-in-loop-i
overflow_mul-i-in-loop-i c =
    let below : c.loop-i.i + 1 ≤ c.self.inside.count = omega arith in
    omega (arith, mul-le-mul_right c.self.inside.width below, c.self.invariant.fits, c.self.invariant.small)

pub write_row-requires-clause-within : goal.write_row-requires-clause-within
write_row-requires-clause-within c =
    let below : c.loop-i.i + 1 ≤ c.self.inside.count = omega arith in
    omega (arith, mul-le-mul_right c.self.inside.width below, c.self.invariant.fits)

pub loop-i-preserved : goal.loop-i-preserved
loop-i-preserved c =
    let before = c.args.out.now.items in
    let kept = c.self.inside in
    let fields = fields_of kept.fields in
    let rows = c.args.self.now in
    let i = c.loop-i.i in
    let count = sym (ap length c.self.view_is) ∙ length-rows_from kept.width kept.count fields in
    let inside : i < length rows = omega (arith, count, c.loop-i-test.true) in
    let row = sym (row_at kept.width kept.count fields i [] c.loop-i-test.true) ∙ ap (λ (r : List (List (List ℕ))). get_or r i []) c.self.view_is in
    let wide : (i + 1) * kept.width - i * kept.width ≡ kept.width = omega arith in
    (rw wide at c.in_ok-write_row.ensures)
    ∙ ap (λ (t : List ℕ). t ++ row_text (take kept.width (drop (i * kept.width) fields))) c.loop-i.invariant
    ∙ ap (λ (r : List (List ℕ)). (before ++ table_text (take i rows)) ++ row_text r) row
    ∙ append_assoc before (table_text (take i rows)) (row_text (get_or rows i []))
    ∙ ap (λ (t : List ℕ). before ++ t) (sym (table_more rows i inside))

pub returns : goal.returns
returns c =
    let kept = c.self.inside in
    let rows = c.args.self.now in
    let count = sym (ap length c.self.view_is) ∙ length-rows_from kept.width kept.count (fields_of kept.fields) in
    c.loop-i.invariant ∙ ap (λ (r : List (List (List ℕ))). c.args.out.now.items ++ table_text r) (take_all c.loop-i.i rows (omega (arith, count, c.loop-i-test.false)))
