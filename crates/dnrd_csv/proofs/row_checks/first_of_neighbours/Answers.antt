use Rattle.std.proofs.Common.{◌≡◌, ◌<◌, ◌-◌, ◌∙◌, arith, get_or, length, refl, sym}
use Rattle.dnrd_csv.specs.inside.RowKeys.{key_texts}
use Rattle.dnrd_csv.proofs.RepeatLemmas.{least_later, least_new, least_other, neighbours, unplaced, texts_differ, texts_same}
use Rattle.dnrd_csv.proofs.row_checks.first_of_neighbours.Goals as goal
use Rattle.dnrd_csv.proofs.row_checks.first_of_neighbours.Goals.{then-eq+then-is_before, else-eq, else-eq-via-then-eq+else-is_before, else-eq-via-else-eq}

pub loop-i-preserved : goal.loop-i-preserved
loop-i-preserved c =
    let placed = c.args.placed.now in
    let i = c.loop-i.i in
    let before = c.loop-i.invariant in
    let inside : i < length placed = c.loop-i-test.true in
    let last = get_or placed (i - 1) unplaced in
    let next = get_or placed i unplaced in
    elim c.if-eq.branch [
      | then-eq+then-is_before w ↦
          let same : key_texts last ≡ key_texts next = texts_same last.0 next.0 (sym c.eq.ensures ∙ w.if-eq.true) in
          rw w.first-is (record {
            started = omega (arith, before.started);
            least = least_new placed i c.loop-i.first (next.1, last.1) before.started inside refl (w.if-is_before.ensures.0 refl) before.least;
            found = neighbours placed i before.started inside same;
          })
      | else-eq w ↦ elim w.else-eq.branch [
        | else-eq-via-then-eq+else-is_before v ↦ rw w.first-is (record {
          started = omega (arith, before.started);
          least = least_later placed i c.loop-i.first before.started inside (λ sooner. cc (v.if-is_before.ensures.1 sooner)) before.least;
          found = before.found;
        })
        | else-eq-via-else-eq v ↦ rw w.first-is (record {
          started = omega (arith, before.started);
          least = least_other placed i c.loop-i.first before.started inside (texts_differ last.0 next.0 (sym c.eq.ensures ∙ v.if-eq.false)) before.least;
          found = before.found;
        })
      ]
    ]
