use Rattle.std.proofs.Common.{Ok, refl, ◌∙◌, subst, arith, rules}
use Rattle.sqlite.specs.State.{HasCleanDisk, ExecutesInside}
use Rattle.sqlite.specs.Held.{state}
use Rattle.custody_store.specs.Statements.{drop_bytes_text, drop_bytes_values, drop_bytes_statements}
use Rattle.custody_store.proofs.TogetherLemmas.{run_next, run_whole}
use Rattle.custody_store.proofs.dropping.drop_each.Goals as goal

pub loop-key-preserved : goal.loop-key-preserved
loop-key-preserved g c =
    let mid = c.loop-key.tx.conn.now in
    let new = c.execute.new.self.conn.now in
    let before : HasCleanDisk (state g.S.Store new) → HasCleanDisk (state g.S.Store mid) = λ clean. omega (arith, clean, c.execute.ensures.survives.clean) in
    let executes = rw (c.text.ensures, c.as_bytes.ensures.text, c.day.ensures.value, c.small.ensures, c.small-in-loop-key.ensures) at c.in_ok-execute.ensures.runs in
    record {
      same_reference = search rules;
      keeps = search rules;
      survives = search rules;
      inside = λ clean inside. (executes clean (c.loop-key.invariant.inside (before clean) inside)).1.mode;
      rest = λ clean inside last more.
          let ran = executes clean (c.loop-key.invariant.inside (before clean) inside) in
          let key_ran = subst (λ key. ExecutesInside 0 drop_bytes_text (drop_bytes_values key) (state g.S.Store mid) (state g.S.Store new) (Ok c.in_ok-execute.field-0)) (c.key.view_is ∙ c.key-item.is) ran in
          run_next g.S.Store c.args.keys.now (λ key. (drop_bytes_text, drop_bytes_values key)) drop_bytes_statements (λ _ _. refl) c.loop-key.key-index c.key-item.result c.args.tx.now.conn.now mid new last c.loop-key-test.true (c.loop-key.invariant.rest (before clean) inside) _ key_ran more;
    }

pub returns-clause-runs : goal.returns-clause-runs
returns-clause-runs g c clean inside =
    run_whole g.S.Store (λ key. (drop_bytes_text, drop_bytes_values key)) c.args.keys.now c.loop-key.key-index c.args.tx.now.conn.now c.loop-key.tx.conn.now c.loop-key-test.false (c.loop-key.invariant.rest clean inside)
