use Rattle.std.proofs.Common.{◌∷◌, ◌++◌, [], map, refl, arith, rules}
use Rattle.sqlite.specs.State.{HasCleanDisk}
use Rattle.sqlite.specs.Held.{state}
use Rattle.sqlite.specs.Values.{bound}
use Rattle.custody_store.proofs.TogetherLemmas.{run_next, run_last}
use Rattle.custody_store.proofs.together.run_all.Goals as goal

pub loop-text-preserved : goal.loop-text-preserved
loop-text-preserved g c =
    let before : HasCleanDisk (state g.S.Store c.execute.new.self.conn.now) → HasCleanDisk (state g.S.Store c.loop-text.tx.conn.now) = λ clean. omega (arith, clean, c.execute.ensures.survives.clean) in
    record {
      same_reference = search rules;
      keeps = search rules;
      survives = search rules;
      inside = λ clean inside. (c.in_ok-execute.ensures.runs clean (c.loop-text.invariant.inside (before clean) inside)).1.mode;
      rest = λ clean inside last more.
          let ran = c.in_ok-execute.ensures.runs clean (c.loop-text.invariant.inside (before clean) inside) in
          run_next g.S.Store c.args.texts.now (λ t. (t.now, [])) (λ texts. map (λ t. (t.now, [])) texts ++ (c.args.sql.now, bound c.args.params.now) ∷ []) (λ _ _. refl) c.loop-text.text-index _ c.args.tx.now.conn.now c.loop-text.tx.conn.now c.execute.new.self.conn.now last c.loop-text-test.true (c.loop-text.invariant.rest (before clean) inside) _ ran more;
    }

pub returns-clause-runs : goal.returns-clause-runs
returns-clause-runs g c clean inside =
    let before : HasCleanDisk (state g.S.Store c.loop-text.tx.conn.now) = omega (arith, clean, c.execute-2.ensures.survives.clean) in
    let ran = c.in_ok-execute-2.ensures.runs clean (c.loop-text.invariant.inside before inside) in
    run_last g.S.Store _ _ c.args.texts.now c.loop-text.text-index c.args.tx.now.conn.now c.loop-text.tx.conn.now c.execute-2.new.self.conn.now c.loop-text-test.false (c.loop-text.invariant.rest before inside) _ ran
