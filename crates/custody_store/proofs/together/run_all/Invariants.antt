use Rattle.std.proofs.Common.{◌≡◌, ◌∷◌, ◌++◌, [], map, drop, IsTrue}
use Rattle.sqlite.specs.State.{HasCleanDisk, Survives, KeepsCommit}
use Rattle.sqlite.specs.Held.{Held, state}
use Rattle.sqlite.specs.Values.{bound}
use Rattle.custody_store.specs.Calls.{AreRun}
use Rattle.custody_store.proofs.together.run_all.Given as goal

abbrev pub invariant-loop-text : goal.invariant-loop-text
invariant-loop-text g l =
    let old = l.fn.tx.conn.now in
    let now = l.tx.conn.now in
    record {
      same_reference : l.tx.conn.ghost_name ≡ l.fn.tx.conn.ghost_name;
      keeps : HasCleanDisk (state g.S.Store now) → KeepsCommit (state g.S.Store old) (state g.S.Store now);
      survives : Survives (state g.S.Store old) (state g.S.Store now) (λ _. ⊥);
      inside : HasCleanDisk (state g.S.Store now) → IsTrue old.in_transaction → IsTrue now.in_transaction;
      -- with a run of the statements that are left it is a run of all
      rest : HasCleanDisk (state g.S.Store now) → IsTrue old.in_transaction → (last : Held _)
          → AreRun g.S.Store (map (λ t. (t.now, [])) (drop l.text-index l.texts) ++ (l.sql, bound l.params) ∷ []) now last
          → AreRun g.S.Store (map (λ t. (t.now, [])) l.texts ++ (l.sql, bound l.params) ∷ []) old last;
    }
