use Rattle.std.proofs.Common.{◌≡◌, drop, IsTrue}
use Rattle.sqlite.specs.State.{HasCleanDisk, Survives, KeepsCommit}
use Rattle.sqlite.specs.Held.{Held, state}
use Rattle.custody_store.specs.Calls.{AreRun}
use Rattle.custody_store.specs.Statements.{drop_bytes_statements}
use Rattle.custody_store.proofs.dropping.drop_each.Given as goal

abbrev pub invariant-loop-key : goal.invariant-loop-key
invariant-loop-key g l =
    let old = l.fn.tx.conn.now in
    let now = l.tx.conn.now in
    record {
      same_reference : l.tx.conn.ghost_name ≡ l.fn.tx.conn.ghost_name;
      keeps : HasCleanDisk (state g.S.Store now) → KeepsCommit (state g.S.Store old) (state g.S.Store now);
      survives : Survives (state g.S.Store old) (state g.S.Store now) (λ _. ⊥);
      inside : HasCleanDisk (state g.S.Store now) → IsTrue old.in_transaction → IsTrue now.in_transaction;
      -- with a run of the statements that are left it is a run of all
      rest : HasCleanDisk (state g.S.Store now) → IsTrue old.in_transaction → (last : Held _)
          → AreRun g.S.Store (drop_bytes_statements (drop l.key-index l.keys)) now last
          → AreRun g.S.Store (drop_bytes_statements l.keys) old last;
    }
