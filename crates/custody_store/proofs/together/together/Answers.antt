use Rattle.std.proofs.Common.{◌≡◌, rules}
use Rattle.custody_store.proofs.TogetherLemmas.{committed_whole, not_committed, undone_whole}
use Rattle.custody_store.proofs.together.together.Goals as goal

pub returns-clause-runs : goal.returns-clause-runs
returns-clause-runs g c =
    let same : c.commit.new.self.0 ≡ c.db-2-1.given.0 = search rules in
    committed_whole g.S.Store _ c.args.db.now c.transaction-tx.result.conn.now c.run_all.new.tx.conn.now c.commit.new.self.0 _ c.transaction-tx.ensures.begun same c.run_all.ensures.survives c.commit.ensures.survives c.in_ok-run_all.ensures.runs _ (λ clean. (c.in_ok-commit.ensures.ok clean).1)

pub returns-in_err-commit-clause-runs : goal.returns-in_err-commit-clause-runs
returns-in_err-commit-clause-runs g c =
    let same : c.commit.new.self.0 ≡ c.db-2-1.given.0 = search rules in
    not_committed g.S.Store _ c.args.db.now c.transaction-tx.result.conn.now c.run_all.new.tx.conn.now c.commit.new.self.0 _ c.transaction-tx.ensures.begun same c.run_all.ensures.survives c.commit.ensures.survives c.in_ok-run_all.ensures.runs _ c.from_residual-in_err-commit.ensures.0 (λ clean. (_, c.in_err-commit.ensures.err clean))

pub returns-in_err-run_all-clause-runs : goal.returns-in_err-run_all-clause-runs
returns-in_err-run_all-clause-runs g c =
    let same : c.drop-tx.new.self.0 ≡ c.db-1.given.0 = search rules in
    undone_whole g.S.Store _ c.args.db.now c.transaction-tx.result.conn.now c.run_all.new.tx.conn.now c.drop-tx.new.self.0 _ c.transaction-tx.ensures.begun same c.run_all.ensures.survives _ c.from_residual.ensures.0 c.run_all.ensures.keeps c.drop-tx.ensures.undone c.drop-tx.ensures.survives
