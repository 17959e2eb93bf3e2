use Rattle.std.proofs.Common.{◌≡◌, false, rules}
use Rattle.sqlite.specs.State.{HasCleanDisk}
use Rattle.sqlite.specs.Held.{state}
use Rattle.custody_store.proofs.EndLemmas.{drops}
use Rattle.custody_store.proofs.TogetherLemmas.{committed_whole, not_committed, undone_whole}
use Rattle.custody_store.proofs.dropping.drop_all.Goals as goal

pub returns : goal.returns
returns g c =
    let old = c.args.db.now in
    let new = c.db-2-1.given.0 in
    let same : c.commit.new.self.0 ≡ new = search rules in
    let trust : HasCleanDisk (state g.S.Store new) → HasCleanDisk (state g.S.Store old) = search rules in
    let mode : old.in_transaction ≡ false → new.in_transaction ≡ false = search rules in
    let runs = committed_whole g.S.Store _ old c.transaction-tx.result.conn.now c.drop_each.new.tx.conn.now c.commit.new.self.0 new c.transaction-tx.ensures.begun same c.drop_each.ensures.survives c.commit.ensures.survives c.in_ok-drop_each.ensures.runs _ (λ clean. (c.in_ok-commit.ensures.ok clean).1) in
    record { commits = drops g.S.Store old new _ (g.met.S.Store.settled new.store) trust mode c.args.keys.now runs; runs = runs; kind = search rules }

pub returns-in_err-commit : goal.returns-in_err-commit
returns-in_err-commit g c =
    let old = c.args.db.now in
    let new = c.db-2-1.given.0 in
    let same : c.commit.new.self.0 ≡ new = search rules in
    let trust : HasCleanDisk (state g.S.Store new) → HasCleanDisk (state g.S.Store old) = search rules in
    let mode : old.in_transaction ≡ false → new.in_transaction ≡ false = search rules in
    let runs = not_committed g.S.Store _ old c.transaction-tx.result.conn.now c.drop_each.new.tx.conn.now c.commit.new.self.0 new c.transaction-tx.ensures.begun same c.drop_each.ensures.survives c.commit.ensures.survives c.in_ok-drop_each.ensures.runs _ c.from_residual-in_err-commit.ensures.0 (λ clean. (_, c.in_err-commit.ensures.err clean)) in
    record { commits = drops g.S.Store old new _ (g.met.S.Store.settled new.store) trust mode c.args.keys.now runs; runs = runs; kind = search rules }

pub returns-in_err-drop_each : goal.returns-in_err-drop_each
returns-in_err-drop_each g c =
    let old = c.args.db.now in
    let new = c.db-1.given.0 in
    let same : c.drop-tx.new.self.0 ≡ new = search rules in
    let trust : HasCleanDisk (state g.S.Store new) → HasCleanDisk (state g.S.Store old) = search rules in
    let mode : old.in_transaction ≡ false → new.in_transaction ≡ false = search rules in
    let runs = undone_whole g.S.Store _ old c.transaction-tx.result.conn.now c.drop_each.new.tx.conn.now c.drop-tx.new.self.0 new c.transaction-tx.ensures.begun same c.drop_each.ensures.survives _ c.from_residual.ensures.0 c.drop_each.ensures.keeps c.drop-tx.ensures.undone c.drop-tx.ensures.survives in
    record { commits = drops g.S.Store old new _ (g.met.S.Store.settled new.store) trust mode c.args.keys.now runs; runs = runs; kind = search rules }
