use Rattle.std.proofs.Common.{◌≡◌, inl, List, Option, [], ◌∷◌, ◌++◌, Some, None, Ok, Err, refl, sym, subst, ◌∙◌, ap, rules, map, Vec}
use Rattle.std.specs.declared.alloc.Global.{Global}
use Rattle.std.proofs.lemmas.List.{map-append}
use Rattle.sqlite.specs.Given.{row_if}
use Rattle.sqlite.specs.Order.{Row}
use Rattle.sqlite.specs.Held.{state}
use Rattle.sqlite.specs.State.{HasCleanDisk, CommitsShowing, Survives}
use Rattle.sqlite.proofs.Callers.{given_begin, unchanged_then}
use Rattle.custody_store.specs.StoreState.{as_store_state, ChangesNothing}
use Rattle.custody_store.specs.declared.faults.StoreFault.{StoreFault}
use Rattle.custody_store.specs.declared.faults.StoreFault.TheVariants.{Failed}
use Rattle.custody_store.specs.inside.Loading.{ReadsAnswer}
use Rattle.custody_store.proofs.CommitLemmas.{trusts}
use Rattle.custody_store.proofs.FormLemmas.{on_fault}
use Rattle.custody_store.proofs.SelectLemmas.{answers, begins_before, begun_silent, fails, fails_after, failed, failed_so, shown_before, still_survives, survives_silent}
use Rattle.custody_store.proofs.stored_rows.load_rows.Goals as goal

pub returns-in_err-rows-clause-reads : goal.returns-in_err-rows-clause-reads
returns-in_err-rows-clause-reads g c =
    let old = state g.S.Store c.args.db.now in
    let last = c.query.follows.lender-at-none in
    let held = (rw c.in_err-rows.was at c.query.follows.holds-at-none) in
    let sql = c.args.sql.now in
    let kept : Survives old (state g.S.Store last) (CommitsShowing sql [] old) = search rules in
    failed_so old (state g.S.Store last) c.from_residual.result c.from_residual.ensures.0 (g.met.S.Store.settled last.store) (survives_silent sql old (state g.S.Store last) c.requires kept) held.mode
    (λ clean. fails sql old (state g.S.Store last) c.requires _ (held.err clean))

pub loop-init : goal.loop-init
loop-init g c =
    let made = c.in_ok-rows.ensures in
    let old = state g.S.Store c.args.db.now in
    let now = c.in_ok-rows.rows.conn.now in
    record {
      same_reference = refl;
      survives = survives_silent c.args.sql.now old (state g.S.Store now) c.requires made.survives;
      mode = made.mode;
      given = λ clean. let begun = begun_silent g.S.Store c.args.sql.now c.args.db.now now c.requires (made.begun clean) in ([], begun.0, begun.1, sym (ap (map (λ it. Some (g.T.Stored.key_of it, g.T.Stored.value_of it))) c.new-list.ensures.items));
    }

pub returns-in_err-advance-clause-reads : goal.returns-in_err-advance-clause-reads
returns-in_err-advance-clause-reads g c =
    let old = state g.S.Store c.args.db.now in
    let mid = state g.S.Store c.loop.rows.conn.now in
    let last = c.advance.new.self.conn.now in
    let moved = c.in_err-advance.ensures in
    let it : ChangesNothing (as_store_state old) (as_store_state (state g.S.Store last)) c.from_residual-in_err-advance.result =
    failed_so old (state g.S.Store last) _ c.from_residual-in_err-advance.ensures.0 (g.met.S.Store.settled last.store) (still_survives old mid (state g.S.Store last) c.loop.invariant.survives moved.survives) (λ closed. moved.mode (c.loop.invariant.mode closed))
    (λ clean. fails_after old mid (state g.S.Store last) _ (c.loop.invariant.given (trusts mid (state g.S.Store last) _ moved.survives clean)).2 (moved.kept clean)) in
    subst (λ s. ChangesNothing (as_store_state old) (as_store_state s) c.from_residual-in_err-advance.result) (search rules) it

pub returns-in_default-clause-found : goal.returns-in_default-clause-found
returns-in_default-clause-found g c clean =
    let old = state g.S.Store c.args.db.now in
    let mid = state g.S.Store c.loop.rows.conn.now in
    let last = c.advance.new.self.conn.now in
    let moved = c.in_ok-advance.ensures in
    let t = g.T.Stored in
    let late : HasCleanDisk (state g.S.Store last) = search rules in
    let was = c.loop.invariant.given (trusts mid (state g.S.Store last) _ moved.survives late) in
    let none : row_if c.advance.new.self.has_row last ≡ None = search rules in
    let shown = (rw none at (moved.ok late)) c.args.sql.now [] was.0 was.1 in
    let it : ReadsAnswer t.read t.key_of t.value_of t.answered c.args.sql.now old (state g.S.Store last) c.loop.list.items =
    (was.0, shown_before c.args.sql.now old mid was.2 (state g.S.Store last) was.0 c.requires shown, was.3) in
    subst (λ s. ReadsAnswer t.read t.key_of t.value_of t.answered c.args.sql.now old s c.loop.list.items) (search rules) it

pub returns-in_default-clause-reads : goal.returns-in_default-clause-reads
returns-in_default-clause-reads g c =
    let old = state g.S.Store c.args.db.now in
    let mid = state g.S.Store c.loop.rows.conn.now in
    let last = c.advance.new.self.conn.now in
    let moved = c.in_ok-advance.ensures in
    let it : ChangesNothing {E = StoreFault} (as_store_state old) (as_store_state (state g.S.Store last)) (Ok c.loop.list) =
    answers old (state g.S.Store last) c.loop.list (g.met.S.Store.settled last.store) (still_survives old mid (state g.S.Store last) c.loop.invariant.survives moved.survives) (λ closed. moved.mode (c.loop.invariant.mode closed))
    (λ clean. unchanged_then old mid (state g.S.Store last) (c.loop.invariant.given (trusts mid (state g.S.Store last) _ moved.survives clean)).2 (moved.same clean)) in
    subst (λ s. ChangesNothing {E = StoreFault} (as_store_state old) (as_store_state s) (Ok c.loop.list)) (search rules) it

pub returns-in_err-record-clause-found : goal.returns-in_err-record-clause-found
returns-in_err-record-clause-found g c clean =
    let old = state g.S.Store c.args.db.now in
    let mid = state g.S.Store c.loop.rows.conn.now in
    let last = c.advance.new.self.conn.now in
    let moved = c.in_ok-advance.ensures in
    let t = g.T.Stored in
    let row = c.in-Some.row.now in
    let late : HasCleanDisk (state g.S.Store last) = search rules in
    let was = c.loop.invariant.given (trusts mid (state g.S.Store last) _ moved.survives late) in
    let some : row_if c.advance.new.self.has_row last ≡ Some row = search rules in
    let given = (rw some at (moved.ok late)) c.args.sql.now [] was.0 was.1 in
    let begin = begins_before c.args.sql.now old (state g.S.Store last) (unchanged_then old mid (state g.S.Store last) was.2 (moved.same late)) (was.0 ++ row ∷ []) (given_begin g.S.Store c.args.sql.now [] last (was.0 ++ row ∷ []) given) in
    on_fault _ _ c.from_residual-in_err-record.result c.in_err-record.field-0.0 c.from_residual-in_err-record.ensures.1 (λ form. (was.0, row, begin, c.in_err-record.ensures form))

pub returns-in_err-record-clause-reads : goal.returns-in_err-record-clause-reads
returns-in_err-record-clause-reads g c =
    let old = state g.S.Store c.args.db.now in
    let mid = state g.S.Store c.loop.rows.conn.now in
    let last = c.advance.new.self.conn.now in
    let moved = c.in_ok-advance.ensures in
    let it : ChangesNothing (as_store_state old) (as_store_state (state g.S.Store last)) c.from_residual-in_err-record.result =
    failed_so old (state g.S.Store last) _ c.from_residual-in_err-record.ensures.0 (g.met.S.Store.settled last.store) (still_survives old mid (state g.S.Store last) c.loop.invariant.survives moved.survives) (λ closed. moved.mode (c.loop.invariant.mode closed))
    (λ clean. inl (unchanged_then old mid (state g.S.Store last) (c.loop.invariant.given (trusts mid (state g.S.Store last) _ moved.survives clean)).2 (moved.same clean))) in
    subst (λ s. ChangesNothing (as_store_state old) (as_store_state s) c.from_residual-in_err-record.result) (search rules) it

pub returns-then-is_err-clause-reads : goal.returns-then-is_err-clause-reads
returns-then-is_err-clause-reads g c =
    let old = state g.S.Store c.args.db.now in
    let mid = state g.S.Store c.loop.rows.conn.now in
    let last = c.advance.new.self.conn.now in
    let moved = c.in_ok-advance.ensures in
    let it : ChangesNothing {A = Vec g.row.T.Denot Global} (as_store_state old) (as_store_state (state g.S.Store last)) (Err Failed) =
    failed old (state g.S.Store last) Failed (g.met.S.Store.settled last.store) (still_survives old mid (state g.S.Store last) c.loop.invariant.survives moved.survives) (λ closed. moved.mode (c.loop.invariant.mode closed))
    (λ clean. inl (unchanged_then old mid (state g.S.Store last) (c.loop.invariant.given (trusts mid (state g.S.Store last) _ moved.survives clean)).2 (moved.same clean))) in
    subst (λ s. ChangesNothing {A = Vec g.row.T.Denot Global} (as_store_state old) (as_store_state s) (Err Failed)) (search rules) it

pub loop-preserved : goal.loop-preserved
loop-preserved g c =
    let old = state g.S.Store c.args.db.now in
    let mid = state g.S.Store c.loop.rows.conn.now in
    let last = c.advance.new.self.conn.now in
    let moved = c.in_ok-advance.ensures in
    let t = g.T.Stored in
    let row = c.in-Some.row.now in
    let own : g.row.T.Denot → Option (t.Key × t.Value) = λ it. Some (t.key_of it, t.value_of it) in
    let record_is : t.read (t.answered row) ≡ own c.in_ok-record.record = search rules in
    let pushed : c.push.new.self.items ≡ c.loop.list.items ++ c.in_ok-record.record ∷ [] = search rules in
    let read_on = λ (given : List Row) (was : map (λ (r : Row). t.read (t.answered r)) given ≡ map own c.loop.list.items).
    map-append (λ (r : Row). t.read (t.answered r)) given (row ∷ []) ∙ (λ i. was i ++ record_is i ∷ []) ∙ sym (map-append own c.loop.list.items (c.in_ok-record.record ∷ [])) ∙ ap (map own) (sym pushed) in
    let some : row_if c.advance.new.self.has_row last ≡ Some row = search rules in
    record {
      same_reference = moved.same_reference ∙ c.loop.invariant.same_reference;
      survives = still_survives old mid (state g.S.Store last) c.loop.invariant.survives moved.survives;
      mode = λ closed. moved.mode (c.loop.invariant.mode closed);
      given = λ clean.
          let was = c.loop.invariant.given (trusts mid (state g.S.Store last) _ moved.survives clean) in
          let given = (rw some at (moved.ok clean)) c.args.sql.now [] was.0 was.1 in
          (was.0 ++ row ∷ [], given, unchanged_then old mid (state g.S.Store last) was.2 (moved.same clean), read_on was.0 was.3);
    }

pub returns-clause-reads : goal.returns-clause-reads
returns-clause-reads g c =
    let old = state g.S.Store c.args.db.now in
    let last = c.loop.rows.conn.now in
    let it : ChangesNothing {A = Vec g.row.T.Denot Global} (as_store_state old) (as_store_state (state g.S.Store last)) (Err Failed) =
    failed old (state g.S.Store last) Failed (g.met.S.Store.settled last.store) c.loop.invariant.survives c.loop.invariant.mode (λ clean. inl (c.loop.invariant.given clean).2) in
    subst (λ s. ChangesNothing {A = Vec g.row.T.Denot Global} (as_store_state old) (as_store_state s) (Err Failed)) (search rules) it
