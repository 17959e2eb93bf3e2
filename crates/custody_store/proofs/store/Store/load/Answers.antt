use Rattle.std.proofs.Common.{◌≡◌, map, codes, Err, sym, ap, ◌∙◌, rules}
use Rattle.std.specs.Prelude.{is_some}
use Rattle.sqlite.specs.Held.{state}
use Rattle.custody_records.specs.Rows.{Rows}
use Rattle.custody_store.specs.Reading.{answered_meta, rows_in, has_table}
use Rattle.custody_store.specs.StoreState.{as_store_state}
use Rattle.custody_store.proofs.FormLemmas.{form_is, loaded_form}
use Rattle.custody_store.proofs.MissingLemmas.{holds_there}
use Rattle.custody_store.proofs.ReadLemmas.{reads_none, reads_err, reads_answers, reads_then, still, all_there, meta_of_first}
use Rattle.custody_store.proofs.store.Store.load.Goals as goal

pub returns-then-not-has_all_tables-clause-found : goal.returns-then-not-has_all_tables-clause-found
returns-then-not-has_all_tables-clause-found g c clean first =
    let there = all_there (state g.S.Store c.args.self.now) first in absurd (search (rules, there))

pub returns-then-not-has_all_tables-clause-reads : goal.returns-then-not-has_all_tables-clause-reads
returns-then-not-has_all_tables-clause-reads g c = reads_none (state g.S.Store c.args.self.now) _

pub returns-in_err-meta-clause-reads : goal.returns-in_err-meta-clause-reads
returns-in_err-meta-clause-reads g c = rw (← c.self.view_is) (reads_err _ _ _ _ c.from_residual.ensures.0 c.in_err-meta.ensures.reads)

pub returns-in_err-volume-clause-reads : goal.returns-in_err-volume-clause-reads
returns-in_err-volume-clause-reads g c = rw (← c.self.view_is) (reads_answers _ _ _ _ c.in_ok-meta.ensures.reads)

pub returns-in_err-volume-clause-found : goal.returns-in_err-volume-clause-found
returns-in_err-volume-clause-found g c =
    let s0 = state g.S.Store c.self.inside.db in
    let s1 = state g.S.Store c.select_meta.new.db in
    let rows = rows_in s0.now.trees in
    let is : c.from_residual-in_err-volume.result ≡ Err c.in_err-volume.field-0.0 = search rules in
    let same : has_table (codes "hold") s1.now.schema ≡ c.has_table-has_holds.result = search rules in
    rw (← c.self.view_is) (λ clean first.
    let stands = still (as_store_state s0) (as_store_state s1) _ c.in_ok-meta.ensures.reads clean first.0.rest in
    let there = ap (λ (r : Rows). is_some r.holds) (sym stands.rows) ∙ holds_there s1 (stands.first_tables first) ∙ same in
    rw is (λ why told.
    form_is (map answered_meta c.in_ok-meta.meta.items) rows (c.in_ok-meta.ensures.found clean (meta_of_first s0 first))
    ∙ (rw c.deref.ensures.value at c.in_err-volume.ensures) why told rows there))

pub returns-clause-found : goal.returns-clause-found
returns-clause-found g c =
    let s0 = state g.S.Store c.self.inside.db in
    let s1 = state g.S.Store c.select_meta.new.db in
    let rows = rows_in s0.now.trees in
    let v = c.in_ok-volume.volume in
    let same : has_table (codes "hold") s1.now.schema ≡ c.has_table-has_holds.result = search rules in
    rw (← c.self.view_is) (λ clean first.
    let early = c.load_records.ensures.reads.trust clean in
    let stands = still (as_store_state s0) (as_store_state s1) _ c.in_ok-meta.ensures.reads early first.0.rest in
    let is = form_is (map answered_meta c.in_ok-meta.meta.items) rows (c.in_ok-meta.ensures.found early (meta_of_first s0 first)) ∙ (rw c.deref.ensures.value at c.in_ok-volume.ensures) rows in
    loaded_form _ c.has_table-has_holds.result v.0 v.1 rows (rows_in s1.now.trees) c.load_records.result is stands.rows (c.load_records.ensures.found clean (stands.first_tables first) same) c.load_records.ensures.kind)

pub returns-clause-reads : goal.returns-clause-reads
returns-clause-reads g c = rw (← c.self.view_is) (reads_then _ _ _ _ _ c.in_ok-meta.ensures.reads c.load_records.ensures.reads)
