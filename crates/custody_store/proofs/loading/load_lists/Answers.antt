use Rattle.std.proofs.Common.{◌∙◌, ap, codes, sym, rules}
use Rattle.custody_records.specs.Form.{all_records, gathered_table, holds_in, notice_in, part_in, release_in}
use Rattle.custody_records.specs.Rows.{Rows}
use Rattle.custody_store.specs.Reading.{has_table}
use Rattle.custody_store.specs.StoreState.{store_state}
use Rattle.custody_store.proofs.FormLemmas.{no_holds, same_fault}
use Rattle.custody_store.proofs.MissingLemmas.{no_releases}
use Rattle.custody_store.proofs.ReadLemmas.{reads_err, reads_answers, reads_then, stands_then, still}
use Rattle.custody_store.proofs.loading.load_lists.Goals as goal

pub returns-in_err-notices-clause-reads : goal.returns-in_err-notices-clause-reads
returns-in_err-notices-clause-reads g c = reads_err _ _ _ _ c.from_residual-in_err-notices.ensures.0
    (reads_then _ _ _ _ _ c.in_ok-registries.ensures.reads (reads_then _ _ _ _ _ c.in_ok-parts.ensures.reads c.in_err-notices.ensures.reads))

pub returns-in_err-releases-clause-found : goal.returns-in_err-releases-clause-found
returns-in_err-releases-clause-found g c clean first there number blocks = search (rules, no_releases)

pub returns-in_err-releases-clause-reads : goal.returns-in_err-releases-clause-reads
returns-in_err-releases-clause-reads g c = reads_err _ _ _ _ c.from_residual-in_err-releases.ensures.0
    (reads_then _ _ _ _ _ c.in_ok-registries.ensures.reads (reads_then _ _ _ _ _ c.in_ok-parts.ensures.reads
    (reads_then _ _ _ _ _ c.in_ok-notices.ensures.reads c.in_err-releases.ensures.reads)))

pub returns-in_err-holds-clause-found : goal.returns-in_err-holds-clause-found
returns-in_err-holds-clause-found g c clean first there number blocks =
    let s0 = store_state g.S.Store c.args.db.now in
    let s4 = store_state g.S.Store c.load_releases.new.db in
    let honest = c.in_err-holds.ensures.reads.trust clean in
    let reads = reads_then _ _ _ _ _ c.in_ok-registries.ensures.reads (reads_then _ _ _ _ _ c.in_ok-parts.ensures.reads
    (reads_then _ _ _ _ _ c.in_ok-notices.ensures.reads c.in_ok-releases.ensures.reads)) in
    let kept = still s0 s4 _ reads honest first.0.rest in
    let found = c.in_err-holds.ensures.found clean (kept.first_tables first) (ap (has_table (codes "hold")) kept.schema ∙ there) in
    same_fault _ _ c.from_residual-in_err-holds.result c.in_err-holds.field-0.0 c.from_residual-in_err-holds.ensures.1 (λ told.
    ap (all_records number blocks _ _ _ _) (ap (λ (rows : Rows). holds_in c.args.has_holds rows.holds) (sym kept.rows) ∙ found told) ∙ no_holds number blocks _ _ _ _)

pub returns-in_err-holds-clause-reads : goal.returns-in_err-holds-clause-reads
returns-in_err-holds-clause-reads g c = reads_err _ _ _ _ c.from_residual-in_err-holds.ensures.0
    (reads_then _ _ _ _ _ c.in_ok-registries.ensures.reads (reads_then _ _ _ _ _ c.in_ok-parts.ensures.reads
    (reads_then _ _ _ _ _ c.in_ok-notices.ensures.reads (reads_then _ _ _ _ _ c.in_ok-releases.ensures.reads c.in_err-holds.ensures.reads))))

pub returns-clause-found : goal.returns-clause-found
returns-clause-found g c clean first there number blocks =
    let h4 = c.in_ok-holds.ensures.reads.trust clean in
    let h3 = c.in_ok-releases.ensures.reads.trust h4 in
    let h2 = c.in_ok-notices.ensures.reads.trust h3 in
    let h1 = c.in_ok-parts.ensures.reads.trust h2 in
    let k1 = still _ _ c.in_ok-registries.registries c.in_ok-registries.ensures.reads h1 first.0.rest in
    let k2 = stands_then _ _ _ k1 (still _ _ c.in_ok-parts.parts c.in_ok-parts.ensures.reads h2 k1.rest) in
    let k3 = stands_then _ _ _ k2 (still _ _ c.in_ok-notices.notices c.in_ok-notices.ensures.reads h3 k2.rest) in
    let k4 = stands_then _ _ _ k3 (still _ _ c.in_ok-releases.releases c.in_ok-releases.ensures.reads h4 k3.rest) in
    let registries = c.in_ok-registries.ensures.found h1 first in
    let parts = ap (λ (rows : Rows). gathered_table part_in rows.parts) (sym k1.rows) ∙ c.in_ok-parts.ensures.found h2 (k1.first_tables first) in
    let notices = ap (λ (rows : Rows). gathered_table notice_in rows.notices) (sym k2.rows) ∙ c.in_ok-notices.ensures.found h3 (k2.first_tables first) in
    let releases = ap (λ (rows : Rows). gathered_table release_in rows.handovers) (sym k3.rows) ∙ c.in_ok-releases.ensures.found h4 (k3.first_tables first) in
    let holds = ap (λ (rows : Rows). holds_in c.args.has_holds rows.holds) (sym k4.rows) ∙ c.in_ok-holds.ensures.found clean (k4.first_tables first) (ap (has_table (codes "hold")) k4.schema ∙ there) in
    λ i. all_records number blocks (registries i) (parts i) (notices i) (releases i) (holds i)

pub returns-clause-reads : goal.returns-clause-reads
returns-clause-reads g c = reads_answers _ _ _ _
    (reads_then _ _ _ _ _ c.in_ok-registries.ensures.reads (reads_then _ _ _ _ _ c.in_ok-parts.ensures.reads
    (reads_then _ _ _ _ _ c.in_ok-notices.ensures.reads (reads_then _ _ _ _ _ c.in_ok-releases.ensures.reads c.in_ok-holds.ensures.reads))))
