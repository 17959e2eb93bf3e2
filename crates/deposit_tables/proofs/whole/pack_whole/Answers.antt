use Rattle.std.proofs.Common.{◌≡◌, ◌∙◌, ap, map, rules, subst, tests}
use Rattle.std.proofs.lemmas.Iterator.{YieldsList-from_map_by, YieldsList-from_slice}
use Rattle.std.proofs.lemmas.Iterator.Consumers.{map_from_collect}
use Rattle.dnrd_csv.specs.Text.{table_text}
use Rattle.deposit_verify.specs.Deposit.{IsTableOf}
use Rattle.deposit_verify.specs.Tables.{table_of}
use Rattle.deposit_pack.specs.declared.source.Attributes.{Attributes}
use Rattle.deposit_pack.proofs.SourceLemmas.{error_kept}
use Rattle.deposit_tables.specs.Whole.{IsWholeError, chains_before, tables_in}
use Rattle.deposit_tables.specs.declared.whole_error.WholeError.TheVariants.{Pack}
use Rattle.deposit_tables.proofs.ChangesInForm.{AreSinceChains, error_since, packed_since, since_chains, since_in_form}
use Rattle.deposit_tables.proofs.Decisions.{Tables}
use Rattle.deposit_tables.proofs.whole.pack_whole.Goals as goal

pub pack_changes-requires : goal.pack_changes-requires
pack_changes-requires c =
    let chain = map (λ d. d.items) c.args.chain.items in
    let a : Attributes = c.args.attributes.now in
    let source = c.args.source.now in
    let new = tables_in source in
    let collected = map_from_collect c.collect.result c.collect.ensures.ran
    (YieldsList-from_map_by _ (λ r. r.now) (λ old. old.items) (YieldsList-from_slice c.in-Some.olds.items cc) c.map.ensures.closure (λ x r q k. search (rules, tests))) in
    let same = ap (map (λ r. r.now)) c.deref-2.ensures.value ∙ rw c.in_ok-before.was at collected in
    let now_new : table_of c.deref-3.result.now ≡ new = ap table_of c.deref-3.ensures.value ∙ c.in_ok-new.ensures.rows in
    let since : AreSinceChains (chains_before a.name.kind chain) new c.in_ok-changes.changes =
    since_chains c.in-Some.olds.items _ a.name.kind chain c.deref-2.result.now c.deref-3.result.now new c.in_ok-changes.changes (rw c.in-Some.is at c.in_ok-olds.ensures.restored)
    (ap (λ (b : Attributes). b.name.kind) c.attributes.view_is) same now_new c.in_ok-changes.ensures in
    since_in_form (chains_before a.name.kind chain) new c.in_ok-changes.changes since c.law_restored.ensures
    (λ name. subst (λ (tables : Tables). IsTableOf name (table_text (tables name)) (tables name)) c.in_ok-new.ensures.rows (c.in_ok-new.ensures.in_form name))

pub returns-in_err-new-clause-refused : goal.returns-in_err-new-clause-refused
returns-in_err-new-clause-refused c =
    let chain = map (λ d. d.items) c.args.chain.items in
    error_kept (IsWholeError chain c.args.attributes.now c.args.source.now c.args.base.now) c.from_residual-in_err-new.result c.in_err-new.field-0.0 c.from_residual-in_err-new.ensures.1
    (c.in_err-new.ensures.refused chain c.args.attributes.now c.args.base.now)

pub returns-in_err-pack_changes-clause-refused : goal.returns-in_err-pack_changes-clause-refused
returns-in_err-pack_changes-clause-refused c =
    let chain = map (λ d. d.items) c.args.chain.items in
    let a : Attributes = c.args.attributes.now in
    let source = c.args.source.now in
    let new = tables_in source in
    let collected = map_from_collect c.collect.result c.collect.ensures.ran
    (YieldsList-from_map_by _ (λ r. r.now) (λ old. old.items) (YieldsList-from_slice c.in-Some.olds.items cc) c.map.ensures.closure (λ x r q k. search (rules, tests))) in
    let same = ap (map (λ r. r.now)) c.deref-2.ensures.value ∙ rw c.in_ok-before.was at collected in
    let now_new : table_of c.deref-3.result.now ≡ new = ap table_of c.deref-3.ensures.value ∙ c.in_ok-new.ensures.rows in
    let since : AreSinceChains (chains_before a.name.kind chain) new c.in_ok-changes.changes =
    since_chains c.in-Some.olds.items _ a.name.kind chain c.deref-2.result.now c.deref-3.result.now new c.in_ok-changes.changes (rw c.in-Some.is at c.in_ok-olds.ensures.restored)
    (ap (λ (b : Attributes). b.name.kind) c.attributes.view_is) same now_new c.in_ok-changes.ensures in
    let error = c.in_err-pack_changes.field-0.0 in
    error_kept (IsWholeError chain a source c.args.base.now) c.from_residual-in_err-pack_changes.result (Pack error) c.from_residual-in_err-pack_changes.ensures.1
    (error_since chain a source c.args.base.now c.in_ok-changes.changes since error (c.in_err-pack_changes.ensures.refused since.olds new since.changes))

pub returns-clause-packed : goal.returns-clause-packed
returns-clause-packed c =
    let chain = map (λ d. d.items) c.args.chain.items in
    let a : Attributes = c.args.attributes.now in
    let source = c.args.source.now in
    let new = tables_in source in
    let collected = map_from_collect c.collect.result c.collect.ensures.ran
    (YieldsList-from_map_by _ (λ r. r.now) (λ old. old.items) (YieldsList-from_slice c.in-Some.olds.items cc) c.map.ensures.closure (λ x r q k. search (rules, tests))) in
    let same = ap (map (λ r. r.now)) c.deref-2.ensures.value ∙ rw c.in_ok-before.was at collected in
    let now_new : table_of c.deref-3.result.now ≡ new = ap table_of c.deref-3.ensures.value ∙ c.in_ok-new.ensures.rows in
    let since : AreSinceChains (chains_before a.name.kind chain) new c.in_ok-changes.changes =
    since_chains c.in-Some.olds.items _ a.name.kind chain c.deref-2.result.now c.deref-3.result.now new c.in_ok-changes.changes (rw c.in-Some.is at c.in_ok-olds.ensures.restored)
    (ap (λ (b : Attributes). b.name.kind) c.attributes.view_is) same now_new c.in_ok-changes.ensures in
    packed_since chain a source c.args.base.now c.in_ok-changes.changes since c.in_ok-pack_changes.field-0.items (c.in_ok-pack_changes.ensures.packed since.olds new since.changes)

pub returns-clause-headers : goal.returns-clause-headers
returns-clause-headers c = c.in_ok-new.ensures.headers
