use Rattle.std.proofs.Common.{ℕ, List, arith}
use Rattle.std.proofs.KnownBytes.{Appends-nil}
use Rattle.std.specs.List.{flat_map}
use Rattle.custody_records.specs.MemoryRecords.{records_of}
use Rattle.custody_records.specs.TypedRecords.{registry_key, registry_value}
use Rattle.answer_lines.specs.State.{lines_text, registry_lines}
use Rattle.answer_lines.proofs.Beginnings.{whole_begins}
use Rattle.answer_lines.proofs.PrintLemmas.{are_texts, rows_more}
use Rattle.answer_lines.proofs.StateLemmas.{table_begins, table_whole}
use Rattle.answer_lines.proofs.state.write_registries.Goals as goal

pub loop-registry-init : goal.loop-registry-init
loop-registry-init g c = Appends-nil (g.W.Write.contents c.args.out.now)

pub loop-registry-preserved : goal.loop-registry-preserved
loop-registry-preserved g c =
    let records = records_of c.args.records.now in
    let text = λ (registry : List ℕ × ℕ). lines_text (registry_lines records registry) in
    let old = g.W.Write.contents c.args.out.now in
    let mid = g.W.Write.contents c.loop-registry.out in
    let new = g.W.Write.contents c.write_registry.new.out in
    let rows = c.registries-registry-items.result.now in
    rows_more _ _ (are_texts registry_key registry_value text) old mid new rows c.loop-registry.registry-index c.registry-item.result (omega arith) c.registry-item.is
    c.loop-registry.invariant c.in_ok-write_registry.ensures.whole

pub returns-in_err-write_registry-clause-begun : goal.returns-in_err-write_registry-clause-begun
returns-in_err-write_registry-clause-begun g c =
    let records = records_of c.args.records.now in
    let text = λ (registry : List ℕ × ℕ). lines_text (registry_lines records registry) in
    table_begins registry_key registry_value (flat_map text) _ (are_texts registry_key registry_value text) records.registries
    c.registries-registry-items.result.now c.registries-registry-items.ensures.all c.registries-registry-items.ensures.rising
    (g.W.Write.contents c.args.out.now) (g.W.Write.contents c.loop-registry.out) (g.W.Write.contents c.write_registry.new.out) c.loop-registry.registry-index c.registry-item.result (omega arith) c.registry-item.is
    c.loop-registry.invariant c.write_registry.ensures.begun

pub returns-clause-whole : goal.returns-clause-whole
returns-clause-whole g c =
    let records = records_of c.args.records.now in
    let text = λ (registry : List ℕ × ℕ). lines_text (registry_lines records registry) in
    table_whole registry_key registry_value (flat_map text) _ (are_texts registry_key registry_value text) records.registries
    c.registries-registry-items.result.now c.registries-registry-items.ensures.all c.registries-registry-items.ensures.rising
    (g.W.Write.contents c.args.out.now) (g.W.Write.contents c.loop-registry.out) c.loop-registry.registry-index (omega arith) c.loop-registry.invariant

pub returns-clause-begun : goal.returns-clause-begun
returns-clause-begun g c = whole_begins _ _ _ (returns-clause-whole g c)
