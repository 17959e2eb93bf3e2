use Rattle.std.proofs.Common.{◌≡◌, ◌∙◌, ◌++◌, take, sym, ap, arith}
use Rattle.std.specs.FinMap.{entries}
use Rattle.std.specs.List.{flat_map}
use Rattle.std.proofs.lemmas.List.{take_all}
use Rattle.custody_records.specs.MemoryRecords.{records_of}
use Rattle.custody_records.specs.Keys.{text_cmp}
use Rattle.custody_records.specs.Tables.{row_entries}
use Rattle.custody_records.specs.TypedRecords.{registry_key, registry_value}
use Rattle.custody_records.proofs.TableLemmas.{entries-table_map}
use Rattle.custody_rules.specs.DueDays.{due_days_of}
use Rattle.custody_rules.proofs.DueDays.{rows_step}
use Rattle.custody_rules.proofs.days_due.due_days.Goals as goal

pub loop-registry-preserved : goal.loop-registry-preserved
loop-registry-preserved c =
    let due = due_days_of (records_of c.args.records.now) c.args.now in
    c.in_ok-add_due.ensures ∙ ap (λ l. l ++ due (registry_key c.registry-item.result, registry_value c.registry-item.result)) c.loop-registry.invariant
    ∙ sym (rows_step registry_key registry_value due c.registries-registry-items.result.now c.loop-registry.registry-index c.registry-item.result (omega arith) c.registry-item.is)

pub returns : goal.returns
returns c =
    let items = c.registries-registry-items.result.now in
    let all : take c.loop-registry.registry-index items ≡ items = take_all _ items (omega arith) in
    let entries_are : row_entries registry_key registry_value (take c.loop-registry.registry-index items) ≡ entries (records_of c.args.records.now).registries =
    ap (row_entries registry_key registry_value) all ∙ sym (ap entries c.registries-registry-items.ensures.all ∙ entries-table_map text_cmp registry_key registry_value items c.registries-registry-items.ensures.rising) in
    c.loop-registry.invariant ∙ ap (flat_map (due_days_of (records_of c.args.records.now) c.args.now)) entries_are
