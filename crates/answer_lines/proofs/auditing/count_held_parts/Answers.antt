use Rattle.std.proofs.Common.{◌∙◌, Bor, refl, ap}
use Rattle.std.specs.Prelude.{count_by, is_some}
use Rattle.std.proofs.lemmas.Iterator.Consumers.{YieldsList-at, YieldsList-from_first, YieldsList-end}
use Rattle.custody_records.specs.RegistryRows.{rows_left}
use Rattle.custody_records.specs.declared.parts.Part.{Part}
use Rattle.custody_records.specs.MemoryRecords.{records_of}
use Rattle.answer_lines.proofs.AuditLemmas.{held_rows}
use Rattle.answer_lines.proofs.auditing.count_held_parts.Goals as goal

pub returns : goal.returns
returns c =
    let rows = rows_left c.parts-part-items.result in
    let seen = YieldsList-end (YieldsList-at c.into_iter-part-iterator.ensures.into_iter_gives (YieldsList-from_first (λ (p : Bor Part). p.now) rows_left rows refl))
    c.loop-part.yielded c.loop-part.part-iterator c.loop-part.yielded_by c.next.result c.next.new.self c.in-None.is c.next.ensures.steps in
    c.loop-part.invariant ∙ ap (count_by (λ (part : Part). is_some part.extents)) seen.0 ∙ held_rows (records_of c.args.records.now) rows c.parts-part-items.ensures.all c.parts-part-items.ensures.rising
