use Rattle.std.proofs.Common.{◌∙◌, sym, ap}
use Rattle.std.specs.Prelude.{count_by}
use Rattle.std.specs.FinMap.{from_entries}
use Rattle.custody_records.specs.Keys.{PartKey, part_cmp}
use Rattle.custody_machine.specs.State.{Part}
use Rattle.custody_machine.specs.Machine.{count_due, is_due_part, state_without_due}
use Rattle.plain_machine.specs.declared.state.PlainPart.{PlainPart}
use Rattle.plain_machine.specs.Plain.{state_view, holds_view, plain_part_entry, part_view}
use Rattle.plain_machine.proofs.PlainPurges.{count_entries, dropped_entries, once_same, purges}
use Rattle.plain_machine.proofs.state.PlainState.purge.Goals as goal

pub invariant_of-self : goal.invariant_of-self
invariant_of-self c = record { once = once_same (holds_view c.args.self.now.holds) c.day-today.result c.args.self.now.parts.items c.drop_due.new.parts.items c.drop_due.ensures c.args.self.now.once }

pub returns : goal.returns
returns c =
    let old = c.args.self.now in
    let holds = holds_view old.holds in
    let today = c.day-today.ensures.value in
    purges (state_view old) _ c.args.now c.count_due-count.result
    (c.count_due-count.ensures ∙ ap (λ parts. count_by (λ (p : PlainPart). is_due_part holds c.day-today.result (plain_part_entry p).0 (part_view p)) parts) c.deref.ensures.value
    ∙ sym (count_entries (λ (e : PartKey × Part). is_due_part holds c.day-today.result e.0 e.1) old.parts.items old.once) ∙ ap (count_due (state_view old)) today)
    (ap (λ parts. record (state_view old) { parts = parts }) (ap (from_entries {R = part_cmp}) c.drop_due.ensures ∙ dropped_entries holds c.day-today.result old.parts.items) ∙ ap (state_without_due (state_view old)) today)
