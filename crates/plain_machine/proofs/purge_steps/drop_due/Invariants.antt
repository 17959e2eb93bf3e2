use Rattle.std.proofs.Common.{◌≡◌, take, drop, map}
use Rattle.plain_machine.specs.Plain.{entry_after_purge, holds_view, plain_part_entry}
use Rattle.plain_machine.proofs.purge_steps.drop_due.Given as goal

-- the parts so far are without their bytes, and the others as they were
abbrev pub invariant-loop-part : goal.invariant-loop-part
invariant-loop-part l = record {
  done : map plain_part_entry (take l.part-index l.part-items) ≡ map (entry_after_purge (holds_view l.holds) l.today) (map plain_part_entry (take l.part-index l.initial.part-items));
  rest : drop l.part-index l.part-items ≡ drop l.part-index l.initial.part-items;
}
