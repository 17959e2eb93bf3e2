use Rattle.std.specs.Prelude.{◌≡◌, ◌++◌, filter, map}
use Rattle.custody_records.specs.MemoryRecords.{records_of}
use Rattle.custody_records.specs.RegistryRows.{rows_left}
use Rattle.custody_records.specs.TypedRecords.{key_of_part}
use Rattle.custody_rules.proofs.DueBlocks.{due_extents, is_due_row}
use Rattle.custody_rules.proofs.purging.due_parts.Given as goal

-- what is gathered and what is left is all
abbrev pub invariant-loop-part : goal.invariant-loop-part
invariant-loop-part l =
    let holds = (records_of l.records).holds in
    let left = rows_left l.part-iterator in
    let rows = rows_left l.initial.part-iterator in
    record {
      keys : l.keys.items ++ map key_of_part (filter (is_due_row holds l.today) left) ≡ map key_of_part (filter (is_due_row holds l.today) rows);
      extents : l.extents.items ++ due_extents holds l.today left ≡ due_extents holds l.today rows;
    }
