use Rattle.std.proofs.Common.{ℕ, List, take}
use Rattle.std.specs.Io.KnownBytes.{Appends}
use Rattle.std.specs.List.{flat_map}
use Rattle.custody_records.specs.MemoryRecords.{records_of}
use Rattle.custody_records.specs.Tables.{row_entries}
use Rattle.custody_records.specs.TypedRecords.{registry_key, registry_value}
use Rattle.answer_lines.specs.State.{lines_text, registry_lines}
use Rattle.answer_lines.proofs.state.write_registries.Given as goal

abbrev pub invariant-loop-registry : goal.invariant-loop-registry
invariant-loop-registry g l = Appends (g.W.Write.contents l.fn.out) (g.W.Write.contents l.out)
    (flat_map (λ (registry : List ℕ × ℕ). lines_text (registry_lines (records_of l.records) registry)) (row_entries registry_key registry_value (take l.registry-index l.registry-items)))
