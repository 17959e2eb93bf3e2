use Rattle.std.proofs.Common.{map, take}
use Rattle.std.specs.Io.KnownBytes.{Appends}
use Rattle.custody_records.specs.MemoryRecords.{records_of}
use Rattle.custody_rules.specs.DueDays.{due_day_pair}
use Rattle.answer_lines.specs.Due.{days_text}
use Rattle.answer_lines.proofs.due.write_days.Given as goal

abbrev pub invariant-loop-due : goal.invariant-loop-due
invariant-loop-due g l = Appends (g.W.Write.contents l.fn.out) (g.W.Write.contents l.out) (days_text (records_of l.records) (map due_day_pair (take l.due-index l.days)))
