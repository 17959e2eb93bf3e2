use Rattle.std.proofs.Common.{take}
use Rattle.std.specs.Io.KnownBytes.{Appends}
use Rattle.desk.specs.Lines.{report_text}
use Rattle.desk.proofs.reports.report.Given as goal

abbrev pub invariant-loop-notice : goal.invariant-loop-notice
invariant-loop-notice g l = Appends (g.W.Write.contents l.fn.out) (g.W.Write.contents l.out) (report_text (take l.notice-index l.notices))
