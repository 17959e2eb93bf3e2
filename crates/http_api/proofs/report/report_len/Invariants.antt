use Rattle.std.proofs.Common.{◌≡◌, take, length}
use Rattle.desk.specs.Lines.{report_text}
use Rattle.http_api.proofs.report.report_len.Given as goal

abbrev pub invariant-loop-notice : goal.invariant-loop-notice
invariant-loop-notice l = l.total ≡ length (report_text (take l.notice-index l.notices))
