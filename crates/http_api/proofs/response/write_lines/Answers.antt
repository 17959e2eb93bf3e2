use Rattle.std.proofs.KnownBytes.{Appends-trans}
use Rattle.desk.specs.Lines.{report_text}
use Rattle.answer_lines.proofs.Beginnings.{begins_first, begins_second, whole_begins}
use Rattle.http_api.proofs.response.write_lines.Goals as goal

pub returns-in_err-write_whole-clause-begun : goal.returns-in_err-write_whole-clause-begun
returns-in_err-write_whole-clause-begun g c = begins_first _ _ c.args.first.now (report_text c.args.notices.now) c.write_whole.ensures.begun

pub returns-in-Ok-clause-begun : goal.returns-in-Ok-clause-begun
returns-in-Ok-clause-begun g c =
    whole_begins _ _ _ (Appends-trans _ _ _ c.args.first.now (report_text c.args.notices.now) c.in_ok-write_whole.ensures.whole c.in-Ok.ensures.whole)

pub returns-in-Err-clause-begun : goal.returns-in-Err-clause-begun
returns-in-Err-clause-begun g c = begins_second _ _ _ c.args.first.now (report_text c.args.notices.now) c.in_ok-write_whole.ensures.whole c.in-Err.ensures.begun
