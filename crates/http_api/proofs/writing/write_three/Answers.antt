use Rattle.std.proofs.Common.{◌++◌}
use Rattle.answer_lines.proofs.Beginnings.{begins_first, begins_second}
use Rattle.http_api.proofs.writing.write_three.Goals as goal

pub returns-in_err-write_whole-clause-begun : goal.returns-in_err-write_whole-clause-begun
returns-in_err-write_whole-clause-begun g c = begins_first _ _ c.args.first.now (c.args.second.now ++ c.args.third.now) c.write_whole.ensures.begun

pub returns-clause-begun : goal.returns-clause-begun
returns-clause-begun g c = begins_second _ _ _ c.args.first.now (c.args.second.now ++ c.args.third.now) c.in_ok-write_whole.ensures.whole c.write_two.ensures.begun
