use Rattle.std.proofs.Common.{string_bytes}
use Rattle.agent_program.proofs.ErrorLemmas.{file_line}
use Rattle.agent_program.proofs.errors.ProgramError.of_file.Goals as goal

pub returns-in-Ok-clause-line : goal.returns-in-Ok-clause-line
returns-in-Ok-clause-line g c = file_line c.args.path.now (g.D.Display.output c.args.cause) (string_bytes c.in-Ok.line) c.in-Ok.ensures.ok
