use Rattle.custody_machine.proofs.Accepting.{read_of}
use Rattle.plain_machine.proofs.PlainSteps.{refuses_text}
use Rattle.plain_machine.specs.Plain.{state_view}
use Rattle.plain_machine.proofs.state.PlainState.receive.Goals as goal

pub returns-in-Ok-clause-step : goal.returns-in-Ok-clause-step
returns-in-Ok-clause-step c = c.receive_part.ensures.step c.args.text.now (read_of c.args.text.now c.in-Ok.name c.in-Ok.ensures.name)

pub returns-in-Err-clause-step : goal.returns-in-Err-clause-step
returns-in-Err-clause-step c = refuses_text (state_view c.args.self.now) c.args.text.now c.args.bytes.now c.args.now c.in-Err.fault c.in-Err.ensures.fault

pub receive_part-requires : goal.receive_part-requires
receive_part-requires c = (c.args.text.now, read_of c.args.text.now c.in-Ok.name c.in-Ok.ensures.name)
