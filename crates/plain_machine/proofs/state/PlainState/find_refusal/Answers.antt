use Rattle.std.proofs.Common.{◌∙◌, ap}
use Rattle.deposit_name.specs.Name.{Name}
use Rattle.plain_machine.specs.Plain.{state_view}
use Rattle.custody_machine.specs.Machine.{first_refusal, receive_tests}
use Rattle.plain_machine.proofs.state.PlainState.find_refusal.Goals as goal

pub returns : goal.returns
returns c = c.refusal_of.ensures ∙ ap (λ (n : Name). first_refusal (receive_tests (state_view c.args.self.now) n c.args.bytes.now c.args.now)) c.of.ensures
