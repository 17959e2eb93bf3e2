use Rattle.std.proofs.Common.{◌≡◌, true, false, sym, ◌∙◌}
use Rattle.custody_machine.specs.Commands.{command_of}
use Rattle.custody.specs.Custody.{open_custody_of}
use Rattle.custody.proofs.Room.{had_room}
use Rattle.custody.proofs.custody.Custody.apply.Goals as goal

pub returns : goal.returns
returns g c =
    let old = c.args.self.now in
    let serving = (sym c.if-not-is_open.ensures) in
    record {
      closed = λ shut. let clash : true ≡ false = sym serving ∙ shut in cc;
      done = λ _. c.execute-answer.ensures;
      closes = λ _. c.closing_failure-self.ensures;
      room = λ _. had_room g.S.Store (open_custody_of old) c.execute-answer.new.self (old.order serving) (command_of c.args.command.now) c.args.now c.execute-answer.result c.execute-answer.ensures;
    }
