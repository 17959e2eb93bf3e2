use Rattle.custody_machine.specs.Commands.{command_of}
use Rattle.custody.proofs.Done.{failed_as}
use Rattle.custody.proofs.Ruled.{refused_done, repeated_done, unlisted_done}
use Rattle.custody.proofs.open_custody.OpenCustody.execute.Goals as goal

pub returns-in-Refuse : goal.returns-in-Refuse
returns-in-Refuse g c = refused_done g.S.Store c.args.self.now c.requires.order (command_of c.args.command.now) c.args.now c.in-Refuse.refusal c.in-Refuse.ensures

pub returns-in_ok-of_kept-in-Kept : goal.returns-in_ok-of_kept-in-Kept
returns-in_ok-of_kept-in-Kept g c = repeated_done g.S.Store c.args.self.now c.requires.order (command_of c.args.command.now) c.args.now c.in-Kept.kept c.in-Kept.ensures c.in_ok-of_kept-in-Kept.field-0 c.in_ok-of_kept-in-Kept.ensures.told

pub returns-in_err-of_kept-in-Kept : goal.returns-in_err-of_kept-in-Kept
returns-in_err-of_kept-in-Kept g c = failed_as c.from_residual.ensures.1 (unlisted_done g.S.Store c.args.self.now c.requires.order (command_of c.args.command.now) c.args.now c.in-Kept.kept c.in-Kept.ensures c.in_err-of_kept-in-Kept.ensures.release)
