use Rattle.std.proofs.Common.{sym, subst}
use Rattle.custody_machine.specs.Commands.{command_of}
use Rattle.custody_machine.specs.Rulings.{GoRuling, Decides}
use Rattle.custody_rules.specs.Rulings.{change_of}
use Rattle.custody.specs.OpenCustody.{current_records, HasExecuted}
use Rattle.custody.proofs.open_custody.OpenCustody.make_change.Goals as goal

pub returns-in-Registry : goal.returns-in-Registry
returns-in-Registry g c =
    let ruled = subst (λ change. Decides (GoRuling (change_of change)) (current_records c.args.self.now) (command_of c.args.command.now) c.args.now) c.in-Registry.is c.requires.ruled in
    subst (λ command. HasExecuted g.S.Store c.args.self.now command c.args.now c.keep_registry.result c.keep_registry.new.self) (sym ruled.0.0) (c.keep_registry.ensures c.args.now)
