use Rattle.std.proofs.Common.{refl, sym, subst}
use Rattle.custody_records.specs.MemoryRecords.{records_of}
use Rattle.custody_machine.specs.Commands.{command_of}
use Rattle.custody_machine.specs.Machine.{Purge}
use Rattle.custody_machine.specs.Rulings.{DropsBytes, GoRuling, Decides}
use Rattle.custody_machine.specs.StoredState.{state_in}
use Rattle.custody_machine.proofs.Accepting.{step_none}
use Rattle.custody_rules.proofs.judging.judge.Goals as goal

pub returns-in-Purge : goal.returns-in-Purge
returns-in-Purge c =
    subst (λ command. Decides (GoRuling DropsBytes) (records_of c.args.records.now) (command_of command) c.args.now) (sym c.in-Purge.is)
    (refl, λ image. step_none (state_in (records_of c.args.records.now) image) Purge c.args.now refl)
