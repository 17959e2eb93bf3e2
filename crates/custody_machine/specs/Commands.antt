-- The command of a value in memory.
use Rattle.custody_machine.specs.declared.command.Command as asked
use Rattle.custody_machine.specs.declared.command.Command.TheVariants as commands
use Rattle.custody_machine.specs.Machine.{Command, Register, Receive, Statement, Check, Release, Hold, Lift, Purge}

abbrev pub command_of : asked.Command → Command
command_of (commands.Register tld first_day) = Register tld first_day
command_of (commands.Receive name bytes) = Receive name.now bytes.now
command_of (commands.Statement stated) = Statement stated
command_of (commands.Check tld day) = Check tld day
command_of (commands.Release reference tld reason) = Release reference tld reason
command_of (commands.Hold reference tld day) = Hold reference tld day
command_of (commands.Lift reference) = Lift reference
command_of commands.Purge = Purge
