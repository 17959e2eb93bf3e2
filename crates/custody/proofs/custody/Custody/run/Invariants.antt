use Rattle.std.proofs.Common.{◌≡◌, take, length, vec_len, vec_capacity}
use Rattle.custody.specs.Custody.{HasRun, timed_commands}
use Rattle.custody.proofs.custody.Custody.run.Given as goal

abbrev pub invariant-loop-command : goal.invariant-loop-command
invariant-loop-command g l = record {
  run : HasRun l.fn.self (timed_commands (take l.command-index l.commands)) l.answers.items l.self;
  done : vec_len l.answers ≡ l.command-index;
  room : vec_capacity l.answers ≡ length l.commands;
}
