use Rattle.std.proofs.Common.{◌≤◌, ◌+◌, [], sym, subst, refl, arith, length, take, rules}
use Rattle.std.proofs.lemmas.List.{take_all}
use Rattle.custody.specs.Custody.{HasApplied, HasRun, timed_commands}
use Rattle.custody_machine.specs.Commands.{command_of}
use Rattle.custody.proofs.RunLemmas.{run_next}
use Rattle.custody.proofs.custody.Custody.run.Goals as goal

pub loop-command-init : goal.loop-command-init
loop-command-init g c = record {
  run = subst (λ answers. HasRun c.args.self.now [] answers c.args.self.now) (sym c.in_ok-answers.ensures.items) refl;
  done = c.in_ok-answers.ensures.len;
  room = c.in_ok-answers.ensures.exact;
}

pub loop-command-preserved : goal.loop-command-preserved
loop-command-preserved g c = let item = c.loop-command-item.result in record {
  run = subst (λ answers. HasRun c.args.self.now (timed_commands (take (c.loop-command.command-index + 1) c.args.commands.now)) answers c.apply-answer.new.self) (sym c.push_reserved.ensures.items)
      (run_next c.args.self.now c.loop-command.self c.apply-answer.new.self c.args.commands.now c.loop-command.command-index item c.loop-command.answers.items c.apply-answer.result c.loop-command-test.true c.loop-command.invariant.run
      (subst (λ i. HasApplied c.loop-command.self (command_of i.0) i.1 c.apply-answer.result c.apply-answer.new.self) c.loop-command-item.is c.apply-answer.ensures));
  done = search rules;
  room = search rules;
}

pub returns-clause-run : goal.returns-clause-run
returns-clause-run g c =
    let end : length c.args.commands.now ≤ c.loop-command.command-index = omega arith in
    subst (λ commands. HasRun c.args.self.now (timed_commands commands) c.loop-command.answers.items c.loop-command.self) (take_all c.loop-command.command-index c.args.commands.now end) c.loop-command.invariant.run
