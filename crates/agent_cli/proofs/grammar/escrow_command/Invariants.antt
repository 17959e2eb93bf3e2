use Rattle.std.specs.Prelude.{◌≡◌, fold, map, take}
use Rattle.clap.specs.Words.{app_of, with_subcommand}
use Rattle.agent_cli.specs.Grammar.{bare_app, shape, subcommands}
use Rattle.agent_cli.proofs.grammar.escrow_command.Given as goal

abbrev pub invariant-loop-named : goal.invariant-loop-named
invariant-loop-named l = app_of l.command ≡ fold with_subcommand bare_app (map shape (take l.named-index subcommands))
