use Rattle.std.specs.Prelude.{◌≡◌, fold, map, take, false}
use Rattle.clap.specs.Words.{app_of, new_app, with_rule}
use Rattle.clap.specs.declared.builder.Command.TheViews.{out-Command}
use Rattle.agent_cli.specs.Grammar.{rule_in}
use Rattle.agent_cli.proofs.grammar.subcommand.Given as goal

abbrev pub invariant-loop-word : goal.invariant-loop-word
invariant-loop-word l = (app_of l.command ≡ fold with_rule (new_app l.row.name.now) (map rule_in (take l.word-index l.row.words.now))) × ((out-Command l.command).has_globals ≡ false)
