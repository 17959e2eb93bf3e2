use Rattle.std.proofs.Common.{◌∙◌, ap₂}
use Rattle.std.specs.Prelude.{map}
use Rattle.std.specs.String.{string_bytes}
use Rattle.agent_cli.specs.Grammar.{shape_in}
use Rattle.agent_cli.proofs.NamedLemmas.{added_reads, named_reads, whole_reads}
use Rattle.agent_cli.proofs.grammar.command_of.Goals as goal

pub returns-in_ok-subcommand-in-Some : goal.returns-in_ok-subcommand-in-Some
returns-in_ok-subcommand-in-Some c =
    added_reads (map string_bytes c.args.words.now) c.in-Some.named _ _ c.subcommand-in-Some.result c.subcommand-in-Some.ensures c.bare_command.ensures.app
    (c.in_ok-subcommand-in-Some.ensures.0 ∙ ap₂ shape_in c.row.ensures.name c.row.ensures.words) c.in_ok-subcommand-in-Some.ensures.1 (named_reads string_bytes c.args.words.now c.in-Some.named c.in-Some.ensures)

pub returns-in-None : goal.returns-in-None
returns-in-None c = whole_reads (map string_bytes c.args.words.now) c.escrow_command.result c.escrow_command.ensures
