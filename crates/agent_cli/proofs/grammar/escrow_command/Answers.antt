use Rattle.std.proofs.Common.{◌∙◌, ap₂, arith, sym}
use Rattle.clap.specs.Words.{with_subcommand}
use Rattle.agent_cli.specs.Grammar.{bare_app, shape, shape_in, subcommands}
use Rattle.agent_cli.proofs.FoldLemmas.{fold_more}
use Rattle.agent_cli.proofs.grammar.escrow_command.Goals as goal

pub loop-named-preserved : goal.loop-named-preserved
loop-named-preserved c =
    c.in_ok-command.ensures.shape c.in_ok-subcommand.ensures.1 ∙ ap₂ with_subcommand c.loop-named.invariant (c.in_ok-subcommand.ensures.0 ∙ ap₂ shape_in c.row.ensures.name c.row.ensures.words)
    ∙ sym (fold_more with_subcommand shape bare_app subcommands c.loop-named.named-index _ (omega arith))
