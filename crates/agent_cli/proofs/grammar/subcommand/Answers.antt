use Rattle.std.proofs.Common.{◌∙◌, ◌||◌, ap₂, arith, sym}
use Rattle.clap.specs.Words.{new_app, with_rule}
use Rattle.agent_cli.specs.Grammar.{rule_in}
use Rattle.agent_cli.proofs.FoldLemmas.{fold_more}
use Rattle.agent_cli.proofs.grammar.subcommand.Goals as goal

pub loop-word-preserved : goal.loop-word-preserved
loop-word-preserved c = (
  c.in_ok-command.ensures.shape c.argument.ensures.local ∙ ap₂ with_rule c.loop-word.invariant.0 c.argument.ensures.rule
      ∙ sym (fold_more with_rule rule_in (new_app c.args.row.now.name.now) c.args.row.now.words.now c.loop-word.word-index _ (omega arith)),
  c.in_ok-command.ensures.globals ∙ ap₂ (λ a b. a || b) c.loop-word.invariant.1 c.argument.ensures.local,
)
