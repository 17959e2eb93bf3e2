use Rattle.std.proofs.Common.{◌∙◌, rules, tests}
use Rattle.std.proofs.lemmas.Iterator.{YieldsList-from_slice}
use Rattle.std.proofs.lemmas.Iterator.Search.{find_from_yields_List}
use Rattle.agent_cli.specs.Grammar.{is_named, subcommands}
use Rattle.agent_cli.proofs.subcommands.Subcommand.named.Goals as goal

pub returns : goal.returns
returns c = c.copied.ensures ∙ find_from_yields_List (is_named c.args.name.now) _ _ _ c.find.ensures.ran (YieldsList-from_slice subcommands cc) (λ x b q k. search (rules, tests))
