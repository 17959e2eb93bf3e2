use Rattle.extent_map.proofs.BitLemmas.{set_here, set_elsewhere}
use Rattle.extent_map.proofs.words.set.Goals as goal

pub returns-clause-here : goal.returns-clause-here
returns-clause-here c = set_here c.args.words.now c.args.b c.requires

pub returns-clause-others : goal.returns-clause-others
returns-clause-others c = set_elsewhere c.args.words.now c.args.b c.requires
