use Rattle.extent_map.proofs.BitLemmas.{clear_here, clear_elsewhere}
use Rattle.extent_map.proofs.words.clear.Goals as goal

pub returns-clause-here : goal.returns-clause-here
returns-clause-here c = clear_here c.args.words.now c.args.b c.requires

pub returns-clause-others : goal.returns-clause-others
returns-clause-others c = clear_elsewhere c.args.words.now c.args.b c.requires
