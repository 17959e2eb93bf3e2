use Rattle.agent_cli.proofs.ReadLemmas.{reading_leaves_alone}
use Rattle.agent_cli.proofs.laws.law_reads.Goals as goal

pub returns : goal.returns
returns g c = reading_leaves_alone c.args.old.now c.args.new.now
