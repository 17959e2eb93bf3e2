use Rattle.agent_program.proofs.MemHostLemmas.{none_held}
use Rattle.agent_program.proofs.mem_host.MemHost.new.Goals as goal

pub returns-clause-none : goal.returns-clause-none
returns-clause-none c = λ path away. none_held c.args.other.path.now path c.args.other.bytes.now _ _ _ away (c.new.ensures.none path)
