use Rattle.std.specs.Prelude.{string_bytes}
use Rattle.agent_program.proofs.MemHostLemmas.{cloned_bytes}
use Rattle.agent_program.proofs.mem_host.MemHostHost.words.Goals as goal

pub returns-in-Ok : goal.returns-in-Ok
returns-in-Ok c = record { words = cloned_bytes string_bytes _ _ c.in-Ok.ensures.cases.0 }
