use Rattle.agent_program.proofs.PartLemmas.{part_read}
use Rattle.agent_program.proofs.parts.read_part.Goals as goal

pub returns-in-Ok-clause-read : goal.returns-in-Ok-clause-read
returns-in-Ok-clause-read g c =
    part_read g.R.Read.remaining c.args.part c.take.result.inner c.take.result.limit c.new-bytes.result.items c.read_to_end.new.buf.items
    c.take.ensures.inner c.take.ensures.limit c.new-bytes.ensures.items c.in-Ok.ensures.bytes
