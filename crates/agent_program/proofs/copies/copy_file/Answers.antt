use Rattle.std.proofs.Common.{◌∙◌, ap, length}
use Rattle.agent_program.proofs.CopyLemmas.{copied, written_whole}
use Rattle.agent_program.proofs.copies.copy_file.Goals as goal

pub returns-in-Ok-clause-bytes : goal.returns-in-Ok-clause-bytes
returns-in-Ok-clause-bytes g c =
    copied g.R.Read.remaining c.args.file c.in-Some.file c.new-bytes.result.items c.read_to_end.new.buf.items c.write_at.new.self
    c.in-Some.is c.new-bytes.ensures.items c.in_default-read_to_end.ensures.bytes
    (written_whole _ _ _ (ap length c.new-copy.ensures.empty) c.in-Ok.ensures.others c.in-Ok.ensures.written ∙ c.deref.ensures.value)
