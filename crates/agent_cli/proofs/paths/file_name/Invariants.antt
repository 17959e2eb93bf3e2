use Rattle.agent_cli.proofs.PathLemmas.{HasNoSlashFrom}
use Rattle.agent_cli.proofs.paths.file_name.Given as goal

abbrev pub invariant-loop-start : goal.invariant-loop-start
invariant-loop-start l = HasNoSlashFrom l.start l.bytes

abbrev pub decreases-loop-start : goal.decreases-loop-start
decreases-loop-start l = l.start
