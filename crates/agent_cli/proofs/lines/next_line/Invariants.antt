use Rattle.agent_cli.proofs.LineLemmas.{HasRead}
use Rattle.agent_cli.proofs.lines.next_line.Given as goal

abbrev pub invariant-loop : goal.invariant-loop
invariant-loop g l = HasRead (g.R.Read.remaining l.fn.input) (g.R.Read.remaining l.input) l.line.items
