use Rattle.std.specs.Prelude.{ℕ, List, Option}
use Rattle.agent_program.specs.Batch.{AreLinesDone}
use Rattle.agent_program.proofs.BatchLemmas.{IsBatchOf}
use Rattle.agent_program.proofs.batch.do_each_line.Given as goal

-- what is done of the lines that are left is, with those before, done of all
abbrev pub invariant-loop-number : goal.invariant-loop-number
invariant-loop-number g l = (new : _) (status : ℕ) (out err : Option (List ℕ))
    → IsBatchOf (g.H.BlockFiles.holds l.host) (g.H.Host.shown l.host) l.folder l.highest l.custody new status (record { before = g.W.Write.contents l.out; after = out }) (record { before = g.E.Write.contents l.err; after = err }) (g.R.Read.remaining l.lines)
    → AreLinesDone (g.H.BlockFiles.holds l.host) (g.H.Host.shown l.host) l.folder (g.R.Read.remaining l.fn.lines) l.fn.custody new status (record { before = g.W.Write.contents l.fn.out; after = out }) (record { before = g.E.Write.contents l.fn.err; after = err })
