use Rattle.std.specs.Prelude.{ℕ, Option, List, drop, map}
use Rattle.custody_rules.specs.DueDays.{due_day_pair}
use Rattle.agent_cli.specs.Acts.{IsSwept}
use Rattle.agent_cli.proofs.sweeping.check_days.Given as goal

-- what is swept of the days that are left, with those before, is swept of all
abbrev pub invariant-loop-day : goal.invariant-loop-day
invariant-loop-day g l = (new : _) (status : ℕ) (out err : Option (List ℕ))
    → IsSwept (map due_day_pair (drop l.day-index l.days)) l.custody l.now new status (record { before = g.W.Write.contents l.out; after = out }) (record { before = g.E.Write.contents l.err; after = err })
    → IsSwept (map due_day_pair l.days) l.fn.custody l.now new status (record { before = g.W.Write.contents l.fn.out; after = out }) (record { before = g.E.Write.contents l.fn.err; after = err })
