use Rattle.std.proofs.Common.{take}
use Rattle.deposit_verify.specs.Tables.{table_of}
use Rattle.deposit_verify.specs.TablesReasons.{reference_rules}
use Rattle.deposit_verify.specs.inside.Reasons.{IsFirstFound}
use Rattle.deposit_verify.proofs.breaches.first_breach.Given as goal

abbrev pub invariant-loop-rule : goal.invariant-loop-rule
invariant-loop-rule l = IsFirstFound (table_of l.tables) (take l.rule-index reference_rules) l.first
