use Rattle.std.proofs.Common.{◌≡◌, ◌++◌}
use Rattle.custody_records.specs.RegistryRows.{rows_left}
use Rattle.custody_rules.specs.Blocks.{extents_of_all}
use Rattle.custody_rules.proofs.blocks.extents_of_all.Given as goal

-- what is gathered and what is left is all
abbrev pub invariant-loop-part : goal.invariant-loop-part
invariant-loop-part l = l.all.items ++ extents_of_all (rows_left l.part-iterator) ≡ extents_of_all (rows_left l.fn.parts)
