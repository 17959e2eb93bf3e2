use Rattle.std.proofs.Common.{◌+◌, ◌*◌, ◌-◌, arith, slice_index_or}
use Rattle.std.proofs.lemmas.Grind.{common_steps}
use Rattle.deposit_name.proofs.NameLemmas.{decimal_digits}
use Rattle.deposit_name.proofs.numbers.read_rev.Goals as goal

pub returns-in-82-clause-text : goal.returns-in-82-clause-text
returns-in-82-clause-text c = rw (decimal_digits (slice_index_or c.args.t.now 1 0 - 48) (omega arith)) (grind (arith, common_steps))

pub returns-in-82-2-clause-text : goal.returns-in-82-2-clause-text
returns-in-82-2-clause-text c =
    rw (decimal_digits ((slice_index_or c.args.t.now 1 0 - 48) * 10 + (slice_index_or c.args.t.now 2 0 - 48)) (omega arith)) (grind (arith, common_steps))
