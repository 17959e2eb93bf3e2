use Rattle.std.proofs.Common.{take}
use Rattle.dnrd_csv.specs.inside.RowKeys.{borrowed_texts}
use Rattle.deposit_tables.specs.inside.Changing.{AreAdded, HasOwnRow}
use Rattle.deposit_tables.proofs.changed_keys.push_own.Given as goal

abbrev pub invariant-loop-row : goal.invariant-loop-row
invariant-loop-row l = AreAdded (borrowed_texts l.fn.keys.items) (borrowed_texts l.keys.items) (HasOwnRow (take l.row l.one) l.other)
