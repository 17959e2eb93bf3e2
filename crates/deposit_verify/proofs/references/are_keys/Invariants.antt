use Rattle.std.proofs.Common.{All, take}
use Rattle.deposit_verify.specs.References.{IsKeyIn, column}
use Rattle.deposit_verify.specs.Tables.{table_of}
use Rattle.deposit_verify.proofs.references.are_keys.Given as goal

abbrev pub invariant-loop-i : goal.invariant-loop-i
invariant-loop-i l = All (IsKeyIn l.may_be_empty (column 0 (table_of l.tables l.fn.of))) (take l.i (column l.column (table_of l.tables l.fn.name)))
