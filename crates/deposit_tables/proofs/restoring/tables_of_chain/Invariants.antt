use Rattle.std.proofs.Common.{◌∷◌, All, map, take}
use Rattle.deposit_verify.specs.Chain.{IsFirstOfChain, IsLaterOfChain}
use Rattle.deposit_verify.specs.Tables.{AreAllTables, table_of}
use Rattle.deposit_tables.specs.Restored.{HasRowsOf}
use Rattle.deposit_tables.proofs.restoring.tables_of_chain.Given as goal

abbrev pub invariant-loop-joined : goal.invariant-loop-joined
invariant-loop-joined l = record {
  first : IsFirstOfChain l.fn.first.items;
  all : AreAllTables l.tables.items;
  rows : HasRowsOf (l.fn.first.items ∷ take l.joined-index (map (λ d. d.items) l.later)) (table_of l.tables.items);
  links : All IsLaterOfChain (take l.joined-index (map (λ d. d.items) l.later));
}
