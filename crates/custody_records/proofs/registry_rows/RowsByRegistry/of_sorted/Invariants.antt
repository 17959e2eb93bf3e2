use Rattle.std.proofs.Common.{◌≡◌, ◌++◌}
use Rattle.std.specs.Vec.Iter.{into_iter_items}
use Rattle.custody_records.specs.RegistryRows.{all_rows}
use Rattle.custody_records.specs.Tables.{table_map}
use Rattle.custody_records.proofs.registry_rows.RowsByRegistry.of_sorted.Given as goal

-- the rows that were taken are those of the table
abbrev pub invariant-loop-row : goal.invariant-loop-row
invariant-loop-row g l = record {
  taken : table_map g.T.Keyed.order g.T.Keyed.key_of g.T.Keyed.value_of (all_rows l.table) ≡ table_map g.T.Keyed.order g.T.Keyed.key_of g.T.Keyed.value_of l.yielded;
  all : l.yielded ++ into_iter_items l.row-iterator ≡ l.fn.sorted.rows.items;
}
