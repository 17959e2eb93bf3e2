use Rattle.std.proofs.Common.{◌≡◌, length, map, take}
use Rattle.dnrd_csv.specs.inside.RowKeys.{AreAtTheirPlaces, key_texts, keys_of}
use Rattle.dnrd_csv.proofs.row_checks.placed_keys.Given as goal

abbrev pub invariant-loop-i : goal.invariant-loop-i
invariant-loop-i l = record {
  keys : map key_texts l.placed.items ≡ take l.i (keys_of l.key l.rows);
  places : AreAtTheirPlaces l.placed.items;
  count : length l.placed.items ≡ l.i;
}
