use Rattle.std.proofs.Common.{◌≡◌, ◌≤◌, [], List, ℕ, length}
use Rattle.csv.specs.Records.{fields_of, partial_of}
use Rattle.dnrd_csv.specs.Table.{HaveWidth}
use Rattle.dnrd_csv.proofs.RowLemmas.{flat}
use Rattle.deposit_tables.proofs.SortedOnce.{AreKept}
use Rattle.deposit_tables.proofs.order.sorted_rows.Given as goal

abbrev pub invariant-loop-i : goal.invariant-loop-i
invariant-loop-i l =
    (kept : List (List (List ℕ))) × AreKept l.rows l.places.items l.i kept × HaveWidth l.width kept × (fields_of l.fields ≡ flat kept) × (partial_of l.fields ≡ [])
    × (l.i ≤ length l.places.items)
