use Rattle.std.proofs.Common.{◌≡◌, List, take}
use Rattle.deposit_pack.specs.Packing.{NamedRows, table_names, rows_of}
use Rattle.deposit_pack.specs.Unpacking.{file_names}
use Rattle.deposit_pack.specs.inside.Writing.{AreAppended}
use Rattle.deposit_pack.proofs.writing.write_tables.Given as goal

abbrev pub invariant-loop-i : goal.invariant-loop-i
invariant-loop-i l = (files : List NamedRows) → table_names files ≡ file_names l.contents → rows_of files ≡ l.tables
    → AreAppended (take l.i files) l.fn.bytes.items l.bytes.items l.entries.items
