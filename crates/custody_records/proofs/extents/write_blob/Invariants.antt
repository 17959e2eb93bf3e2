use Rattle.std.proofs.Common.{◌≡◌, ◌*◌, length, take}
use Rattle.custody_records.specs.RowsOfRecords.{blob_of}
use Rattle.custody_records.proofs.extents.write_blob.Given as goal

abbrev pub invariant-loop-extent : goal.invariant-loop-extent
invariant-loop-extent l = record { len_so_far : length l.blob.items ≡ 8 * l.extent-index; bytes_so_far : l.blob.items ≡ blob_of (take l.extent-index l.extents) }
