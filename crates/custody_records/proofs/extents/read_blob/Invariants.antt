use Rattle.std.proofs.Common.{◌≡◌, ◌++◌, length}
use Rattle.std.specs.Prelude.{option_map}
use Rattle.custody_records.specs.Form.{blob_extents}
use Rattle.custody_records.proofs.extents.read_blob.Given as goal

abbrev pub invariant-loop-extent : goal.invariant-loop-extent
invariant-loop-extent l = blob_extents l.fn.bytes ≡ option_map (λ more. l.extents.items ++ more) (blob_extents l.rest)

abbrev pub decreases-loop-extent : goal.decreases-loop-extent
decreases-loop-extent l = length l.rest
