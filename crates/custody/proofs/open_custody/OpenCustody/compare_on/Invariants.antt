use Rattle.std.proofs.Common.{◌≡◌, ◌+◌, ◌≤◌, List, ℕ, ◌++◌, length}
use Rattle.std.specs.Slice.Iter.{chunks_rest, chunks_size}
use Rattle.custody.specs.declared.open_custody.OpenCustody.{OpenCustody}
use Rattle.custody.specs.declared.upload.Upload.TheVariants as of
use Rattle.custody.specs.Upload.{UploadStart, IsUploading}
use Rattle.custody.proofs.open_custody.OpenCustody.compare_on.Given as goal

-- what came is the same, and the pieces that are left are the bytes behind it
abbrev pub invariant-loop-piece : goal.invariant-loop-piece
invariant-loop-piece g l =
    (goal.iterator-loop-piece g).can_next l.piece-iterator
    × (goal.iterator-loop-piece g).is_finite l.piece-iterator
    × (chunks_size l.piece-iterator ≡ 32_768)
    × ((s : UploadStart (OpenCustody g.row.V.Denot g.row.S.Denot g.V.Volume)) (sent : List ℕ) → IsUploading g.S.Store s l.fn.self (of.Comparing l.fn.comparing) sent → length sent + length l.fn.bytes ≤ s.len
    → (came : List ℕ) × IsUploading g.S.Store s l.self (of.Comparing l.comparing) came × (came ++ chunks_rest l.piece-iterator ≡ sent ++ l.fn.bytes))
