use Rattle.std.proofs.Common.{◌≡◌, List, ℕ, []}
use Rattle.custody.specs.declared.open_custody.OpenCustody.{OpenCustody}
use Rattle.custody.specs.Upload.{UploadStart, IsUploading}
use Rattle.custody.proofs.Coming.{HaveCome}
use Rattle.custody.proofs.open_custody.OpenCustody.take_body.Given as goal

abbrev pub invariant-loop-left : goal.invariant-loop-left
invariant-loop-left g l = (s : UploadStart (OpenCustody g.row.V.Denot g.row.S.Denot g.V.Volume)) → IsUploading g.S.Store s l.fn.self l.fn.upload [] → s.len ≡ l.len
    → (sent : List ℕ) × IsUploading g.S.Store s l.self l.upload sent × HaveCome (g.R.Read.remaining l.fn.reader) (g.R.Read.remaining l.reader) l.len l.left sent

abbrev pub decreases-loop-left : goal.decreases-loop-left
decreases-loop-left g l = l.left
