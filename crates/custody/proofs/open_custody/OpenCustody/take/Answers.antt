use Rattle.std.proofs.Common.{subst}
use Rattle.custody.specs.Upload.{IsUploading}
use Rattle.custody.proofs.Uploads.{known_more}
use Rattle.custody.proofs.open_custody.OpenCustody.take.Goals as goal

pub write-requires : goal.write-requires
write-requires g c = (c.requires.0, c.requires.1, subst (λ i. IsUploading g.S.Store c.requires.0 c.args.self.now i c.requires.1) c.in-Writing.is c.requires.2, c.requires.3)

pub compare_on-requires : goal.compare_on-requires
compare_on-requires g c =
    let both = subst (λ i. IsUploading g.S.Store c.requires.0 c.args.self.now i c.requires.1) c.in-Comparing.is c.requires.2 in
    (c.requires.0, c.requires.1, both, c.requires.3)

pub returns-in-Answered : goal.returns-in-Answered
returns-in-Answered g c = λ s sent taking within. known_more g.S.Store s c.args.self.now c.in-Answered.answer sent c.args.bytes.now (subst (λ i. IsUploading g.S.Store s c.args.self.now i sent) c.in-Answered.is taking)
