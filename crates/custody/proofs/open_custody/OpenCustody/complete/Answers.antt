use Rattle.std.proofs.Common.{ℕ, [], true, sym, ◌∙◌, ap, subst, append-nil, Ok}
use Rattle.vault_volume.specs.Extents.{part_bytes}
use Rattle.custody_machine.specs.Machine.{Receive}
use Rattle.custody.specs.Upload.{IsUploading, compared_part}
use Rattle.custody.specs.OpenCustody.{image_of, HasExecuted}
use Rattle.custody.proofs.Repeats.{repeat_done}
use Rattle.custody.proofs.open_custody.OpenCustody.complete.Goals as goal

pub finish-requires : goal.finish-requires
finish-requires g c = (c.requires.0, c.requires.1, subst (λ i. IsUploading g.S.Store c.requires.0 c.args.self.now i c.requires.1) c.in-Writing.is c.requires.2, c.requires.3)

pub returns-in-Writing : goal.returns-in-Writing
returns-in-Writing g c = λ s sent taking full now. c.finish.ensures s sent (subst (λ i. IsUploading g.S.Store s c.args.self.now i sent) c.in-Writing.is taking) full now

pub returns-in-Comparing : goal.returns-in-Comparing
returns-in-Comparing g c = λ s sent taking full now.
    let it = c.in-Comparing.comparing in
    let both = subst (λ i. IsUploading g.S.Store s c.args.self.now i sent) c.in-Comparing.is taking in
    let is = both.0 in
    subst (λ (n : ℕ). HasExecuted g.S.Store s.start (Receive s.text sent) n (Ok (record { «record» = c.into_record.result; is_repeat = true })) c.args.self.now) now
    (repeat_done s.start is.order (Receive s.text sent) s.now (compared_part it) it.extents.items (is.decides sent full) c.args.self.now is.records is.store is.read.free is.read.size (λ tells. (is.read.image tells, is.read.any_moment tells)) g.S.Store
    c.into_record.result c.into_record.ensures is.failures (λ tells. ap (part_bytes (image_of s.start) it.extents.items) (both.1 ∙ sym full) ∙ is.same tells))

pub returns-in-Answered : goal.returns-in-Answered
returns-in-Answered g c = λ s sent taking full now.
    subst (λ (n : ℕ). HasExecuted g.S.Store s.start (Receive s.text sent) n c.in-Answered.answer c.args.self.now) now
    ((subst (λ i. IsUploading g.S.Store s c.args.self.now i sent) c.in-Answered.is taking).done sent (full, [], sym (append-nil sent)))
