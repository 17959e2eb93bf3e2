use Rattle.std.proofs.Common.{◌≡◌, refl, subst, sym}
use Rattle.std.specs.Prelude.{IfSome, is_none}
use Rattle.custody_machine.specs.declared.answers.Failure.TheVariants.{VolumeFailed}
use Rattle.custody.specs.declared.open_custody.OpenCustody.{OpenCustody}
use Rattle.custody.specs.Upload.{IsUploading}
use Rattle.custody.specs.OtherCalls.{RecordsNothing}
use Rattle.custody.proofs.Uploads.{given_up, known_rested, stops_comparing}
use Rattle.custody.proofs.open_custody.OpenCustody.give_up.Goals as goal

pub returns-in-Writing : goal.returns-in-Writing
returns-in-Writing g c = λ s sent taking within.
    let new : OpenCustody g.row.V.Denot g.row.S.Denot g.V.Volume = record { vault = c.abandon.new.self; store = c.args.self.now.store; records = c.args.self.now.records } in
    (given_up g.S.Store s c.args.self.now new c.in-Writing.writing sent (subst (λ i. IsUploading g.S.Store s c.args.self.now i sent) c.in-Writing.is taking) refl refl c.abandon.ensures.volume c.abandon.ensures.given_back, tt)

pub returns-in-Comparing : goal.returns-in-Comparing
returns-in-Comparing g c = λ s sent taking within.
    (stops_comparing g.S.Store s c.args.self.now c.args.self.now c.in-Comparing._comparing sent (subst (λ i. IsUploading g.S.Store s c.args.self.now i sent) c.in-Comparing.is taking).0, tt)

pub returns-in-Answered : goal.returns-in-Answered
returns-in-Answered g c = λ s sent taking within.
    subst (λ closing. RecordsNothing g.S.Store s.start (is_none closing) c.args.self.now × IfSome closing (λ failure. failure ≡ VolumeFailed)) (sym c.closing_failure.ensures)
    (known_rested g.S.Store s c.args.self.now c.args.self.now c.in-Answered.answer sent (subst (λ i. IsUploading g.S.Store s c.args.self.now i sent) c.in-Answered.is taking) within)
