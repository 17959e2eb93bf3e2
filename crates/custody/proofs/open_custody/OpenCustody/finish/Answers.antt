use Rattle.std.proofs.Common.{ℕ, [], refl, sym, subst, append-nil, Err}
use Rattle.custody_machine.specs.Machine.{Receive}
use Rattle.custody_machine.specs.Rulings.{AddsPart, GoRuling, Decides}
use Rattle.custody_machine.specs.declared.answers.Failure.TheVariants.{VolumeFailed}
use Rattle.custody.specs.declared.open_custody.OpenCustody.{OpenCustody}
use Rattle.custody.specs.declared.answers.Refused.TheVariants as refused
use Rattle.custody.specs.OpenCustody.{current_records, HasExecuted}
use Rattle.custody.proofs.Uploads.{synced_fails, written_staged}
use Rattle.custody.proofs.open_custody.OpenCustody.finish.Goals as goal

pub returns-in_default : goal.returns-in_default
returns-in_default g c = λ s body is full now.
    let new : OpenCustody g.row.V.Denot g.row.S.Denot g.V.Volume = record { vault = c.finish.new.self; store = c.args.self.now.store; records = c.args.self.now.records } in
    let h = c.in_default.ensures in
    subst (λ (n : ℕ). HasExecuted g.S.Store s.start (Receive s.text body) n (Err (refused.Failure VolumeFailed)) new) now
    ((synced_fails g.S.Store s c.args.self.now new c.args.writing body is refl refl h.given_back h.failures h.image h.any_moment).done body (full, [], sym (append-nil body)))

pub returns : goal.returns
returns g c = λ s body is full now.
    let mid : OpenCustody g.row.V.Denot g.row.S.Denot g.V.Volume = record { vault = c.finish.new.self; store = c.args.self.now.store; records = c.args.self.now.records } in
    let h = c.in-Ok.ensures in
    c.keep_staged.ensures s.start s.text body is.order (subst (λ (n : ℕ). Decides (GoRuling (AddsPart c.args.writing.name)) (current_records s.start) (Receive s.text body) n) now (is.decides body full))
    (written_staged g.S.Store s c.args.self.now mid c.args.writing body c.in-Ok.staged is full (h.part body is.written.taken) h.extents refl refl h.used h.size h.failures h.image h.settled h.any_moment)
