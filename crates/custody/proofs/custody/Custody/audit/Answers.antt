use Rattle.std.proofs.Common.{sym, refl}
use Rattle.custody.proofs.Audits.{audited, audit_unnamed, audit_failed}
use Rattle.custody.proofs.custody.Custody.audit.Goals as goal

pub returns-in-Ok : goal.returns-in-Ok
returns-in-Ok g c =
    let found = c.in-Ok.ensures in
    audited c.args.self.now _ (sym c.if-not-is_open.ensures) refl refl found.read c.in-Ok.damaged.items (sym c.if-not-is_open.ensures) found.held found.damaged found.failures

pub returns-in-Err-NoMemory : goal.returns-in-Err-NoMemory
returns-in-Err-NoMemory g c =
    let found = c.in-Err-NoMemory.ensures in
    audit_unnamed c.args.self.now _ (sym c.if-not-is_open.ensures) refl refl found.read c.in-Err-NoMemory.field-0 c.in-Err-NoMemory.field-0-is found.failures (sym c.if-not-is_open.ensures)

pub returns-in-Err-VolumeFailed : goal.returns-in-Err-VolumeFailed
returns-in-Err-VolumeFailed g c =
    let found = c.in-Err-VolumeFailed.ensures in
    audit_failed c.args.self.now _ (sym c.if-not-is_open.ensures) refl refl found.read c.in-Err-VolumeFailed.field-0 c.in-Err-VolumeFailed.field-0-is found.failures refl
