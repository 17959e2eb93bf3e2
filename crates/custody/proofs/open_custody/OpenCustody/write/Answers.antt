use Rattle.std.proofs.Common.{◌≡◌, List, ◌++◌, ◌+◌, refl, sym, subst}
use Rattle.extent_map.specs.declared.extent.Extent.{Extent}
use Rattle.vault_volume.specs.Disk.{ChangedIn, LeavesOnly}
use Rattle.vault_volume.specs.Extents.{GivesBack, IsInAny}
use Rattle.vault_volume.specs.Image.{DiffersOnlyIn}
use Rattle.vault_volume.specs.Opened.{extents_of, HasPushed}
use Rattle.vault_volume.specs.Vault.{volume_of, IsFree}
use Rattle.custody.specs.declared.open_custody.OpenCustody.{OpenCustody}
use Rattle.custody.specs.OpenCustody.{image_of, MayLeaveImage}
use Rattle.custody.proofs.Uploads.{freed, none_failed, one_failed, pushed, written_fails}
use Rattle.custody.proofs.OpenCustodyLemmas.{on_ok}
use Rattle.custody.proofs.open_custody.OpenCustody.write.Goals as goal

pub returns-then-is_err : goal.returns-then-is_err
returns-then-is_err g c = λ s sent is within.
    let before = c.args.self.now in
    let w = c.args.writing in
    let new : OpenCustody g.row.V.Denot g.row.S.Denot g.V.Volume = record { vault = c.abandon.new.self; store = before.store; records = before.records } in
    let h = c.push.ensures in
    let volume = c.abandon.ensures.volume in
    written_fails g.S.Store s before new w sent (sent ++ c.args.bytes.now) is refl refl
    (freed s.start.vault before.vault new.vault s.len w.opened sent is.written c.push.new.self h.free (subst (λ (l : List Extent). GivesBack (IsFree c.push.new.self) l (IsFree new.vault)) h.same.0 c.abandon.ensures.given_back))
    (subst (λ v. g.V.Volume.failures v ≡ g.V.Volume.failures (volume_of before.vault) + 1) (sym volume) (one_failed c.push.result c.is_err.result _ _ c.is_err.ensures.value c.if-is_err.true h.failures))
    (λ tells. subst (λ v. DiffersOnlyIn (IsInAny (extents_of w.opened)) (image_of before) (g.V.Volume.image v)) (sym volume) (h.image tells))
    (λ tells. subst (λ v. LeavesOnly g.V.Volume.moment g.V.Volume.left_at (volume_of before.vault) v (ChangedIn (IsInAny (extents_of w.opened)) (image_of before) (MayLeaveImage before))) (sym volume) (h.any_moment tells))

pub returns : goal.returns
returns g c = λ s sent is within.
    let before = c.args.self.now in
    let w = c.args.writing in
    let bytes = c.args.bytes.now in
    let h = c.push.ensures in
    record {
      order = is.order;
      decides = is.decides;
      records = is.records;
      store = is.store;
      room = is.room;
      empty = is.empty;
      extents = is.extents;
      written = pushed s.start.vault before.vault c.push.new.self s.len w.opened sent is.written h.image h.any_moment c.push.new.opened bytes h.same.0 h.same.1 h.opened h.free
          (on_ok (HasPushed c.push.new.opened (sent ++ bytes)) c.push.result c.is_err.result c.is_err.ensures.value c.if-is_err.false (h.taken sent is.written.taken)) h.size
          (none_failed c.push.result c.is_err.result _ _ c.is_err.ensures.value c.if-is_err.false h.failures)
          (λ tells. on_ok _ c.push.result c.is_err.result c.is_err.ensures.value c.if-is_err.false (h.bytes tells));
    }
