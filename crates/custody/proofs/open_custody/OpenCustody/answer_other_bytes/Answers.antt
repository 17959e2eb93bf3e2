use Rattle.std.proofs.Common.{◌≡◌, List, ℕ, refl, sym, ◌∙◌, ap, subst}
use Rattle.std.proofs.lemmas.Slice.Eq.{bytes_eq-Decides}
use Rattle.extent_map.specs.declared.extent.Extent.{Extent}
use Rattle.sha2.specs.Sha256.{sha256}
use Rattle.vault_volume.specs.Extents.{part_bytes}
use Rattle.vault_volume.specs.Vault.{volume_of}
use Rattle.custody_machine.specs.StoredState.{AreExtents}
use Rattle.custody.specs.declared.open_custody.OpenCustody.{OpenCustody}
use Rattle.custody.specs.OpenCustody.{image_of}
use Rattle.custody.proofs.Uploads.{compared_fails, comparing_held, told_broken, told_other}
use Rattle.custody.proofs.open_custody.OpenCustody.answer_other_bytes.Goals as goal

pub digest_part-requires-clause-held : goal.digest_part-requires-clause-held
digest_part-requires-clause-held g c =
    subst (λ (es : List Extent). AreExtents (g.V.Volume.size (volume_of c.args.self.now.vault)) c.args.comparing.len es) (sym c.deref.ensures.value)
    (comparing_held g.S.Store c.requires.0 c.args.self.now c.args.comparing c.requires.1 c.requires.2)

pub returns-in_default : goal.returns-in_default
returns-in_default g c = λ s came sent is differs.
    let new : OpenCustody g.row.V.Denot g.row.S.Denot g.V.Volume = record { vault = c.digest_part.new.vault; store = c.args.self.now.store; records = c.args.self.now.records } in
    let h = c.in_default.ensures in
    compared_fails g.S.Store s c.args.self.now new c.args.comparing came sent is refl refl h.read h.failures

pub returns-then-eq : goal.returns-then-eq
returns-then-eq g c = λ s came sent is differs.
    let new : OpenCustody g.row.V.Denot g.row.S.Denot g.V.Volume = record { vault = c.digest_part.new.vault; store = c.args.self.now.store; records = c.args.self.now.records } in
    let it = c.args.comparing in
    let h = c.in-Ok.ensures in
    told_other g.S.Store s c.args.self.now new it came sent is refl refl h.read h.failures differs
    (λ tells. ap (λ (j : List ℕ). sha256 (part_bytes j it.extents.items it.len)) (sym (is.read.image tells)) ∙ ap (λ (es : List Extent). sha256 (part_bytes (image_of c.args.self.now) es it.len)) (sym c.deref.ensures.value) ∙ sym (h.digest tells)
    ∙ (bytes_eq-Decides c.in-Ok.digest it.digest).0 (sym c.eq.ensures ∙ c.if-eq.true))

pub returns : goal.returns
returns g c = λ s came sent is differs.
    let new : OpenCustody g.row.V.Denot g.row.S.Denot g.V.Volume = record { vault = c.digest_part.new.vault; store = c.args.self.now.store; records = c.args.self.now.records } in
    let it = c.args.comparing in
    let h = c.in-Ok.ensures in
    told_broken g.S.Store s c.args.self.now new it came sent is refl refl h.read h.failures differs
    (λ tells same.
    let found : c.in-Ok.digest ≡ it.digest = h.digest tells ∙ ap (λ (es : List Extent). sha256 (part_bytes (image_of c.args.self.now) es it.len)) c.deref.ensures.value ∙ ap (λ (j : List ℕ). sha256 (part_bytes j it.extents.items it.len)) (is.read.image tells) ∙ same in
    let clash = (bytes_eq-Decides c.in-Ok.digest it.digest).1 found in
    let no = c.eq.ensures in
    let false_is = c.if-eq.false in
    cc)
