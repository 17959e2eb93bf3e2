use Rattle.std.proofs.Common.{◌∙◌, sym, ap, [], length}
use Rattle.vault_volume.specs.Extents.{part_bytes}
use Rattle.vault_volume.specs.Vault.{volume_of}
use Rattle.custody.specs.OpenCustody.{image_of}
use Rattle.custody.proofs.Uploads.{comparing_held, long_part}
use Rattle.custody.proofs.open_custody.OpenCustody.open_comparing.Goals as goal

pub returns-else-comparing-len : goal.returns-else-comparing-len
returns-else-comparing-len g c = λ s is sized.
    let it = c.args.comparing in
    c.answer_other_bytes.ensures s [] [] is (λ tells body comes alike.
    let held = comparing_held g.S.Store s c.args.self.now it [] is in
    let whole = long_part (image_of c.args.self.now) (g.V.Volume.size (volume_of c.args.self.now.vault)) it.extents.items it.len (g.met.V.Volume.image_length (volume_of c.args.self.now.vault) tells) held in
    let same = ap (λ j. part_bytes j it.extents.items it.len) (is.read.image tells) ∙ alike in
    c.if-comparing-len.false (sym whole ∙ ap length same ∙ comes.0 ∙ sized))
