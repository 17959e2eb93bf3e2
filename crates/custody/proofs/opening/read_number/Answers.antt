use Rattle.std.proofs.Common.{◌≡◌, subst}
use Rattle.custody_machine.specs.declared.damage.Damage.TheVariants.{Head}
use Rattle.custody_machine.specs.Damage.{IsDamaged}
use Rattle.custody.proofs.Opened.{has_block}
use Rattle.custody.proofs.opening.read_number.Goals as goal

pub returns-in-Ok-None-clause-damaged : goal.returns-in-Ok-None-clause-damaged
returns-in-Ok-None-clause-damaged g c tells damage same rows =
    let image = g.V.Volume.image c.args.volume.now in
    let size = g.V.Volume.size c.args.volume.now in
    let is : Head ≡ damage = cc in
    let none = rw c.in-Ok-None.field-0-is at (c.in-Ok-None.ensures.none tells) in
    subst (λ damage. IsDamaged damage rows image) is (λ number lt head. none number lt (has_block image size number (g.met.V.Volume.image_length c.args.volume.now tells) head) head)
