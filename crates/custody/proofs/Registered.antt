-- A new registry, as one change of the records.
use Rattle.std.proofs.Common.{◌≡◌, ℕ, List, [], None, false, refl}
use Rattle.std.specs.FinMap.{get}
use Rattle.sqlite.specs.Store.{Ghosts}
use Rattle.sqlite.specs.Held as database_of
use Rattle.vault_volume.specs.declared.volume.Volume as volume
use Rattle.vault_volume.specs.Vault.{volume_of, IsFree}
use Rattle.custody_records.specs.declared.records.Records as held
use Rattle.custody_records.specs.Records.{with_registry}
use Rattle.custody_machine.specs.Machine.{Register, OfRegistry}
use Rattle.custody_machine.proofs.Composed.{register_adds, registry_changes, registry_in_order}
use Rattle.custody.specs.declared.open_custody.OpenCustody.{OpenCustody}
use Rattle.custody.specs.OpenCustody.{current_records, image_of, failures_of, KeepsOrder}
use Rattle.custody.proofs.Done.{GoesOn, volume_stays}

pub registry_change : {V S : Type 0} {g : volume.Ghosts V} (database : Ghosts S) (old : OpenCustody V S g) (order : KeepsOrder old) (tld : List ℕ) (day now : ℕ) → get (current_records old).registries tld ≡ None → (store : database_of.Held S) (r : held.Records)
    → GoesOn database old order (Register tld day) now (record { vault = old.vault; store = store; records = r }) (with_registry (current_records old) tld day) (record { entry = OfRegistry tld day; is_repeat = false }) (IsFree old.vault)
registry_change {g = g} database old order tld day now new store r =
    volume_stays database old order (Register tld day) now store r (with_registry (current_records old) tld day) (record { entry = OfRegistry tld day; is_repeat = false })
    (registry_in_order (current_records old) [] (g.size (volume_of old.vault)) (failures_of old) (failures_of old) (IsFree old.vault) (IsFree old.vault) order tld day order.count) refl refl
    (register_adds (current_records old) (image_of old) tld day now new)
    (registry_changes (current_records old) (image_of old) (g.size (volume_of old.vault)) (failures_of old) 0 (IsFree old.vault) (IsFree old.vault) order tld day) (λ v. record { head = v.head; size = v.size })
