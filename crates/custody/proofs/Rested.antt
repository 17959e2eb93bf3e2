-- A call that only reads, to an open custody.
use Rattle.std.proofs.Common.{◌≡◌, ◌<◌, Bool, true, false, sym, subst}
use Rattle.sqlite.specs.Store.{Ghosts}
use Rattle.vault_volume.specs.declared.volume.Volume as volume
use Rattle.vault_volume.specs.Vault.{volume_of, IsFree}
use Rattle.vault_volume.specs.Disk.{LeavesOnly}
use Rattle.vault_volume.specs.Extents.{SameFree}
use Rattle.vault_volume.specs.Image.{DiffersOnlyIn}
use Rattle.vault_volume.proofs.ImageLemmas.{same_in}
use Rattle.custody_machine.proofs.Compared.{now_of}
use Rattle.custody.specs.declared.open_custody.OpenCustody.{OpenCustody}
use Rattle.custody.specs.OpenCustody.{current_records, image_of, failures_of, KeepsOrder, KeepsImage, IsUnwritten}
use Rattle.custody.specs.OtherCalls.{RecordsNothing}
use Rattle.custody.proofs.Ended.{rested}
use Rattle.custody.proofs.OpenCustodyLemmas.{leaves_more, order_same, image_same}

module _ {V S : Type 0} {g : volume.Ghosts V} (database : Ghosts S) (old new : OpenCustody V S g) (order : KeepsOrder old) (same : current_records new ≡ current_records old) (store_same : new.store ≡ old.store) (free : SameFree (IsFree old.vault) (IsFree new.vault))
    (size : g.size (volume_of new.vault) ≡ g.size (volume_of old.vault)) (unwritten : g.tells → IsUnwritten old new) where
  pub reads_rested : (is_open : Bool) → (is_open ≡ false → failures_of old < failures_of new) → (is_open ≡ true → failures_of new ≡ failures_of old) → RecordsNothing database old is_open new
  reads_rested is_open failed not_failed = rested database old new order same store_same
      (λ tells. subst (DiffersOnlyIn (IsFree old.vault) (image_of old)) (sym (unwritten tells).0) (same_in (IsFree old.vault) (image_of old))) leaves
      is_open failed not_failed (λ stays. order_same old new same free size (not_failed stays) order)
      (λ _ tells volume. image_same old new same free (unwritten tells).0 (now_of g.moment g.left_at (volume_of old.vault) (volume_of new.vault) _ (leaves tells volume)) volume)
    where
      leaves : g.tells → KeepsImage old → LeavesOnly g.moment g.left_at (volume_of old.vault) (volume_of new.vault) (DiffersOnlyIn (IsFree old.vault) (image_of old))
      leaves tells volume = leaves_more g.moment g.left_at (volume_of old.vault) (volume_of new.vault) _ _ volume.elsewhere (unwritten tells).1
