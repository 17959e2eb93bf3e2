-- A release, as one change of the records.
use Rattle.std.proofs.Common.{◌≡◌, ℕ, List, [], None, false, inl, refl, Err}
use Rattle.std.specs.FinMap.{get}
use Rattle.sqlite.specs.Store.{Ghosts}
use Rattle.sqlite.specs.Held as database_of
use Rattle.vault_volume.specs.declared.volume.Volume as volume
use Rattle.vault_volume.specs.Vault.{volume_of, IsFree}
use Rattle.desk.specs.declared.grounds.Ground.{Ground}
use Rattle.custody_records.specs.declared.records.Records as held
use Rattle.custody_records.specs.MemoryRecords.{records_of}
use Rattle.custody_records.specs.Form.{form_of, InForm}
use Rattle.custody_records.specs.Records as recorded_in
use Rattle.custody_records.specs.Records.{Records, with_release}
use Rattle.custody_records.specs.Rows.{Rows, with_handover_row}
use Rattle.custody_records.specs.RowsOfRecords.{IsRelease, row_of_release}
use Rattle.custody_records.proofs.FormLemmas.{release_inserted}
use Rattle.custody_records.proofs.ReadBack.{release_read_back}
use Rattle.custody_machine.specs.declared.answers.Failure.TheVariants.{NoMemory}
use Rattle.custody_machine.specs.Machine.{Release, OfRelease}
use Rattle.custody_machine.specs.Releases.{AreRecordedNames, held_record_names, release_of_records}
use Rattle.custody_machine.specs.Rulings.{AddsRelease, GoRuling, Decides}
use Rattle.custody_machine.proofs.HandedOver.{release_accepted, release_changes, release_in_order, release_known}
use Rattle.custody.specs.declared.answers.Refused.TheVariants as refused
use Rattle.custody.specs.declared.open_custody.OpenCustody.{OpenCustody}
use Rattle.custody.specs.OpenCustody.{current_records, image_of, failures_of, KeepsOrder, HasExecuted}
use Rattle.custody.proofs.Done.{GoesOn, no_memory_done, volume_stays}

-- what its row says
pub release_means : (records : Records) (reference : List ℕ) (release : recorded_in.Release) → IsRelease reference release → get records.releases reference ≡ None → (rows : Rows) → form_of rows ≡ InForm records → form_of (with_handover_row (row_of_release reference release) rows) ≡ InForm (with_release records reference release)
release_means records reference release in_form new rows is = release_inserted rows records is (row_of_release reference release) reference release (release_read_back reference release in_form) new

module _ {V S : Type 0} {g : volume.Ghosts V} (database : Ghosts S) (old : OpenCustody V S g) (order : KeepsOrder old) (reference tld : List ℕ) (reason : Ground) (now : ℕ)
    (d : Decides (GoRuling (AddsRelease reference tld reason)) (current_records old) (Release reference tld reason) now) where
  -- there is no memory for it
  pub unlisted_done : (r : held.Records) → records_of r ≡ current_records old → HasExecuted database old (Release reference tld reason) now (Err (refused.Failure NoMemory)) (record { vault = old.vault; store = old.store; records = r })
  unlisted_done r same = no_memory_done database old order (Release reference tld reason) now r same _ _ (d.1 (image_of old)) (GoRuling (AddsRelease reference tld reason), d, inl refl)

  pub release_change : AreRecordedNames (current_records old) tld (held_record_names (current_records old) tld) → (store : database_of.Held S) (r : held.Records)
      → GoesOn database old order (Release reference tld reason) now (record { vault = old.vault; store = store; records = r }) (with_release (current_records old) reference (release_of_records (current_records old) tld reason now))
      (record { entry = OfRelease reference (release_of_records (current_records old) tld reason now); is_repeat = false }) (IsFree old.vault)
  release_change names store r =
      let known = release_known (current_records old) [] reference tld reason now d in
      let release = release_of_records (current_records old) tld reason now in
      volume_stays database old order (Release reference tld reason) now store r (with_release (current_records old) reference release)
      (record { entry = OfRelease reference release; is_repeat = false })
      (release_in_order (current_records old) order.whole reference release known names [] (g.size (volume_of old.vault)) (failures_of old) (failures_of old) (IsFree old.vault) order order.count) refl refl
      (release_accepted (current_records old) (image_of old) reference tld reason now d)
      (release_changes (current_records old) order.whole reference release known names (image_of old) (g.size (volume_of old.vault)) (failures_of old) (failures_of old) (IsFree old.vault) order)
      (λ kept. record { head = kept.head; size = kept.size })
