-- The absence of a day, as one change of the records.
use Rattle.std.proofs.Common.{◌≡◌, ℕ, List, [], false, inl, refl, Err}
use Rattle.sqlite.specs.Store.{Ghosts}
use Rattle.sqlite.specs.Held as database_of
use Rattle.vault_volume.specs.declared.volume.Volume as volume
use Rattle.vault_volume.specs.Vault.{volume_of, IsFree}
use Rattle.custody_records.specs.declared.records.Records as held
use Rattle.custody_records.specs.MemoryRecords.{records_of}
use Rattle.custody_records.specs.Records.{with_notice}
use Rattle.custody_machine.specs.declared.answers.Failure.TheVariants.{NoMemory}
use Rattle.custody_machine.specs.Machine.{Check, OfNotice, absence_notice, next_key}
use Rattle.custody_machine.specs.Rulings.{AddsAbsence, GoRuling, Decides}
use Rattle.custody_machine.proofs.Noticed.{absence_accepted, absence_belongs, notice_changes, notice_in_order}
use Rattle.custody.specs.declared.answers.Refused.TheVariants as refused
use Rattle.custody.specs.declared.open_custody.OpenCustody.{OpenCustody}
use Rattle.custody.specs.OpenCustody.{current_records, image_of, failures_of, KeepsOrder, HasExecuted}
use Rattle.custody.proofs.Done.{GoesOn, no_memory_done, volume_stays}

module _ {V S : Type 0} {g : volume.Ghosts V} (database : Ghosts S) (old : OpenCustody V S g) (order : KeepsOrder old) (tld : List ℕ) (day now : ℕ) (d : Decides (GoRuling (AddsAbsence tld day)) (current_records old) (Check tld day) now) where
  -- there is no memory for one more notice
  pub unreserved_done : (r : held.Records) → records_of r ≡ current_records old → HasExecuted database old (Check tld day) now (Err (refused.Failure NoMemory)) (record { vault = old.vault; store = old.store; records = r })
  unreserved_done r same = no_memory_done database old order (Check tld day) now r same _ _ (d.1 (image_of old)) (GoRuling (AddsAbsence tld day), d, inl refl)

  pub absence_change : (store : database_of.Held S) (r : held.Records)
      → GoesOn database old order (Check tld day) now (record { vault = old.vault; store = store; records = r }) (with_notice (current_records old) (next_key (current_records old).notices tld) (absence_notice day now))
      (record { entry = OfNotice (next_key (current_records old).notices tld) (absence_notice day now); is_repeat = false }) (IsFree old.vault)
  absence_change store r =
      volume_stays database old order (Check tld day) now store r (with_notice (current_records old) (next_key (current_records old).notices tld) (absence_notice day now))
      (record { entry = OfNotice (next_key (current_records old).notices tld) (absence_notice day now); is_repeat = false })
      (notice_in_order (current_records old) order.whole tld (absence_notice day now) (absence_belongs (current_records old) [] tld day now d) [] (g.size (volume_of old.vault)) (failures_of old) (failures_of old) (IsFree old.vault) order order.count) refl refl
      (absence_accepted (current_records old) (image_of old) tld day now d)
      (notice_changes (current_records old) order.whole tld (absence_notice day now) (absence_belongs (current_records old) (image_of old) tld day now d) (image_of old) (g.size (volume_of old.vault)) (failures_of old) 0 (IsFree old.vault) order)
      (λ v. record { head = v.head; size = v.size })
