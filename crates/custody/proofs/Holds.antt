-- A hold, and the lifting of one, as one change of the records.
use Rattle.std.proofs.Common.{◌≡◌, ℕ, List, [], false, inl, refl, Err}
use Rattle.sqlite.specs.Store.{Ghosts}
use Rattle.sqlite.specs.Held as database_of
use Rattle.vault_volume.specs.declared.volume.Volume as volume
use Rattle.vault_volume.specs.Vault.{volume_of, IsFree}
use Rattle.custody_records.specs.declared.records.Records as held
use Rattle.custody_records.specs.MemoryRecords.{records_of}
use Rattle.custody_records.specs.Records.{lifted_at, new_hold, with_hold}
use Rattle.custody_machine.specs.declared.answers.Failure.TheVariants.{NoMemory}
use Rattle.custody_machine.specs.Machine.{Hold, Lift, OfHold, OfLifting}
use Rattle.custody_machine.specs.Rulings.{AddsHold, LiftsHold, GoRuling, Decides}
use Rattle.custody_machine.proofs.HeldDays.{hold_accepted, hold_changes, hold_in_order, hold_known, lift_accepted, lift_known}
use Rattle.custody.specs.declared.answers.Refused.TheVariants as refused
use Rattle.custody.specs.declared.open_custody.OpenCustody.{OpenCustody}
use Rattle.custody.specs.OpenCustody.{current_records, image_of, failures_of, KeepsOrder, HasExecuted}
use Rattle.custody.proofs.Done.{GoesOn, no_memory_done, volume_stays}

module _ {V S : Type 0} {g : volume.Ghosts V} (database : Ghosts S) (old : OpenCustody V S g) (order : KeepsOrder old) (reference : List ℕ) where
  -- ---- a hold that is made

  module _ (tld : List ℕ) (day now : ℕ) (d : Decides (GoRuling (AddsHold reference tld day)) (current_records old) (Hold reference tld day) now) where
    -- there is no memory for it
    pub unreserved_done : (r : held.Records) → records_of r ≡ current_records old → HasExecuted database old (Hold reference tld day) now (Err (refused.Failure NoMemory)) (record { vault = old.vault; store = old.store; records = r })
    unreserved_done r same = no_memory_done database old order (Hold reference tld day) now r same _ _ (hold_accepted (current_records old) (image_of old) reference tld day now d) (GoRuling (AddsHold reference tld day), d, inl refl)

    pub hold_change : (store : database_of.Held S) (r : held.Records)
        → GoesOn database old order (Hold reference tld day) now (record { vault = old.vault; store = store; records = r }) (with_hold (current_records old) reference (new_hold tld day now))
        (record { entry = OfHold reference (new_hold tld day now); is_repeat = false }) (IsFree old.vault)
    hold_change store r =
        let known = hold_known (current_records old) [] reference tld day now d in
        let hold = new_hold tld day now in
        volume_stays database old order (Hold reference tld day) now store r (with_hold (current_records old) reference hold)
        (record { entry = OfHold reference hold; is_repeat = false })
        (hold_in_order (current_records old) order.whole reference hold known [] (g.size (volume_of old.vault)) (failures_of old) (failures_of old) (IsFree old.vault) order order.count) refl refl
        (hold_accepted (current_records old) (image_of old) reference tld day now d)
        (hold_changes (current_records old) order.whole reference hold known (image_of old) (g.size (volume_of old.vault)) (failures_of old) (failures_of old) (IsFree old.vault) order)
        (λ kept. record { head = kept.head; size = kept.size })

  -- ---- a hold that is lifted

  module _ (now : ℕ) (d : Decides (GoRuling (LiftsHold reference)) (current_records old) (Lift reference) now) where
    pub lift_change : (store : database_of.Held S) (r : held.Records)
        → GoesOn database old order (Lift reference) now (record { vault = old.vault; store = store; records = r }) (with_hold (current_records old) reference (lifted_at now d.0.1))
        (record { entry = OfLifting reference now; is_repeat = false }) (IsFree old.vault)
    lift_change store r =
        let known = lift_known (current_records old) [] reference now d order.whole in
        let hold = lifted_at now d.0.1 in
        volume_stays database old order (Lift reference) now store r (with_hold (current_records old) reference hold)
        (record { entry = OfLifting reference now; is_repeat = false })
        (hold_in_order (current_records old) order.whole reference hold known [] (g.size (volume_of old.vault)) (failures_of old) (failures_of old) (IsFree old.vault) order order.count) refl refl
        (lift_accepted (current_records old) (image_of old) reference now d)
        (hold_changes (current_records old) order.whole reference hold known (image_of old) (g.size (volume_of old.vault)) (failures_of old) (failures_of old) (IsFree old.vault) order)
        (λ kept. record { head = kept.head; size = kept.size })
