-- A new hold, and the lifting of one, as one change of the records: what one tells that is accepted and no repeat, and that records belong together with it.
use Rattle.std.proofs.Common.{◌≡◌, ℕ, ◌-◌, ◌<◌, ◌^◌, List, true, false, ◌∙◌, ap, is_some}
use Rattle.std.specs.FinMap.{get, insert}
use Rattle.custody_records.specs.inside.Orders.{text_exact, text_total}
use Rattle.custody_records.specs.Records as recorded_in
use Rattle.custody_records.specs.Records.{Records, lifted_at, new_hold}
use Rattle.custody_machine.specs.Machine.{Hold, Lift, OfHold, OfLifting, Accept, lift_step, step}
use Rattle.custody_machine.specs.StoredState.{AreWhole, AreWholeOnVolume, state_in}
use Rattle.custody_machine.specs.Rulings.{AddsHold, LiftsHold, GoRuling, Decides}
use Rattle.custody_machine.specs.Custody.{IsInOrder}
use Rattle.custody_machine.proofs.Options.{is_there}
use Rattle.custody_machine.proofs.Accepting.{inserted, step_accepts}
use Rattle.custody_machine.proofs.Holding.{none_stand_to}
use Rattle.custody_machine.proofs.Stored.{whole-beside}
use Rattle.custody_machine.proofs.Composed.{IsChange, tables_change, tables_in_order}

-- ---- a hold in the records

module _ (records : Records) (whole : AreWhole records) (reference : List ℕ) (hold : recorded_in.Hold) (known : is_some (get records.registries hold.tld) ≡ true) where
  pub whole-with_hold : AreWhole (recorded_in.with_hold records reference hold)
  whole-with_hold = let l = whole.linked in
      whole-beside records records.registries records.releases (insert records.holds reference hold) whole (λ tld h. h) (λ q r at. (l.release_registry q r at, l.released q r at))
      (inserted text_total text_exact records.holds reference hold (λ _ h. is_some (get records.registries h.tld) ≡ true) known l.hold_registry)

  module _ (i : List ℕ) (size failures failures_then : ℕ) (free : ℕ → Type 0) (order : IsInOrder records size failures free) where
    pub hold_changes : AreWholeOnVolume records i → IsChange records i free (recorded_in.with_hold records reference hold) i free
    hold_changes = tables_change records records.registries records.notices records.releases (insert records.holds reference hold) i size failures free order whole-with_hold

    pub hold_in_order : failures_then < 2 ^ 64 - 1 → IsInOrder (recorded_in.with_hold records reference hold) size failures_then free
    hold_in_order = tables_in_order records records.registries records.notices records.releases (insert records.holds reference hold) i size failures free order whole-with_hold failures_then

-- ---- a hold that is made

module _ (records : Records) (i : List ℕ) (reference tld : List ℕ) (day now : ℕ) (d : Decides (GoRuling (AddsHold reference tld day)) records (Hold reference tld day) now) where
  pub hold_accepted : step (state_in records i) (Hold reference tld day) now
      ≡ Accept (record { entry = OfHold reference (new_hold tld day now); is_repeat = false }) (state_in (recorded_in.with_hold records reference (new_hold tld day now)) i)
  hold_accepted = d.1 i

  -- its registry is known
  pub hold_known : is_some (get records.registries tld) ≡ true
  hold_known = is_there (get records.registries tld) (none_stand_to (state_in records i) reference tld day now (step_accepts (state_in records i) (Hold reference tld day) now _ _ hold_accepted).0).registry

-- ---- a hold that is lifted

module _ (records : Records) (i : List ℕ) (reference : List ℕ) (now : ℕ) (d : Decides (GoRuling (LiftsHold reference)) records (Lift reference) now) where
  pub lift_accepted : step (state_in records i) (Lift reference) now
      ≡ Accept (record { entry = OfLifting reference now; is_repeat = false }) (state_in (recorded_in.with_hold records reference (lifted_at now d.0.1)) i)
  lift_accepted = d.1 i ∙ ap (lift_step (state_in records i) reference now) d.0.2

  -- its registry is known
  pub lift_known : AreWhole records → is_some (get records.registries d.0.1.tld) ≡ true
  lift_known whole = whole.linked.hold_registry reference d.0.1 d.0.2
