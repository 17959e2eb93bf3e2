-- Bytes that are dropped, as one change of the records.
use Rattle.std.proofs.Common.{◌≡◌, ℕ, List, [], ◌∷◌, Option, Some, None, false, cond, inl, inr, refl, sym, ◌∙◌, ap, subst, Err}
use Rattle.std.specs.Option.{option_map}
use Rattle.std.specs.FinMap.{FinMap, get, same_map}
use Rattle.std.specs.Prelude.{All}
use Rattle.std.proofs.lemmas.List.Elements.{All-nil, All-cons, All-head, All-tail}
use Rattle.schedule.specs.Schedule.{day_of}
use Rattle.sqlite.specs.Store.{Ghosts}
use Rattle.sqlite.specs.Held as database_of
use Rattle.extent_map.specs.declared.extent.Extent.{Extent}
use Rattle.vault_volume.specs.declared.volume.Volume as volume
use Rattle.vault_volume.specs.declared.vault.Vault.{Vault}
use Rattle.vault_volume.specs.Vault.{volume_of, IsFree}
use Rattle.vault_volume.specs.Disk.{LeavesOnly}
use Rattle.vault_volume.specs.Extents.{AreUsed, GivesBack, IsExtentOf, IsInAny, IsUsed}
use Rattle.vault_volume.specs.Image.{DiffersOnlyIn}
use Rattle.vault_volume.proofs.ImageLemmas.{same_in}
use Rattle.vault_volume.proofs.Moments.{nothing_yet}
use Rattle.custody_records.specs.declared.records.Records as held
use Rattle.custody_records.specs.Keys.{PartKey, part_cmp}
use Rattle.custody_records.specs.inside.Orders.{part_exact, part_total}
use Rattle.custody_records.specs.Purge.{dropped_if_among, dropped_if_due, record_without_bytes}
use Rattle.custody_records.specs.Records.{PartRecord, Records}
use Rattle.custody_machine.specs.declared.answers.Failure.TheVariants.{NoMemory}
use Rattle.custody_machine.specs.Machine as machine
use Rattle.custody_machine.specs.Machine.{Purge, OfPurge, Accept, step}
use Rattle.custody_machine.specs.StoredState.{AreWholeOnVolume, IsVolumeOf, state_in}
use Rattle.custody_machine.specs.MapValues.{map_keyed}
use Rattle.custody_machine.specs.Purge.{IsDueBlock, count_due_records, due_keys, records_without_due}
use Rattle.custody_machine.specs.Custody.{IsInOrder}
use Rattle.custody_machine.specs.Rulings.{DropsBytes, GoRuling, Decides}
use Rattle.custody_machine.proofs.MapValues.{get-map_keyed}
use Rattle.custody_machine.proofs.Composed.{IsChange, nothing_in}
use Rattle.custody_machine.proofs.DueKeys.{among_due}
use Rattle.custody_machine.proofs.Purged.{due_used, purged_in_order, purge_accepted, purge_changes}
use Rattle.custody.specs.declared.answers.Refused.TheVariants as refused
use Rattle.custody.specs.declared.open_custody.OpenCustody.{OpenCustody}
use Rattle.custody.specs.OpenCustody.{current_records, image_of, failures_of, MayLeaveImage, KeepsImage, KeepsOrder, HasExecuted}
use Rattle.custody.proofs.OpenCustodyLemmas.{stays_still}
use Rattle.custody.proofs.Done.{IsOneChange, GoesOn, no_memory_done}

-- the records where the bytes of the parts that are due were dropped by their keys
pub dropped_records : (today : ℕ) (records : Records) (parts : FinMap part_cmp PartRecord) → ((key : PartKey) → get parts key ≡ option_map (dropped_if_among (due_keys today records) key) (get records.parts key))
    → record records { parts = parts } ≡ records_without_due today records
dropped_records today records parts dropped =
    ap (λ m. record records { parts = m }) (same_map part_total part_exact parts (map_keyed (dropped_if_due records.holds today) records.parts)
    (λ key. dropped key ∙ by key (get records.parts key) refl ∙ sym (get-map_keyed part_cmp part_exact (dropped_if_due records.holds today) records.parts key)))
  where
    by : (key : PartKey) (there : Option PartRecord) → get records.parts key ≡ there → option_map (dropped_if_among (due_keys today records) key) there ≡ option_map (dropped_if_due records.holds today key) there
    by key None at = refl
    by key (Some part) at = ap (λ b. Some (cond b (record_without_bytes part) part)) (among_due today records key part at)

module _ {V S : Type 0} {g : volume.Ghosts V} (database : Ghosts S) (old : OpenCustody V S g) (order : KeepsOrder old) (now : ℕ) (d : Decides (GoRuling DropsBytes) (current_records old) Purge now) where
  abbrev pub records_then : Records
  records_then = records_without_due (day_of now) (current_records old)

  abbrev pub reply_then : machine.Reply
  reply_then = record { entry = OfPurge (count_due_records (day_of now) (current_records old)); is_repeat = false }

  -- there is no memory for the extents that are due
  pub unlisted_done : HasExecuted database old Purge now (Err (refused.Failure NoMemory)) old
  unlisted_done = no_memory_done database old order Purge now old.records refl _ _ (d.1 (image_of old)) (GoRuling DropsBytes, d, inl refl)

  good_of : KeepsImage old → AreWholeOnVolume (current_records old) (image_of old)
  good_of kept = record { whole = order.whole; volume = kept.volume }

  -- The volume is not called. Until the blocks are given back, a stop leaves all but those that were free.
  pub purge_change : (vault : Vault V g) (same : volume_of vault ≡ volume_of old.vault) (store : database_of.Held S) (r : held.Records)
      → IsOneChange database old order Purge now (record { vault = vault; store = store; records = r }) records_then reply_then (IsFree old.vault)
  purge_change vault same store r = record {
    uncalled = λ _. same;
    reads_only = λ _ _. subst (λ v. (g.image v ≡ image_of old) × LeavesOnly g.moment g.left_at (volume_of old.vault) v (MayLeaveImage old)) (sym same) (refl, stays_still g.moment g.left_at (volume_of old.vault));
    failures = ap g.failures same;
    first = refl;
    written = λ _. subst (λ v. DiffersOnlyIn (IsFree old.vault) (image_of old) (g.image v)) (sym same) (same_in (IsFree old.vault) (image_of old));
    accepted = λ _ kept. subst (λ v. step (state_in (current_records old) (image_of old)) Purge now ≡ Accept reply_then (state_in records_then (g.image v))) (sym same) (purge_accepted (current_records old) (image_of old) (good_of kept) now d);
    rests = λ _ _ key within. absurd (nothing_in _ key refl within);
    change = λ _ _ good. subst (λ v. IsChange (current_records old) (image_of old) (IsFree old.vault) records_then (g.image v) (IsFree old.vault)) (sym same)
        (purge_changes (current_records old) (image_of old) good now d (g.size (volume_of old.vault)) (failures_of old) (IsFree old.vault) order);
    volume = λ _ kept. subst (λ v. IsVolumeOf records_then (g.image v)) (sym same) (record { head = kept.volume.head; size = kept.volume.size });
    any_moment = λ _ kept. subst (λ v. LeavesOnly g.moment g.left_at (volume_of old.vault) v (DiffersOnlyIn (IsFree old.vault) (image_of old))) (sym same)
        (nothing_yet g.moment g.left_at (volume_of old.vault) _ kept.elsewhere);
    after = λ _ kept. subst (λ v. (j : List ℕ) → g.left_at v (g.moment v) j → DiffersOnlyIn (IsFree old.vault) (g.image v) j) (sym same) kept.elsewhere;
  }

  module _ (due : List Extent) (exact : (b : ℕ) → (IsInAny due b → IsDueBlock (day_of now) (current_records old) b) × (IsDueBlock (day_of now) (current_records old) b → IsInAny due b)) where
    -- none of the blocks that are due is free
    pub due_are_used : All (IsExtentOf (current_records old).blocks) due → AreUsed (g.size (volume_of old.vault)) (IsFree old.vault) due
    due_are_used range = used_in due (subst (λ n. All (IsExtentOf n) due) (sym order.blocks) range)
        (λ b. due_used (day_of now) (current_records old) (g.size (volume_of old.vault)) (failures_of old) (IsFree old.vault) order due exact b)
      where
        used_in : (es : List Extent) → All (IsExtentOf (g.size (volume_of old.vault))) es → ((b : ℕ) → IsInAny es b → ¬ IsFree old.vault b) → AreUsed (g.size (volume_of old.vault)) (IsFree old.vault) es
        used_in [] range out = All-nil (IsUsed (g.size (volume_of old.vault)) (IsFree old.vault))
        used_in (e ∷ es) range out = All-cons (IsUsed (g.size (volume_of old.vault)) (IsFree old.vault)) e es
            (All-head (IsExtentOf (g.size (volume_of old.vault))) e es range, λ b within. out b (inl within))
            (used_in es (All-tail (IsExtentOf (g.size (volume_of old.vault))) e es range) (λ b within. out b (inr within)))

    -- and it goes on, where these are given back
    pub purge_goes_on : (vault : Vault V g) (same : volume_of vault ≡ volume_of old.vault) (store : database_of.Held S) (r : held.Records) → GivesBack (IsFree old.vault) due (IsFree vault)
        → GoesOn database old order Purge now (record { vault = vault; store = store; records = r }) records_then reply_then (IsFree old.vault)
    purge_goes_on vault same store r gives = record {
      change = purge_change vault same store r;
      in_order = subst (λ v. IsInOrder records_then (g.size v) (g.failures v) (IsFree vault)) (sym same)
          (purged_in_order (day_of now) (current_records old) (g.size (volume_of old.vault)) (failures_of old) (IsFree old.vault) order due exact (IsFree vault) gives);
      fewer = λ b f. (gives b).1 (inl f);
    }
