-- A new release, as one change of the records: what one tells that is accepted and no repeat, and that records belong together with it.
use Rattle.std.specs.Prelude.{bytes_eq}
use Rattle.std.proofs.Common.{◌≡◌, ℕ, ◌-◌, ◌<◌, ◌^◌, List, [], ◌∷◌, Option, Some, None, true, false, not, ◌&&◌, refl, ◌∙◌, ap, is_some, cond}
use Rattle.std.specs.List.{cons_option, filter_map}
use Rattle.std.specs.FinMap.{entries, get, insert}
use Rattle.deposit_name.specs.Name.{name_text}
use Rattle.desk.specs.declared.grounds.Ground.{Ground}
use Rattle.extent_map.specs.declared.extent.Extent.{Extent}
use Rattle.custody_records.specs.Keys.{PartKey, part_cmp}
use Rattle.custody_records.specs.Records.{PartRecord, Records, name_of}
use Rattle.custody_records.specs.Records as recorded_in
use Rattle.custody_records.specs.inside.Orders.{text_exact, text_total}
use Rattle.custody_machine.specs.MapValues.{map_entries}
use Rattle.custody_machine.specs.Machine as machine
use Rattle.custody_machine.specs.Machine.{Release, OfRelease, Accept, step, are_bytes_dropped}
use Rattle.custody_machine.specs.Releases.{AreRecordedNames, held_record_name, release_of_records}
use Rattle.custody_machine.specs.StoredState.{AreWhole, AreWholeOnVolume, content_of, part_of, state_in}
use Rattle.custody_machine.specs.Rulings.{AddsRelease, GoRuling, Decides}
use Rattle.custody_machine.specs.Custody.{IsInOrder}
use Rattle.custody_machine.proofs.MapValues.{entries-map_values}
use Rattle.custody_machine.proofs.Options.{is_there}
use Rattle.custody_machine.proofs.Accepting.{inserted, step_accepts}
use Rattle.custody_machine.proofs.Released.{none_stand_for}
use Rattle.custody_machine.proofs.Stored.{whole-beside}
use Rattle.custody_machine.proofs.Composed.{IsChange, tables_change, tables_in_order}

-- ---- the names, whatever the image

module _ (i : List ℕ) (tld : List ℕ) where
  -- a part is held where it has extents
  is_held : (len : ℕ) (o : Option (List Extent)) → not (are_bytes_dropped (content_of i len o)) ≡ is_some o
  is_held len None = refl
  is_held len (Some extents) = refl

  same_name : (entry : PartKey × PartRecord) → machine.held_name tld (entry.0, part_of i entry.1) ≡ held_record_name tld entry
  same_name entry = ap (λ b. cond (bytes_eq entry.0.tld tld && b) (Some (name_text (name_of entry.0 entry.1.kind))) None) (is_held entry.1.len entry.1.extents)

  same_names : (es : List (PartKey × PartRecord)) → filter_map (machine.held_name tld) (map_entries (part_of i) es) ≡ filter_map (held_record_name tld) es
  same_names [] = refl
  same_names (e ∷ es) = λ j. cons_option (same_name e j) (same_names es j)

-- the release that the state of records makes is theirs
pub release_in : (records : Records) (i tld : List ℕ) (reason : Ground) (now : ℕ) → machine.new_release (state_in records i) tld reason now ≡ release_of_records records tld reason now
release_in records i tld reason now =
    ap (λ names. record { tld = tld; reason = reason; at = now; names = names })
    (ap (filter_map (machine.held_name tld)) (entries-map_values part_cmp (part_of i) records.parts) ∙ same_names i tld (entries records.parts))

-- ---- one release more

module _ (records : Records) (whole : AreWhole records) (reference : List ℕ) (release : recorded_in.Release) (known : is_some (get records.registries release.tld) ≡ true) (names : AreRecordedNames records release.tld release.names) where
  pub whole-with_release : AreWhole (recorded_in.with_release records reference release)
  whole-with_release = let l = whole.linked in
      whole-beside records records.registries (insert records.releases reference release) records.holds whole (λ tld h. h)
      (inserted text_total text_exact records.releases reference release (λ _ r. (is_some (get records.registries r.tld) ≡ true) × AreRecordedNames records r.tld r.names) (known, names)
      (λ q r at. (l.release_registry q r at, l.released q r at))) l.hold_registry

  module _ (i : List ℕ) (size failures failures_then : ℕ) (free : ℕ → Type 0) (order : IsInOrder records size failures free) where
    pub release_changes : AreWholeOnVolume records i → IsChange records i free (recorded_in.with_release records reference release) i free
    release_changes = tables_change records records.registries records.notices (insert records.releases reference release) records.holds i size failures free order whole-with_release

    pub release_in_order : failures_then < 2 ^ 64 - 1 → IsInOrder (recorded_in.with_release records reference release) size failures_then free
    release_in_order = tables_in_order records records.registries records.notices (insert records.releases reference release) records.holds i size failures free order whole-with_release failures_then

-- ---- a release that is made

module _ (records : Records) (i : List ℕ) (reference tld : List ℕ) (reason : Ground) (now : ℕ) (d : Decides (GoRuling (AddsRelease reference tld reason)) records (Release reference tld reason) now) where
  pub release_accepted : step (state_in records i) (Release reference tld reason) now
      ≡ Accept (record { entry = OfRelease reference (release_of_records records tld reason now); is_repeat = false }) (state_in (recorded_in.with_release records reference (release_of_records records tld reason now)) i)
  release_accepted = d.1 i ∙ ap (λ release. machine.release_step (state_in records i) reference release) (release_in records i tld reason now)

  -- its registry is known
  pub release_known : is_some (get records.registries tld) ≡ true
  release_known = is_there (get records.registries tld) (none_stand_for (state_in records i) reference tld reason now (step_accepts (state_in records i) (Release reference tld reason) now _ _ release_accepted).0).registry
