-- What is fetched of records, whatever the volume holds.
use Rattle.std.proofs.Common.{◌≡◌, ℕ, List, Some, None, true, false, if◌then◌else◌, ◌∙◌, ap, Ok, Err}
use Rattle.std.specs.FinMap.{get}
use Rattle.std.specs.Option.{option_and_then}
use Rattle.std.specs.Prelude.{option_map}
use Rattle.extent_map.specs.declared.extent.Extent.{Extent}
use Rattle.deposit_verify.specs.Verdict.{contains_text}
use Rattle.deposit_verify.proofs.HeaderDecided.{contains_decides}
use Rattle.vault_volume.specs.Extents.{part_bytes}
use Rattle.custody_records.specs.Records.{PartRecord, Release, Records}
use Rattle.custody_machine.specs.declared.answers.Refusal.TheVariants.{DroppedAfterKeeping, NotInRelease, ReleaseUnknown}
use Rattle.custody_machine.specs.NameReading.{read_name}
use Rattle.custody_machine.specs.Machine.{are_bytes_dropped, bytes_in}
use Rattle.custody_machine.specs.StoredState.{AreLinked, content_of, part_of, state_in}
use Rattle.custody_machine.specs.FetchResult.{part_named, bytes_unless_dropped, release_result, fetch_result}
use Rattle.custody_machine.proofs.Fetching.{released_part}
use Rattle.custody_rules.specs.Judging.{if_of_kind}
use Rattle.custody_rules.specs.Fetching.{IsRecordedAs}
use Rattle.custody_rules.proofs.Judged.{recorded_in_state}

-- a name of a release is that of a recorded part, where the records belong together
pub released_as : (records : Records) (reference text : List ℕ) (release : Release) → AreLinked records → get records.releases reference ≡ Some release → contains_text release.names text ≡ true → (part : PartRecord) × IsRecordedAs records text part
released_as records reference text release linked at has =
    let found = released_part records reference text release linked at ((contains_decides release.names text).0 has) in
    (found.1, record { name = found.0; named = found.2; recorded = ap (option_and_then (if_of_kind found.0.kind)) found.3 ∙ ap (λ b. if b then Some found.1 else None) found.4 })

module _ (records : Records) (reference text image : List ℕ) where
  pub unknown : get records.releases reference ≡ None → fetch_result (state_in records image) reference text ≡ Err ReleaseUnknown
  unknown none = ap (λ o. release_result (state_in records image) o text) none

  module _ (release : Release) (at : get records.releases reference ≡ Some release) where
    by_name : fetch_result (state_in records image) reference text ≡ (if contains_text release.names text then bytes_unless_dropped (part_named (state_in records image) (read_name text)) else Err NotInRelease)
    by_name = ap (λ o. release_result (state_in records image) o text) at

    pub lacking : contains_text release.names text ≡ false → fetch_result (state_in records image) reference text ≡ Err NotInRelease
    lacking none = by_name ∙ ap (λ b. if b then bytes_unless_dropped (part_named (state_in records image) (read_name text)) else Err NotInRelease) none

    module _ (has : contains_text release.names text ≡ true) (part : PartRecord) (named : IsRecordedAs records text part) where
      by_part : fetch_result (state_in records image) reference text ≡ bytes_unless_dropped (Some (part_of image part))
      by_part = by_name ∙ ap (λ b. if b then bytes_unless_dropped (part_named (state_in records image) (read_name text)) else Err NotInRelease) has
          ∙ ap (λ r. bytes_unless_dropped (part_named (state_in records image) r)) named.named
          ∙ ap bytes_unless_dropped (recorded_in_state records image named.name ∙ ap (option_map (part_of image)) named.recorded)

      pub held : (extents : List Extent) → part.extents ≡ Some extents → fetch_result (state_in records image) reference text ≡ Ok (part_bytes image extents part.len)
      held extents is = by_part ∙ ap (λ o. if are_bytes_dropped (content_of image part.len o) then Err DroppedAfterKeeping else Ok (bytes_in (content_of image part.len o))) is

      pub dropped : part.extents ≡ None → fetch_result (state_in records image) reference text ≡ Err DroppedAfterKeeping
      dropped is = by_part ∙ ap (λ o. if are_bytes_dropped (content_of image part.len o) then Err DroppedAfterKeeping else Ok (bytes_in (content_of image part.len o))) is
