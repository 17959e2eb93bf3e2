-- What the records tell of a part is what the machine decides of it, in their state with any image.
use Rattle.std.proofs.Common.{◌≡◌, ◌≢◌, ℕ, ◌+◌, ◌-◌, List, length, Option, Some, None, Bool, true, false, not, ◌&&◌, ◌||◌, ◌==◌, nat_lt, cond, refl, sym, ◌∙◌, ap, subst, count_by, is_none, Ok}
use Rattle.std.specs.Prelude.{option_map, is_some, unwrap_or, bytes_eq}
use Rattle.std.specs.List.{list_any}
use Rattle.std.specs.FinMap.{get}
use Rattle.std.specs.Option.{option_and_then}
use Rattle.std.proofs.Math.ListN.{replicate}
use Rattle.std.proofs.lemmas.List.{length-replicate}
use Rattle.std.proofs.lemmas.Option.{cond_some}
use Rattle.schedule.specs.Schedule.{day_of}
use Rattle.desk.specs.Standing.{is_receipt}
use Rattle.deposit_name.specs.Name.{Name, is_same_kind}
use Rattle.deposit_name.proofs.KindLemmas.{same_kind_decides}
use Rattle.extent_map.specs.declared.extent.Extent.{Extent}
use Rattle.vault_volume.specs.Extents.{part_bytes}
use Rattle.custody_records.specs.declared.parts.Part as typed
use Rattle.custody_records.specs.Keys.{part_cmp}
use Rattle.custody_records.specs.Records.{PartRecord, Records, key_of}
use Rattle.custody_records.specs.TypedRecords.{part_value}
use Rattle.custody_machine.specs.NameReading.{read_name}
use Rattle.custody_machine.specs.State.{Part, part_numbers, key_with_part, has_notice}
use Rattle.custody_machine.specs.StoredState.{part_of, content_of, state_in}
use Rattle.custody_machine.specs.declared.answers.Refusal.{Refusal}
use Rattle.custody_machine.specs.declared.answers.Refusal.TheVariants.{RegistryUnknown, Size, OtherBytes, DroppedAfterKeeping, VolumeFull}
use Rattle.custody_machine.specs.Machine.{Register, Receive, OfPart, Accept, Refuse, first_day_of, part_of_kind, part_under_name, revision_part, has_other_kind, has_dropped_part, is_failure_of, is_verdict_of, is_held_with_other, has_other_bytes, are_bytes_dropped, is_dropped, max_part_len, refusal_of, step, is_out_of_range, is_out_of_size, receive_tests, named_tests, first_refusal}
use Rattle.custody_machine.specs.Rulings.{AddsRegistry, AddsPart, RefuseRuling, CompareRuling, GoRuling, Decides, DecidesPart}
use Rattle.custody_machine.proofs.MapValues.{get-map_values}
use Rattle.custody_machine.proofs.SameValues.{text_decides}
use Rattle.custody_machine.proofs.Composed.{register_adds}
use Rattle.custody_machine.proofs.Accepting.{none_stand, part_refusals, find_none, find_dropped, step_none, step_refuses, rules_part, answered, place_is_empty}
use Rattle.custody_rules.specs.Judging.{if_of_kind, count_parts_in, has_dropped_part_in, has_other_kind_in, part_under, is_of_other_kind, is_without_bytes, tests_of_new, IsRecordedUnder}
use Rattle.custody_rules.proofs.Ruled.{unknown_first}

-- ---- the records in a state

module _ (records : Records) (image : List ℕ) (name : Name) where
  pub part_in_state : (place : ℕ) → revision_part (state_in records image) name place ≡ option_map (part_of image) (get records.parts (key_with_part (key_of name) place))
  part_in_state place = get-map_values part_cmp (part_of image) records.parts (key_with_part (key_of name) place)

  pub recorded_in_state : part_under_name (state_in records image) name ≡ option_map (part_of image) (part_under records name)
  recorded_in_state = ap (option_and_then (part_of_kind name.kind)) (get-map_values part_cmp (part_of image) records.parts (key_of name)) ∙ by (get records.parts (key_of name))
    where
      if_same : (b : Bool) (part : PartRecord) → cond b (Some (part_of image part)) None ≡ option_map (part_of image) (cond b (Some part) None)
      if_same true part = refl
      if_same false part = refl

      by : (o : Option PartRecord) → option_and_then (part_of_kind name.kind) (option_map (part_of image) o) ≡ option_map (part_of image) (option_and_then (if_of_kind name.kind) o)
      by None = refl
      by (Some part) = if_same (is_same_kind part.kind name.kind) part

  pub new_in_state : part_under records name ≡ None → part_under_name (state_in records image) name ≡ None
  new_in_state new = recorded_in_state ∙ ap (option_map (part_of image)) new

  -- what is told of the part at a place in the state is told of its record
  each_in_state : {B : Type 0} (test : Option Part → B) (test_in : Option PartRecord → B) → test None ≡ test_in None → ((part : PartRecord) → test (Some (part_of image part)) ≡ test_in (Some part))
      → (place : ℕ) → test (revision_part (state_in records image) name place) ≡ test_in (get records.parts (key_with_part (key_of name) place))
  each_in_state test test_in none some place = ap test (part_in_state place) ∙ by (get records.parts (key_with_part (key_of name) place))
    where
      by : (o : Option PartRecord) → test (option_map (part_of image) o) ≡ test_in o
      by None = none
      by (Some part) = some part

  pub kinds_in_state : list_any (λ place. has_other_kind name.kind (revision_part (state_in records image) name place)) part_numbers ≡ has_other_kind_in records (key_of name) name.kind
  kinds_in_state = λ i. list_any (λ place. each_in_state (has_other_kind name.kind) (is_of_other_kind name.kind) refl (λ part. refl) place i) part_numbers

  pub count_in_state : count_by (λ place. is_some (revision_part (state_in records image) name place)) part_numbers ≡ count_parts_in records (key_of name)
  count_in_state = λ i. count_by (λ place. each_in_state is_some is_some refl (λ part. refl) place i) part_numbers

  pub dropped_in_state : has_dropped_part (state_in records image) name ≡ has_dropped_part_in records (key_of name)
  dropped_in_state = λ i. list_any (λ place. each_in_state is_dropped is_without_bytes refl (λ part. gone part.len part.extents) place i) part_numbers
    where
      gone : (len : ℕ) (o : Option (List Extent)) → are_bytes_dropped (content_of image len o) ≡ is_none o
      gone len None = refl
      gone len (Some extents) = refl

-- ---- a new name

-- the first refusal of a new name, in a registry that is known
pub first_in_records : (records : Records) (image : List ℕ) (name : Name) (bytes : List ℕ) (len now first : ℕ) → length bytes ≡ len → get records.registries name.tld ≡ Some first → part_under_name (state_in records image) name ≡ None
    → first_refusal (receive_tests (state_in records image) name bytes now) ≡ first_refusal (tests_of_new records name first len now)
first_in_records records image name bytes len now first sized known new = λ i.
    part_refusals (is_none (known i)) (is_none (new i) && (nat_lt name.day (unwrap_or (known i) 0) || nat_lt (day_of now) name.day)) (sized i == 0 || nat_lt max_part_len (sized i)) (has_other_bytes bytes (new i)) (is_dropped (new i))
    (is_none (new i) && (has_notice records.notices name.tld name.day is_receipt || (nat_lt 0 name.rev && not (has_notice records.notices name.tld name.day (is_failure_of (name.rev - 1))))))
    (is_none (new i) && has_notice records.notices name.tld name.day (is_verdict_of name.rev)) (is_none (new i) && kinds_in_state records image name i) (is_none (new i) && not (count_in_state records image name i + 1 == name.part))

-- ---- what is decided of a text

module _ (records : Records) (text : List ℕ) (name : Name) (len now : ℕ) (named : read_name text ≡ Ok name) where
  refusal_is : (image bytes : List ℕ) (o : Option Refusal) → first_refusal (receive_tests (state_in records image) name bytes now) ≡ o → refusal_of (state_in records image) (Receive text bytes) now ≡ o
  refusal_is image bytes o first = ap (λ r. first_refusal (named_tests (state_in records image) r bytes now)) named ∙ first

  -- a refusal that stands first, whatever the image and the bytes
  pub refuses : (q : Refusal) → q ≢ OtherBytes → q ≢ VolumeFull → ((image bytes : List ℕ) → length bytes ≡ len → first_refusal (receive_tests (state_in records image) name bytes now) ≡ Some q) → DecidesPart (RefuseRuling q) records text len now
  refuses q other full first = λ bytes sized. (other, full, λ image. step_refuses (state_in records image) (Receive text bytes) now q (refusal_is image bytes (Some q) (first image bytes sized)))

  pub refuses_registry : get records.registries name.tld ≡ None → DecidesPart (RefuseRuling RegistryUnknown) records text len now
  refuses_registry unknown = refuses RegistryUnknown (λ e. cc) (λ e. cc) (λ image bytes sized. unknown_first _ _ unknown)

  -- a new name that no refusal stands for
  pub goes : part_under records name ≡ None → ((image bytes : List ℕ) → length bytes ≡ len → first_refusal (receive_tests (state_in records image) name bytes now) ≡ None) → DecidesPart (GoRuling (AddsPart name)) records text len now
  goes new none = λ bytes sized. (
    (named, empty),
    λ image.
        let first = none image bytes sized in
        let stand = none_stand (state_in records image) name bytes now first in
        step_none (state_in records image) (Receive text bytes) now (refusal_is image bytes None first) ∙ rules_part (state_in records image) text bytes now name named stand.bytes stand.dropped ∙ ap (answered (state_in records image) name bytes now) (new_in_state records image name new),
  )
    where
      place_of : (image : List ℕ) (o : Option PartRecord) → option_map (part_of image) o ≡ None → o ≡ None
      place_of image None e = refl
      place_of image (Some part) e = cc

      empty : get records.parts (key_of name) ≡ None
      empty =
          let image = replicate len 0 in
          let stand = none_stand (state_in records image) name image now (none image image (length-replicate len 0)) in
          let kinds : list_any (λ place. has_other_kind name.kind (revision_part (state_in records image) name place)) part_numbers ≡ false = ap (λ o. is_none o && list_any (λ place. has_other_kind name.kind (revision_part (state_in records image) name place)) part_numbers) (sym (new_in_state records image name new)) ∙ stand.kind in
          place_of image (get records.parts (key_of name)) (sym (get-map_values part_cmp (part_of image) records.parts (key_of name)) ∙ place_is_empty (state_in records image) text name named (new_in_state records image name new) kinds)

-- ---- what is decided of a name that is recorded

module _ (records : Records) (text : List ℕ) (name : Name) (part : typed.Part) (len now : ℕ) (under : IsRecordedUnder records text name part) where
  recorded_is : (image : List ℕ) → part_under_name (state_in records image) name ≡ Some (part_of image (part_value part))
  recorded_is image = recorded_in_state records image name ∙ ap (option_map (part_of image)) under.recorded

  known_is : is_none (get records.registries name.tld) ≡ false
  known_is = by (get records.registries name.tld) under.known
    where
      by : (o : Option ℕ) → is_some o ≡ true → is_none o ≡ false
      by None e = cc
      by (Some day) e = refl

  in_range : (image : List ℕ) → is_out_of_range (state_in records image) name now ≡ false
  in_range image = ap (λ o. is_none o && (nat_lt name.day (unwrap_or (first_day_of (state_in records image) name.tld) 0) || nat_lt (day_of now) name.day)) (recorded_is image)

  size_is : (b : Bool) → (len == 0 || nat_lt max_part_len len) ≡ b → (image bytes : List ℕ) → length bytes ≡ len → is_out_of_size (length bytes) ≡ b
  size_is b e image bytes sized = ap (λ n. n == 0 || nat_lt max_part_len n) sized ∙ e

  pub refuses_size : (len == 0 || nat_lt max_part_len len) ≡ true → DecidesPart (RefuseRuling Size) records text len now
  refuses_size e = refuses records text name len now under.named Size (λ e. cc) (λ e. cc) (λ image bytes sized. by _ _ _ _ _ _ _ _ _ known_is (in_range image) (size_is true e image bytes sized))
    where
      by : (a b c d e f g h i : Bool) → a ≡ false → b ≡ false → c ≡ true → part_refusals a b c d e f g h i ≡ Some Size
      by a b c d e f g h i p q r = rw (p, q, r) refl

  module _ (sized_well : (len == 0 || nat_lt max_part_len len) ≡ false) where
    pub refuses_dropped : (part_value part).extents ≡ None → DecidesPart (RefuseRuling DroppedAfterKeeping) records text len now
    refuses_dropped none = refuses records text name len now under.named DroppedAfterKeeping (λ e. cc) (λ e. cc) (λ image bytes sized.
        find_dropped (state_in records image) name bytes now known_is (in_range image) (size_is false sized_well image bytes sized)
        (ap (has_other_bytes bytes) (recorded_is image) ∙ ap (λ o. is_held_with_other bytes (content_of image part.len o)) none)
        (ap is_dropped (recorded_is image) ∙ ap (λ o. are_bytes_dropped (content_of image part.len o)) none))

    module _ (extents : List Extent) (held : (part_value part).extents ≡ Some extents) where
      is_other : (image bytes : List ℕ) (b : Bool) → bytes_eq (part_bytes image extents part.len) bytes ≡ b → has_other_bytes bytes (part_under_name (state_in records image) name) ≡ not b
      is_other image bytes b e = ap (has_other_bytes bytes) (recorded_is image) ∙ ap (λ o. is_held_with_other bytes (content_of image part.len o)) held ∙ ap not e

      is_kept : (image : List ℕ) → is_dropped (part_under_name (state_in records image) name) ≡ false
      is_kept image = ap is_dropped (recorded_is image) ∙ ap (λ o. are_bytes_dropped (content_of image part.len o)) held

      accepts : (image bytes : List ℕ) → length bytes ≡ len → part_bytes image extents part.len ≡ bytes
          → step (state_in records image) (Receive text bytes) now ≡ Accept (record { entry = OfPart (key_of name) (part_of image (part_value part)); is_repeat = true }) (state_in records image)
      accepts image bytes sized same =
          let other = is_other image bytes true ((text_decides _ _).1 same) in
          let s = state_in records image in
          let none = find_none s name bytes now (record {
            registry = known_is;
            date = in_range image;
            size = size_is false sized_well image bytes sized;
            bytes = other;
            dropped = is_kept image;
            due = ap (λ o. is_none o && (has_notice s.notices name.tld name.day is_receipt || (nat_lt 0 name.rev && not (has_notice s.notices name.tld name.day (is_failure_of (name.rev - 1)))))) (recorded_is image);
            stated = ap (λ o. is_none o && has_notice s.notices name.tld name.day (is_verdict_of name.rev)) (recorded_is image);
            kind = ap (λ o. is_none o && list_any (λ place. has_other_kind name.kind (revision_part s name place)) part_numbers) (recorded_is image);
            order = ap (λ o. is_none o && not (count_by (λ place. is_some (revision_part s name place)) part_numbers + 1 == name.part)) (recorded_is image);
          }) in
          step_none s (Receive text bytes) now (refusal_is records text name len now under.named image bytes None none) ∙ rules_part s text bytes now name under.named other (is_kept image) ∙ ap (answered s name bytes now) (recorded_is image)

      differs : (image bytes : List ℕ) → part_bytes image extents part.len ≢ bytes → bytes_eq (part_bytes image extents part.len) bytes ≡ false
      differs image bytes other = by (bytes_eq (part_bytes image extents part.len) bytes) refl
        where
          by : (b : Bool) → bytes_eq (part_bytes image extents part.len) bytes ≡ b → b ≡ false
          by true e = absurd (other ((text_decides _ _).0 e))
          by false e = refl

      refuses_other : (image bytes : List ℕ) → length bytes ≡ len → part_bytes image extents part.len ≢ bytes → step (state_in records image) (Receive text bytes) now ≡ Refuse OtherBytes
      refuses_other image bytes sized other =
          step_refuses (state_in records image) (Receive text bytes) now OtherBytes (refusal_is records text name len now under.named image bytes (Some OtherBytes)
          (by _ _ _ _ _ _ _ _ _ known_is (in_range image) (size_is false sized_well image bytes sized) (is_other image bytes false (differs image bytes other))))
        where
          by : (a b c d e f g h i : Bool) → a ≡ false → b ≡ false → c ≡ false → d ≡ true → part_refusals a b c d e f g h i ≡ Some OtherBytes
          by a b c d e f g h i p q r t = rw (p, q, r, t) refl

      found_is : (get records.parts (key_of name) ≡ Some (part_value part)) × (part.name.kind ≡ name.kind)
      found_is = by (get records.parts (key_of name)) under.recorded
        where
          by : (o : Option PartRecord) → option_and_then (if_of_kind name.kind) o ≡ Some (part_value part) → (o ≡ Some (part_value part)) × ((part_value part).kind ≡ name.kind)
          by None e = cc
          by (Some found) e = let found_is = cond_some (is_same_kind found.kind name.kind) found (part_value part) e in
              (ap Some found_is.1, ap (λ (p : PartRecord). p.kind) (sym found_is.1) ∙ (same_kind_decides found.kind name.kind).0 found_is.0)

      named_alike : part.name ≡ name
      named_alike = λ i. record { tld = (under.place i).tld; day = (under.place i).day; kind = found_is.1 i; part = (under.place i).part; rev = (under.place i).rev }

      pub compares : DecidesPart (CompareRuling part.name (part_value part) extents) records text len now
      compares = subst (λ n. DecidesPart (CompareRuling n (part_value part) extents) records text len now) (sym named_alike) (λ bytes sized. (
        record { named = under.named; recorded = found_is.0; kind = found_is.1; held = held },
        λ image. (λ same. accepts image bytes sized same, λ other. refuses_other image bytes sized other),
      ))

-- ---- what is decided of a registry

pub registry_is_new : (records : Records) (tld : List ℕ) (first_day now : ℕ) → get records.registries tld ≡ None → Decides (GoRuling (AddsRegistry tld first_day)) records (Register tld first_day) now
registry_is_new records tld first_day now new = ((refl, new), λ image. register_adds records image tld first_day now new)
