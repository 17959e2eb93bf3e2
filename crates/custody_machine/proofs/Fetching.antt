-- What is fetched is one of four answers, each where it is so; and of records that belong together it is a part that is held.
use Rattle.std.proofs.Common.{◌≡◌, inl, inr, ℕ, List, Contains, Option, Some, None, Bool, true, false, if◌then◌else◌, refl, sym, ◌∙◌, ap, subst, Result, Ok, Err}
use Rattle.std.specs.Prelude.{option_map, bytes_eq}
use Rattle.std.specs.FinMap.{get}
use Rattle.std.specs.List.{list_all}
use Rattle.std.proofs.lemmas.List.Elements.{All-contains}
use Rattle.std.proofs.lemmas.List.Sums.{AllPass-from_list_all}
use Rattle.deposit_name.specs.declared.errors.NameError.{NameError}
use Rattle.deposit_name.specs.Name.{Name, is_same_kind}
use Rattle.deposit_verify.specs.Verdict.{contains_text}
use Rattle.deposit_verify.proofs.HeaderDecided.{contains_decides}
use Rattle.custody_records.specs.Keys.{part_cmp}
use Rattle.custody_records.specs.Records.{PartRecord, Release, Records, key_of}
use Rattle.custody_machine.specs.declared.answers.Refusal.TheVariants.{DroppedAfterKeeping, NotInRelease, ReleaseUnknown}
use Rattle.custody_machine.specs.NameReading.{read_name}
use Rattle.custody_machine.specs.State.{State, Part, Content, Held, Dropped}
use Rattle.custody_machine.specs.Machine.{part_under_name, is_dropped, are_bytes_dropped, bytes_held, bytes_in}
use Rattle.custody_machine.specs.StoredState.{AreLinked, is_part_of, is_name_of_part, part_of, state_in}
use Rattle.custody_machine.specs.FetchResult.{part_named, bytes_unless_dropped, release_result, fetch_result, ReleasesName, IsFetching, FetchesOne, FetchesHeld}
use Rattle.custody_machine.proofs.MapValues.{get-map_values}
use Rattle.custody_machine.proofs.Accepting.{recorded_of}
use Rattle.custody_machine.proofs.Continuing.{and_both}

-- ---- one of four

module _ (state : State) (reference text : List ℕ) where
  abbrev part : Option Part
  part = part_named state (read_name text)

  -- a release that is recorded is the one
  is_one : (a b : Release) → get state.releases reference ≡ Some a → get state.releases reference ≡ Some b → a ≡ b
  is_one a b p q = cc

  -- and one is not none
  not_none : (a : Release) → get state.releases reference ≡ Some a → get state.releases reference ≡ None → ⊥
  not_none a p q = cc

  -- a release without the name does not have it
  lacks : (release : Release) → contains_text release.names text ≡ false → ¬ Contains release.names text
  lacks release e has = let found = (contains_decides release.names text).1 has in no (contains_text release.names text) e found
    where
      no : (b : Bool) → b ≡ false → b ≡ true → ⊥
      no b e f = cc

  unknown_one : get state.releases reference ≡ None → IsFetching state reference text
  unknown_one is =
      let at : fetch_result state reference text ≡ Err ReleaseUnknown = ap (λ o. release_result state o text) is in record {
        unknown = (λ _. is, λ _. at);
        not_in = (λ e. cc, λ h. absurd (not_none h.0 h.1 is));
        dropped = (λ e. cc, λ h. absurd (not_none h.0.0 h.0.1 is));
        held = λ bytes. (λ e. cc, λ h. absurd (not_none h.0.0 h.0.1 is));
        others = λ refusal e. inl cc;
      }

  lacking_one : (release : Release) → get state.releases reference ≡ Some release → contains_text release.names text ≡ false → IsFetching state reference text
  lacking_one release is e =
      let at : fetch_result state reference text ≡ Err NotInRelease = ap (λ o. release_result state o text) is ∙ ap (λ b. if b then bytes_unless_dropped part else Err NotInRelease) e in
      let other : ReleasesName state reference text → ⊥ = λ h. lacks release e (subst (λ (r : Release). Contains r.names text) (is_one h.0 release h.1 is) h.2) in record {
        unknown = (λ f. cc, λ none. absurd (not_none release is none));
        not_in = (λ _. (release, is, lacks release e), λ _. at);
        dropped = (λ f. cc, λ h. absurd (other h.0));
        held = λ bytes. (λ f. cc, λ h. absurd (other h.0));
        others = λ refusal f. inr (inl cc);
      }

  module _ (release : Release) (is : get state.releases reference ≡ Some release) (has : Contains release.names text) where
    names : ReleasesName state reference text
    names = (release, is, has)

    listed : fetch_result state reference text ≡ bytes_unless_dropped part
    listed = ap (λ o. release_result state o text) is ∙ ap (λ b. if b then bytes_unless_dropped part else Err NotInRelease) ((contains_decides release.names text).1 has)

    without : (other : Release) → get state.releases reference ≡ Some other → (¬ Contains other.names text) → ⊥
    without other at none = none (subst (λ (r : Release). Contains r.names text) (is_one release other is at) has)

    gone_one : is_dropped part ≡ true → IsFetching state reference text
    gone_one gone =
        let at : fetch_result state reference text ≡ Err DroppedAfterKeeping = listed ∙ ap (λ b. if b then Err DroppedAfterKeeping else Ok (bytes_held part)) gone in record {
          unknown = (λ f. cc, λ none. absurd (not_none release is none));
          not_in = (λ f. cc, λ h. absurd (without h.0 h.1 h.2));
          dropped = (λ _. (names, gone), λ _. at);
          held = λ bytes. (λ f. cc, λ h. absurd (both h.1));
          others = λ refusal f. inr (inr cc);
        }
      where
        both : is_dropped part ≡ false → ⊥
        both f = cc

    held_one : is_dropped part ≡ false → IsFetching state reference text
    held_one there =
        let at : fetch_result state reference text ≡ Ok (bytes_held part) = listed ∙ ap (λ b. if b then Err DroppedAfterKeeping else Ok (bytes_held part)) there in record {
          unknown = (λ f. cc, λ none. absurd (not_none release is none));
          not_in = (λ f. cc, λ h. absurd (without h.0 h.1 h.2));
          dropped = (λ f. cc, λ h. absurd (both h.1));
          held = λ bytes. (λ f. (names, there, cc), λ h. at ∙ ap Ok h.2);
          others = λ refusal f. cc;
        }
      where
        both : is_dropped part ≡ true → ⊥
        both f = cc

  by_part : (release : Release) → get state.releases reference ≡ Some release → Contains release.names text → (b : Bool) → is_dropped part ≡ b → IsFetching state reference text
  by_part release is has true e = gone_one release is has e
  by_part release is has false e = held_one release is has e

  by_name : (release : Release) → get state.releases reference ≡ Some release → (b : Bool) → contains_text release.names text ≡ b → IsFetching state reference text
  by_name release is true e = by_part release is ((contains_decides release.names text).0 e) (is_dropped part) refl
  by_name release is false e = lacking_one release is e

  by_release : (o : Option Release) → get state.releases reference ≡ o → IsFetching state reference text
  by_release None is = unknown_one is
  by_release (Some release) is = by_name release is (contains_text release.names text) refl

pub fetches_one : FetchesOne
fetches_one state reference text = by_release state reference text (get state.releases reference) refl

-- ---- a part that is held

-- a name that a release may have is that of a recorded part, of its kind
pub named_part : (records : Records) (tld text : List ℕ) → is_name_of_part records tld (read_name text) ≡ true
    → (name : Name) × (part : PartRecord) × (read_name text ≡ Ok name) × (get records.parts (key_of name) ≡ Some part) × (is_same_kind part.kind name.kind ≡ true)
named_part records tld text e = by (read_name text) refl e
  where
    at : (name : Name) → read_name text ≡ Ok name → (o : Option PartRecord) → get records.parts (key_of name) ≡ o → is_part_of name.kind o ≡ true
        → (name : Name) × (part : PartRecord) × (read_name text ≡ Ok name) × (get records.parts (key_of name) ≡ Some part) × (is_same_kind part.kind name.kind ≡ true)
    at name is None there e = cc
    at name is (Some part) there e = (name, part, is, there, e)

    by : (r : Result Name NameError) → read_name text ≡ r → is_name_of_part records tld r ≡ true
        → (name : Name) × (part : PartRecord) × (read_name text ≡ Ok name) × (get records.parts (key_of name) ≡ Some part) × (is_same_kind part.kind name.kind ≡ true)
    by (Err fault) is e = cc
    by (Ok name) is e = at name is (get records.parts (key_of name)) refl (and_both (bytes_eq name.tld tld) _ e).1

-- each name of a release of linked records is one
pub released_part : (records : Records) (reference text : List ℕ) (release : Release) → AreLinked records → get records.releases reference ≡ Some release → Contains release.names text
    → (name : Name) × (part : PartRecord) × (read_name text ≡ Ok name) × (get records.parts (key_of name) ≡ Some part) × (is_same_kind part.kind name.kind ≡ true)
released_part records reference text release linked at has =
    named_part records release.tld text (passes (λ text. is_name_of_part records release.tld (read_name text)) release.names text (linked.released reference release at) has)
  where
    passes : (test : List ℕ → Bool) (xs : List (List ℕ)) (x : List ℕ) → list_all test xs ≡ true → Contains xs x → test x ≡ true
    passes test xs x all has = All-contains (λ y. test y ≡ true) xs x (AllPass-from_list_all test xs all) has

-- and is recorded so in their state
pub recorded_part : (records : Records) (image : List ℕ) (name : Name) (part : PartRecord) → get records.parts (key_of name) ≡ Some part → is_same_kind part.kind name.kind ≡ true
    → part_under_name (state_in records image) name ≡ Some (part_of image part)
recorded_part records image name part at same = recorded_of (state_in records image) name (part_of image part) (get-map_values part_cmp (part_of image) records.parts (key_of name) ∙ ap (option_map (part_of image)) at) same

pub fetches_held : FetchesHeld
fetches_held records image reference text bytes linked e =
    let state : State = state_in records image in
    let held = ((fetches_one state reference text).held bytes).0 e in
    let named = released_part records reference text held.0.0 linked held.0.1 held.0.2 in
    let is : part_under_name state named.0 ≡ Some (part_of image named.1) = recorded_part records image named.0 named.1 named.3 named.4 in
    let there : part_named state (read_name text) ≡ Some (part_of image named.1) = ap (part_named state) named.2 ∙ is in
    (named.0, part_of image named.1, named.2, is, by (part_of image named.1) (ap is_dropped (sym there) ∙ held.1) (ap bytes_held (sym there) ∙ held.2))
  where
    by : (part : Part) → are_bytes_dropped part.content ≡ false → bytes_in part.content ≡ bytes → part.content ≡ Held bytes
    by part whole same = in_content part.content whole same
      where
        in_content : (content : Content) → are_bytes_dropped content ≡ false → bytes_in content ≡ bytes → content ≡ Held bytes
        in_content (Held kept) whole same = ap Held same
        in_content (Dropped len) whole same = cc
