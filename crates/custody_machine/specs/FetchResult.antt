-- What a release hands over (Specification 2, Part B section 6): the bytes of one of its parts, by the part's name.
use Rattle.std.specs.Prelude.{◌≡◌, ◌↔◌, ◌⊎◌, ℕ, List, Contains, Option, Some, None, false, true, if◌then◌else◌, Result, Ok, Err}
use Rattle.std.specs.FinMap.{get}
use Rattle.deposit_name.specs.declared.errors.NameError.{NameError}
use Rattle.deposit_name.specs.Name.{Name}
use Rattle.deposit_verify.specs.Verdict.{contains_text}
use Rattle.custody_records.specs.Records.{Release, Records, key_of}
use Rattle.custody_machine.specs.declared.answers.Refusal.{Refusal}
use Rattle.custody_machine.specs.declared.answers.Refusal.TheVariants.{DroppedAfterKeeping, NotInRelease, ReleaseUnknown}
use Rattle.custody_machine.specs.NameReading.{read_name}
use Rattle.custody_machine.specs.State.{State, Part, Held}
use Rattle.custody_machine.specs.Machine.{part_under_name, is_dropped, bytes_held}
use Rattle.custody_machine.specs.StoredState.{AreLinked, state_in, HasDigestAt}

-- the part that is recorded under the name that a text is
abbrev pub part_named : State → Result Name NameError → Option Part
part_named state (Err fault) = None
part_named state (Ok name) = part_under_name state name

-- the bytes of a part, unless they are dropped
abbrev pub bytes_unless_dropped : Option Part → Result (List ℕ) Refusal
bytes_unless_dropped part = if is_dropped part then Err DroppedAfterKeeping else Ok (bytes_held part)

-- what a release hands over under a name, where it is recorded
abbrev pub release_result : State → Option Release → List ℕ → Result (List ℕ) Refusal
release_result state None text = Err ReleaseUnknown
release_result state (Some release) text = if contains_text release.names text then bytes_unless_dropped (part_named state (read_name text)) else Err NotInRelease

-- what is fetched of the release with a reference under a name: the bytes of the part, or why there are none
abbrev pub fetch_result : State → (reference text : List ℕ) → Result (List ℕ) Refusal
fetch_result state reference text = release_result state (get state.releases reference) text

-- the part of a name, where one is held, has its recorded digest
abbrev pub HasNamedDigest : List ℕ → Records → List ℕ → Type 0
HasNamedDigest image records text = (name : Name) → read_name text ≡ Ok name → HasDigestAt image records (key_of name)

-- ---- the law

-- a release is recorded under the reference, with this name or without it
abbrev pub ReleasesName : State → (reference text : List ℕ) → Type 0
ReleasesName state reference text = (release : Release) × (get state.releases reference ≡ Some release) × Contains release.names text

abbrev pub ReleasesWithoutName : State → (reference text : List ℕ) → Type 0
ReleasesWithoutName state reference text = (release : Release) × (get state.releases reference ≡ Some release) × (¬ Contains release.names text)

-- Each of the four is answered exactly where it is so; and no two are, since an answer is one.
pub record IsFetching (state : State) (reference text : List ℕ) : Type 0 where
  pub unknown : (fetch_result state reference text ≡ Err ReleaseUnknown) ↔ (get state.releases reference ≡ None)
  pub not_in : (fetch_result state reference text ≡ Err NotInRelease) ↔ ReleasesWithoutName state reference text
  pub dropped : (fetch_result state reference text ≡ Err DroppedAfterKeeping) ↔ (ReleasesName state reference text × (is_dropped (part_named state (read_name text)) ≡ true))
  pub held : (bytes : List ℕ) → (fetch_result state reference text ≡ Ok bytes) ↔ (ReleasesName state reference text × (is_dropped (part_named state (read_name text)) ≡ false) × (bytes_held (part_named state (read_name text)) ≡ bytes))
  pub others : (refusal : Refusal) → fetch_result state reference text ≡ Err refusal → (refusal ≡ ReleaseUnknown) ⊎ ((refusal ≡ NotInRelease) ⊎ (refusal ≡ DroppedAfterKeeping))

abbrev pub FetchesOne : Type 0
FetchesOne = (state : State) (reference text : List ℕ) → IsFetching state reference text

-- Where the records belong together, what is fetched are the bytes of a part that is held.
abbrev pub FetchesHeld : Type 0
FetchesHeld = (records : Records) (image reference text bytes : List ℕ) → AreLinked records → fetch_result (state_in records image) reference text ≡ Ok bytes
    → (name : Name) × (part : Part) × (read_name text ≡ Ok name) × (part_under_name (state_in records image) name ≡ Some part) × (part.content ≡ Held bytes)
