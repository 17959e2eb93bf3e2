-- What is fetched of a release.
use Rattle.std.specs.Prelude.{◌≡◌, ◌⊎◌, ℕ, List, Vec, true, false, Result, Ok, Err}
use Rattle.std.specs.declared.alloc.Global.{Global}
use Rattle.sha2.specs.Sha256.{sha256}
use Rattle.extent_map.specs.declared.extent.Extent.{Extent}
use Rattle.vault_volume.specs.declared.volume.Volume as volume
use Rattle.sqlite.specs.Store.{Ghosts}
use Rattle.custody_records.specs.Records.{PartRecord, Records}
use Rattle.custody_machine.specs.declared.answers.Failure.TheVariants.{NoMemory, VolumeFailed, StoreFailed, Closed, Damaged}
use Rattle.custody_machine.specs.declared.damage.Damage.TheVariants.{Digest}
use Rattle.custody_machine.specs.StoredState.{state_in}
use Rattle.custody_machine.specs.FetchResult.{fetch_result, HasNamedDigest}
use Rattle.custody_rules.specs.Fetching.{HandsOver}
use Rattle.custody.specs.declared.answers.Refused.{Refused}
use Rattle.custody.specs.declared.answers.Refused.TheVariants as refused
use Rattle.custody.specs.declared.custody.Custody.{Custody}
use Rattle.custody.specs.Answers.{closing_failure}
use Rattle.custody.specs.OpenCustody.{current_records, image_of, IsUnwritten}
use Rattle.custody.specs.OtherCalls.{RecordsNothing}
use Rattle.custody.specs.Custody.{failure_of, open_custody_of, is_open}

-- Whatever the volume is: a refusal is the one that the records decide; where they decide none, bytes are answered with the digest that is recorded of the part, or memory, the volume or the digest fails.
abbrev pub IsFetchDecided : Records → (reference name : List ℕ) → Result (List ℕ) Refused → Type 0
IsFetchDecided records reference name (Ok bytes) = (part : PartRecord) × (extents : List Extent) × HandsOver records reference name part extents × (sha256 bytes ≡ part.digest)
IsFetchDecided records reference name (Err (refused.Refusal refusal)) = (image : List ℕ) → fetch_result (state_in records image) reference name ≡ Err refusal
IsFetchDecided records reference name (Err (refused.Failure failure)) = (part : PartRecord) × (extents : List Extent) × HandsOver records reference name part extents × ((failure ≡ NoMemory) ⊎ ((failure ≡ VolumeFailed) ⊎ (failure ≡ Damaged Digest)))

-- Where the volume tells its image: the bytes are those that are fetched of the state, and the part has its digest; damage is told where it has not.
abbrev pub IsFetched : Records → List ℕ → (reference name : List ℕ) → Result (List ℕ) Refused → Type 0
IsFetched records image reference name (Ok bytes) = (fetch_result (state_in records image) reference name ≡ Ok bytes) × HasNamedDigest image records name
IsFetched records image reference name (Err (refused.Refusal refusal)) = fetch_result (state_in records image) reference name ≡ Err refusal
IsFetched records image reference name (Err (refused.Failure NoMemory)) = Unit {0}
IsFetched records image reference name (Err (refused.Failure VolumeFailed)) = Unit {0}
IsFetched records image reference name (Err (refused.Failure StoreFailed)) = ⊥
IsFetched records image reference name (Err (refused.Failure Closed)) = ⊥
IsFetched records image reference name (Err (refused.Failure (Damaged damage))) = ¬ HasNamedDigest image records name

-- an answer by the bytes that it has
abbrev pub answered_bytes : Result (Vec ℕ Global) Refused → Result (List ℕ) Refused
answered_bytes (Ok bytes) = Ok bytes.items
answered_bytes (Err e) = Err e

-- and by those that it is given with
abbrev pub bytes_if_answered : {T : Type 0} → Result T Refused → List ℕ → Result (List ℕ) Refused
bytes_if_answered (Ok done) bytes = Ok bytes
bytes_if_answered (Err e) bytes = Err e

module _ {V S : Type 0} {g : volume.Ghosts V} {database : Ghosts S} where
  -- What a fetch does to a custody, and answers.
  pub record HasFetched (old : Custody V S g database) (reference name : List ℕ) (answer : Result (List ℕ) Refused) (new : Custody V S g database) : Type 0 where
    -- a closed one says so, and is as it was
    pub closed : is_open old ≡ false → (answer ≡ Err (refused.Failure Closed)) × (new ≡ old)
    -- an open one is closed by a failure of the volume, which is answered, and by nothing else
    pub closes : is_open old ≡ true → failure_of new ≡ closing_failure answer
    -- what the records decide is answered
    pub decided : is_open old ≡ true → IsFetchDecided (current_records (open_custody_of old)) reference name answer
    -- and what the volume holds of the part
    pub bytes : is_open old ≡ true → g.tells → IsFetched (current_records (open_custody_of old)) (image_of (open_custody_of old)) reference name answer
    -- it is no command
    pub rested : is_open old ≡ true → RecordsNothing database (open_custody_of old) (is_open new) (open_custody_of new)
    -- and writes nothing
    pub unwritten : is_open old ≡ true → g.tells → IsUnwritten (open_custody_of old) (open_custody_of new)
