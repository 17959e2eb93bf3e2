-- What the verification of a deposit that is stated comes to.
use Rattle.std.specs.Prelude.{◌≡◌, ℕ, ◌+◌, List, Contains, Option, Some, Result, Ok, Err, IfOk, IfSome}
use Rattle.std.specs.List.{flat_map}
use Rattle.std.specs.FinMap.{get}
use Rattle.deposit_verify.specs.declared.reason.Reason.{Reason}
use Rattle.deposit_verify.specs.declared.verdict.Verdict.{Verdict}
use Rattle.deposit_verify.specs.Known.{known_in}
use Rattle.deposit_verify.specs.Reasons.{IsReason, verdict_for}
use Rattle.custody_records.specs.Keys.{PartKey}
use Rattle.custody_records.specs.Records.{PartRecord, Records, key_of}
use Rattle.custody_machine.specs.declared.command.Statement as statement
use Rattle.custody_machine.specs.declared.answers.Failure.TheVariants.{NoMemory, VolumeFailed, StoreFailed, Closed, Damaged}
use Rattle.custody_machine.specs.declared.damage.Damage.TheVariants.{Digest}
use Rattle.custody_machine.specs.Machine.{first_part, held_chain, joined_bytes, known_of, part_keys, verdict_keys, verdict_on}
use Rattle.custody_machine.specs.StoredState.{state_in, HasDigestAt}
use Rattle.custody.specs.declared.answers.Refused.{Refused}
use Rattle.custody.specs.declared.answers.Refused.TheVariants as refused
use Rattle.custody.specs.declared.verifying.StatedDeposit.{StatedDeposit}

-- the first of the stated parts is recorded, and has the stated kind
abbrev pub HasFirstPart : Records → statement.Statement → Type 0
HasFirstPart records stated = (part : PartRecord) × (get records.parts (key_of (first_part stated)) ≡ Some part) × (part.kind ≡ stated.kind)

-- each of these parts has its digest where there is an answer, and damage is told where one has not
abbrev pub HaveDigests : {T : Type 0} → Result T Refused → Records → List ℕ → List PartKey → Type 0
HaveDigests (Ok found) records image keys = (key : PartKey) → Contains keys key → HasDigestAt image records key
HaveDigests (Err e) records image keys = e ≡ refused.Failure (Damaged Digest) → (key : PartKey) × Contains keys key × (¬ HasDigestAt image records key)

-- the places of the parts of the deposits that a stated one follows
abbrev pub chain_keys : Records → List ℕ → statement.Statement → List PartKey
chain_keys records image stated = flat_map (part_keys (state_in records image)) (held_chain (state_in records image) stated)

-- the bytes that the image holds of the parts, and what is known of them
abbrev pub IsStated : Records → List ℕ → statement.Statement → StatedDeposit → Type 0
IsStated records image stated read = (read.joined.items ≡ joined_bytes (state_in records image) (first_part stated)) × (known_in read.about ≡ known_of (state_in records image) stated)

abbrev pub IsStatedRead : Result StatedDeposit Refused → Records → List ℕ → statement.Statement → Type 0
IsStatedRead result records image stated = IfOk result (IsStated records image stated) × HaveDigests result records image (verdict_keys (state_in records image) stated)

-- the reason is one of them, and its verdict the one on them, with all that it hangs on
abbrev pub IsReasonOf : Records → List ℕ → statement.Statement → Option Reason → Type 0
IsReasonOf records image stated found =
    (verdict_for found ≡ verdict_on (state_in records image) stated) × IfSome found (IsReason (joined_bytes (state_in records image) (first_part stated)) (known_of (state_in records image) stated))

abbrev pub IsStatedExplained : Result (Option Reason) Refused → Records → List ℕ → statement.Statement → Type 0
IsStatedExplained result records image stated = IfOk result (IsReasonOf records image stated) × HaveDigests result records image (verdict_keys (state_in records image) stated)

-- the verdict is that on the parts that the image holds, with all that it hangs on
abbrev pub IsVerified : Result Verdict Refused → Records → List ℕ → statement.Statement → Type 0
IsVerified result records image stated =
    IfOk result (λ found. found ≡ verdict_on (state_in records image) stated) × HaveDigests result records image (verdict_keys (state_in records image) stated)

-- there is an answer, or memory or the volume fails, or a digest; and the volume counts a failure where it is said to have failed, and none else
abbrev pub CountsVerifyFailure : {T : Type 0} → Result T Refused → (before now : ℕ) → Type 0
CountsVerifyFailure (Ok found) before now = now ≡ before
CountsVerifyFailure (Err (refused.Refusal refusal)) before now = ⊥
CountsVerifyFailure (Err (refused.Failure NoMemory)) before now = now ≡ before
CountsVerifyFailure (Err (refused.Failure VolumeFailed)) before now = now ≡ before + 1
CountsVerifyFailure (Err (refused.Failure StoreFailed)) before now = ⊥
CountsVerifyFailure (Err (refused.Failure Closed)) before now = ⊥
CountsVerifyFailure (Err (refused.Failure (Damaged damage))) before now = (damage ≡ Digest) × (now ≡ before)
