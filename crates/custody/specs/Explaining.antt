-- Why a revision has failed, as it is explained.
use Rattle.std.specs.Prelude.{◌≡◌, ◌≢◌, ◌⊎◌, ℕ, List, Contains, Option, None, Some, true, false, Result, Ok, Err}
use Rattle.std.specs.FinMap.{FinMap}
use Rattle.std.specs.Option.{option_and_then}
use Rattle.vault_volume.specs.declared.volume.Volume as volume
use Rattle.sqlite.specs.Store.{Ghosts}
use Rattle.desk.specs.declared.checks.Check.{Check}
use Rattle.deposit_verify.specs.declared.reason.Reason.{Reason}
use Rattle.deposit_verify.specs.declared.reason.Reason.TheVariants.{Header}
use Rattle.deposit_verify.specs.declared.header_reason.HeaderReason.TheVariants.{IdTaken}
use Rattle.deposit_verify.specs.declared.verdict.Verdict.TheVariants.{Fail}
use Rattle.deposit_verify.specs.Known.{Known}
use Rattle.deposit_verify.specs.Reasons.{IsReason, reason_check}
use Rattle.deposit_verify.specs.Verdict.{verdict}
use Rattle.custody_records.specs.Keys.{NoticeKey, PartKey, notice_cmp}
use Rattle.custody_records.specs.Records.{Notice, Records}
use Rattle.custody_machine.specs.declared.answers.Failure.TheVariants.{NoMemory, VolumeFailed, StoreFailed, Closed, Damaged}
use Rattle.custody_machine.specs.declared.damage.Damage.TheVariants.{Digest}
use Rattle.custody_machine.specs.declared.command.Statement as statement
use Rattle.custody_machine.specs.Explaining.{IsFailureOf, explain_refusal, keys_before, known_before, notices_before, passed_day}
use Rattle.custody_machine.specs.Machine.{first_part, joined_bytes}
use Rattle.custody_machine.specs.State.{State}
use Rattle.custody_machine.specs.StoredState.{HasDigestAt, state_in}
use Rattle.custody_rules.specs.declared.explaining.StatedFailure.{StatedFailure}
use Rattle.custody_rules.specs.Explaining.{HasFailed}
use Rattle.custody.specs.declared.answers.Refused.{Refused}
use Rattle.custody.specs.declared.answers.Refused.TheVariants as refused
use Rattle.custody.specs.declared.custody.Custody.{Custody}
use Rattle.custody.specs.declared.explanation.Explanation.{Explanation}
use Rattle.custody.specs.Answers.{closing_failure}
use Rattle.custody.specs.Custody.{failure_of, open_custody_of, is_open}
use Rattle.custody.specs.OpenCustody.{current_records, image_of, IsUnwritten}
use Rattle.custody.specs.OtherCalls.{RecordsNothing}

-- ---- what is told

-- the reason why these bytes fail the check; none where by what is held they do not fail it
abbrev pub IsToldReason : List ℕ → Known → Check → Option Reason → Type 0
IsToldReason joined known check (Some reason) = IsReason joined known reason × (reason_check reason ≡ check)
IsToldReason joined known check None = verdict joined known ≢ Fail check

-- of an id that had been used, the day of the first deposit that had passed with it
abbrev pub taken_day : FinMap notice_cmp Notice → List ℕ → Reason → Option ℕ
taken_day notices tld (Header (IdTaken id)) = passed_day notices tld id
taken_day notices tld _ = None

-- What was stated of a revision has failed a check, as a notice tells; and this is why, by what was known before that notice.
pub record IsExplanation (state : State) (tld : List ℕ) (day rev : ℕ) (told : Explanation) : Type 0 where
  pub key : NoticeKey
  pub notice : Notice
  pub stated : statement.Statement
  pub registry : stated.tld ≡ tld
  pub day_right : stated.day ≡ day
  pub rev_right : stated.rev ≡ rev
  pub failed : IsFailureOf state key notice stated told.check
  pub reason : IsToldReason (joined_bytes state (first_part stated)) (known_before state key stated) told.check told.reason
  pub passed_on : told.passed_on ≡ option_and_then (taken_day (notices_before state.notices key) tld) told.reason

-- ---- answers

-- Whatever the volume is: a refusal is the one that the records decide; where they decide none, the notice's check is told, or memory, the volume or a digest fails.
abbrev pub IsExplainDecided : Records → List ℕ → ℕ → ℕ → Result Explanation Refused → Type 0
IsExplainDecided records tld day rev (Ok told) = (found : StatedFailure) × HasFailed records tld day rev found × (told.check ≡ found.check)
IsExplainDecided records tld day rev (Err (refused.Refusal refusal)) = (image : List ℕ) → explain_refusal (state_in records image) tld day rev ≡ Some refusal
IsExplainDecided records tld day rev (Err (refused.Failure failure)) = (found : StatedFailure) × HasFailed records tld day rev found × ((failure ≡ NoMemory) ⊎ ((failure ≡ VolumeFailed) ⊎ (failure ≡ Damaged Digest)))

-- the explanation of the state, each part that it hangs on having its digest
pub record IsSoundlyExplained (records : Records) (image tld : List ℕ) (day rev : ℕ) (told : Explanation) : Type 0 where
  pub held : explain_refusal (state_in records image) tld day rev ≡ None
  pub explained : IsExplanation (state_in records image) tld day rev told
  pub sound : (key : PartKey) → Contains (keys_before (state_in records image) explained.key explained.stated) key → HasDigestAt image records key

-- a part that the explanation hangs on has not its digest
pub record IsExplanationDamaged (records : Records) (image tld : List ℕ) (day rev : ℕ) : Type 0 where
  pub found : StatedFailure
  pub failed : HasFailed records tld day rev found
  pub place : PartKey
  pub among : Contains (keys_before (state_in records image) (record { tld = found.statement.tld; number = found.number }) found.statement) place
  pub broken : ¬ HasDigestAt image records place

-- Where the volume tells its image: the explanation of the state, or its refusal; damage is told where a part that it hangs on has not its digest.
abbrev pub IsExplained : Records → (image tld : List ℕ) → ℕ → ℕ → Result Explanation Refused → Type 0
IsExplained records image tld day rev (Ok told) = IsSoundlyExplained records image tld day rev told
IsExplained records image tld day rev (Err (refused.Refusal refusal)) = explain_refusal (state_in records image) tld day rev ≡ Some refusal
IsExplained records image tld day rev (Err (refused.Failure NoMemory)) = Unit {0}
IsExplained records image tld day rev (Err (refused.Failure VolumeFailed)) = Unit {0}
IsExplained records image tld day rev (Err (refused.Failure StoreFailed)) = ⊥
IsExplained records image tld day rev (Err (refused.Failure Closed)) = ⊥
IsExplained records image tld day rev (Err (refused.Failure (Damaged damage))) = IsExplanationDamaged records image tld day rev

module _ {V S : Type 0} {g : volume.Ghosts V} {database : Ghosts S} where
  -- What an explanation does to a custody, and answers.
  pub record HasExplained (old : Custody V S g database) (tld : List ℕ) (day rev : ℕ) (answer : Result Explanation Refused) (new : Custody V S g database) : Type 0 where
    -- a closed one says so, and is as it was
    pub closed : is_open old ≡ false → (answer ≡ Err (refused.Failure Closed)) × (new ≡ old)
    -- an open one is closed by a failure of the volume, which is answered, and by nothing else
    pub closes : is_open old ≡ true → failure_of new ≡ closing_failure answer
    -- what the records decide is answered
    pub decided : is_open old ≡ true → IsExplainDecided (current_records (open_custody_of old)) tld day rev answer
    -- and the reason in what the volume holds
    pub told : is_open old ≡ true → g.tells → IsExplained (current_records (open_custody_of old)) (image_of (open_custody_of old)) tld day rev answer
    -- it is no command
    pub rested : is_open old ≡ true → RecordsNothing database (open_custody_of old) (is_open new) (open_custody_of new)
    -- and writes nothing
    pub unwritten : is_open old ≡ true → g.tells → IsUnwritten (open_custody_of old) (open_custody_of new)
