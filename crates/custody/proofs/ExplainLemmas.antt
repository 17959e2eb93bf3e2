-- A failure that is explained.
use Rattle.std.proofs.Common.{◌≡◌, ◌≢◌, ℕ, ◌+◌, List, Option, None, Some, true, false, sym, ◌∙◌, ap, subst, arith, Result, Ok, Err}
use Rattle.std.specs.Prelude.{is_none, IfNone, IfSome}
use Rattle.std.specs.Option.{option_and_then}
use Rattle.sqlite.specs.Store.{Ghosts}
use Rattle.vault_volume.specs.declared.volume.Volume as volume
use Rattle.desk.specs.declared.notices.Notice as desk
use Rattle.deposit_verify.specs.declared.reason.Reason.{Reason}
use Rattle.deposit_verify.specs.declared.verdict.Verdict.TheVariants.{Fail}
use Rattle.deposit_verify.specs.Reasons.{IsReason, reason_check, verdict_for}
use Rattle.custody_records.specs.Records.{Records}
use Rattle.custody_machine.specs.declared.answers.Failure.TheVariants.{NoMemory, VolumeFailed, StoreFailed, Closed, Damaged}
use Rattle.custody_machine.specs.Explaining.{known_before, notices_before, records_before}
use Rattle.custody_machine.specs.Machine.{first_part, joined_bytes}
use Rattle.custody_machine.specs.StoredState.{state_in}
use Rattle.custody_rules.specs.declared.explaining.StatedFailure.{StatedFailure}
use Rattle.custody_rules.specs.Explaining.{AreNoticesOf, HasFailed, failure_key}
use Rattle.custody.specs.declared.answers.Refused as not_accepted
use Rattle.custody.specs.declared.answers.Refused.TheVariants as refused
use Rattle.custody.specs.declared.custody.Custody.{Custody}
use Rattle.custody.specs.declared.explanation.Explanation.{Explanation}
use Rattle.custody.specs.Answers.{closing_failure, stays_open}
use Rattle.custody.specs.Custody.{failure_of, open_custody_of, is_open}
use Rattle.custody.specs.Explaining.{HasExplained, IsExplainDecided, IsExplained, IsSoundlyExplained, IsToldReason, taken_day}
use Rattle.custody.specs.OpenCustody.{current_records, image_of, failures_of}
use Rattle.custody.specs.Reading.{ReadsVault}
use Rattle.custody.specs.inside.Verifying.{CountsVerifyFailure, IsReasonOf, IsStatedExplained}
use Rattle.custody.proofs.Rested.{reads_rested}

module _ (records : Records) (tld : List ℕ) (day rev : ℕ) (found : StatedFailure) (failed : HasFailed records tld day rev found) where
  -- the records with the notices before that of the failure
  abbrev pub before : Records
  before = records_before records (failure_key found)

  -- these are the notices before it, of the registry that is asked of
  pub known_notices : (notices read : List desk.Notice) → notices ≡ read → AreNoticesOf (records_before records (record { tld = tld; number = found.number })) tld read → AreNoticesOf before tld notices
  known_notices notices read same are =
      subst (λ t. AreNoticesOf (records_before records (record { tld = t; number = found.number })) tld notices) (sym failed.registry)
      (subst (λ l. AreNoticesOf (records_before records (record { tld = tld; number = found.number })) tld l) (sym same) are)

  -- and of that of its statement
  pub stated_notices : (notices : List desk.Notice) → AreNoticesOf before tld notices → AreNoticesOf before found.statement.tld notices
  stated_notices notices are = subst (λ t. AreNoticesOf before t notices) (sym failed.registry) are

  module _ (image : List ℕ) where
    -- the reason that was found, where it is one of failing the check
    told_reason : (read reason : Option Reason) → IsReasonOf before image found.statement read → IfSome reason (λ r. (read ≡ Some r) × (reason_check r ≡ found.check)) → IfNone reason (verdict_for read ≢ Fail found.check)
        → IsToldReason (joined_bytes (state_in records image) (first_part found.statement)) (known_before (state_in records image) (failure_key found) found.statement) found.check reason
    told_reason read None explained some none = λ fails. none (explained.0 ∙ fails)
    told_reason read (Some reason) explained some none =
        let is_reason = IsReason (joined_bytes (state_in records image) (first_part found.statement)) (known_before (state_in records image) (failure_key found) found.statement) in
        (subst (λ o. IfSome o is_reason) some.0 explained.1, some.1)

    pub is_explained : (read reason : Option Reason) (passed_on : Option ℕ) → IsStatedExplained (Ok read) before image found.statement
        → IfSome reason (λ r. (read ≡ Some r) × (reason_check r ≡ found.check)) → IfNone reason (verdict_for read ≢ Fail found.check)
        → passed_on ≡ option_and_then (taken_day (notices_before records.notices (failure_key found)) tld) reason
        → IsSoundlyExplained records image tld day rev (record { check = found.check; reason = reason; passed_on = passed_on })
    is_explained read reason passed_on explained some none taken = record {
      held = failed.held image;
      explained = record {
        key = failure_key found;
        notice = failed.notice;
        stated = found.statement;
        registry = failed.registry;
        day_right = failed.day_right;
        rev_right = failed.rev_right;
        failed = failed.failed image;
        reason = told_reason read reason explained.0 some none;
        passed_on = taken;
      };
      sound = explained.1;
    }

    -- where it is not read
    pub not_explained : (e : not_accepted.Refused) (count later : ℕ) → CountsVerifyFailure {T = Option Reason} (Err e) count later → IsStatedExplained (Err e) before image found.statement → IsExplained records image tld day rev (Err e)
    not_explained (refused.Refusal refusal) count later counts explained = absurd counts
    not_explained (refused.Failure NoMemory) count later counts explained = tt
    not_explained (refused.Failure VolumeFailed) count later counts explained = tt
    not_explained (refused.Failure StoreFailed) count later counts explained = absurd counts
    not_explained (refused.Failure Closed) count later counts explained = absurd counts
    not_explained (refused.Failure (Damaged damage)) count later counts explained =
        let broken = explained.1 (ap (λ d. refused.Failure (Damaged d)) counts.0) in
        record { found = found; failed = failed; place = broken.0; among = broken.1; broken = broken.2 }

-- ---- a custody

module _ {V S : Type 0} {g : volume.Ghosts V} {database : Ghosts S} (old new : Custody V S g database) (serving : is_open old ≡ true) (same : current_records (open_custody_of new) ≡ current_records (open_custody_of old)) (store_same : (open_custody_of new).store ≡ (open_custody_of old).store)
    (read : ReadsVault (open_custody_of old).vault (open_custody_of new).vault) where
  pub has_explained : (tld : List ℕ) (day rev : ℕ) (answer : Result Explanation not_accepted.Refused) → failure_of new ≡ closing_failure answer → IsExplainDecided (current_records (open_custody_of old)) tld day rev answer
      → (g.tells → IsExplained (current_records (open_custody_of old)) (image_of (open_custody_of old)) tld day rev answer)
      → (stays_open answer ≡ false → failures_of (open_custody_of new) ≡ failures_of (open_custody_of old) + 1) → (stays_open answer ≡ true → failures_of (open_custody_of new) ≡ failures_of (open_custody_of old))
      → HasExplained old tld day rev answer new
  has_explained tld day rev answer closes decided told failed not_failed = let opened : is_open new ≡ stays_open answer = ap is_none closes in record {
    closed = λ shut. let clash : true ≡ false = sym serving ∙ shut in cc;
    closes = λ _. closes;
    decided = λ _. decided;
    told = λ _. told;
    rested = λ _. reads_rested database (open_custody_of old) (open_custody_of new) (old.order serving) same store_same read.free read.size (λ tells. (read.image tells, read.any_moment tells)) (is_open new)
        (λ shut. let one = failed (sym opened ∙ shut) in omega (arith, one)) (λ stays. not_failed (sym opened ∙ stays));
    unwritten = λ _ tells. (read.image tells, read.any_moment tells);
  }
