-- What notices tell that no two of them may tell.
use Rattle.std.specs.Prelude.{◌≡◌, ℕ, List, Option, Some, None, Bool, true}
use Rattle.std.specs.FinMap.{FinMap, get}
use Rattle.std.specs.List.{slice_get}
use Rattle.desk.specs.Standing.{is_receipt}
use Rattle.desk.specs.declared.notices.Notice.{Notice}
use Rattle.desk.specs.declared.notices.NoticeKind.{NoticeKind}
use Rattle.desk.specs.declared.notices.NoticeKind.TheVariants.{Receipt, Failure}
use Rattle.custody_records.specs.Keys.{NoticeKey, notice_cmp}
use Rattle.custody_records.specs.Records as records
use Rattle.custody_machine.specs.Machine.{is_absence, is_failure_of}
use Rattle.custody_machine.specs.State.{has_notice}
use Rattle.custody_machine.specs.StoredState.{AreOfOneDay, revision_of}
use Rattle.custody_rules.specs.declared.unique_keys.Subject.{Subject}
use Rattle.custody_rules.specs.declared.unique_keys.RegistryDay.{RegistryDay}
use Rattle.custody_rules.specs.declared.unique_keys.FailedRevision.{FailedRevision}

-- what a notice is about
abbrev pub subject_of : Notice → Option Subject
subject_of notice = Some (record { tld = notice.tld; day = notice.day; rev = revision_of notice.kind })

-- a day, where a notice of this kind is its receipt
abbrev pub day_if_receipt : List ℕ → ℕ → NoticeKind → Option RegistryDay
day_if_receipt tld day (Receipt _ _) = Some (record { tld = tld; day = day })
day_if_receipt tld day _ = None

-- the day that a notice is the receipt of
abbrev pub received_day_of : Notice → Option RegistryDay
received_day_of notice = day_if_receipt notice.tld notice.day notice.kind

-- a revision of a day, where a notice of this kind tells its failure
abbrev pub revision_if_failure : List ℕ → ℕ → NoticeKind → Option FailedRevision
revision_if_failure tld day (Failure rev _ _) = Some (record { tld = tld; day = day; rev = rev })
revision_if_failure tld day _ = None

-- the revision that a notice tells the failure of
abbrev pub failed_revision_of : Notice → Option FailedRevision
failed_revision_of notice = revision_if_failure notice.tld notice.day notice.kind

-- one of the notices tells it
pub record IsKeyAmong {T : Type 0} (told_by : Notice → Option T) (notices : List Notice) (t : T) : Type 0 where
  pub place : ℕ
  pub notice : Notice
  pub at : slice_get notices place ≡ Some notice
  pub tells : told_by notice ≡ Some t

-- of two notices that tell the same the one is the other
abbrev pub HaveUniqueKeys : {T : Type 0} → (Notice → Option T) → List Notice → Type 0
HaveUniqueKeys {T} told_by notices = (i j : ℕ) (m n : Notice) (t : T) → slice_get notices i ≡ Some m → slice_get notices j ≡ Some n → told_by m ≡ Some t → told_by n ≡ Some t → i ≡ j

-- ---- what the notices of records tell

-- one of them tells that the revision has failed
abbrev pub has_failed : FinMap notice_cmp records.Notice → FailedRevision → Bool
has_failed notices t = has_notice notices t.tld t.day (is_failure_of t.rev)

-- no day has two verdicts of one revision, two receipts or two absences
pub record HaveNoRivals (notices : FinMap notice_cmp records.Notice) : Type 0 where
  pub one_verdict : (j k : NoticeKey) (m n : records.Notice) (rev : ℕ) → get notices j ≡ Some m → get notices k ≡ Some n → AreOfOneDay j m k n → revision_of m.kind ≡ Some rev → revision_of n.kind ≡ Some rev → j ≡ k
  pub one_receipt : (j k : NoticeKey) (m n : records.Notice) → get notices j ≡ Some m → get notices k ≡ Some n → AreOfOneDay j m k n → is_receipt m.kind ≡ true → is_receipt n.kind ≡ true → j ≡ k
  pub one_absence : (j k : NoticeKey) (m n : records.Notice) → get notices j ≡ Some m → get notices k ≡ Some n → AreOfOneDay j m k n → is_absence m.kind ≡ true → is_absence n.kind ≡ true → j ≡ k
