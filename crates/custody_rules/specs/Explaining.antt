-- A revision that has failed, and the notices before that, as the records have them.
use Rattle.std.specs.Prelude.{◌≡◌, ℕ, List, None, Some}
use Rattle.std.specs.FinMap.{get}
use Rattle.desk.specs.declared.notices.Notice as desk
use Rattle.custody_records.specs.Keys.{NoticeKey}
use Rattle.custody_records.specs.Records.{Notice, PartRecord, Records, key_of, notices_of}
use Rattle.custody_records.specs.Tables.{row_entries}
use Rattle.custody_records.specs.TypedRecords.{notice_key, notice_value}
use Rattle.custody_machine.specs.Explaining.{IsFailureOf, explain_refusal}
use Rattle.custody_machine.specs.Machine.{first_part}
use Rattle.custody_machine.specs.StoredState.{state_in}
use Rattle.custody_rules.specs.declared.explaining.StatedFailure.{StatedFailure}

-- these are a registry's notices, by number
abbrev pub AreNoticesOf : Records → List ℕ → List desk.Notice → Type 0
AreNoticesOf records tld notices = row_entries notice_key notice_value notices ≡ notices_of records tld

-- the key of its notice
abbrev pub failure_key : StatedFailure → NoticeKey
failure_key found = record { tld = found.statement.tld; number = found.number }

-- A revision has failed, its parts are held, and this is what its notice tells and what was stated.
pub record HasFailed (records : Records) (tld : List ℕ) (day rev : ℕ) (found : StatedFailure) : Type 0 where
  pub registry : found.statement.tld ≡ tld
  pub day_right : found.statement.day ≡ day
  pub rev_right : found.statement.rev ≡ rev
  pub notice : Notice
  pub failed : (image : List ℕ) → IsFailureOf (state_in records image) (failure_key found) notice found.statement found.check
  pub held : (image : List ℕ) → explain_refusal (state_in records image) tld day rev ≡ None
  pub first : PartRecord
  pub first_recorded : get records.parts (key_of (first_part found.statement)) ≡ Some first
  pub first_kind : first.kind ≡ found.statement.kind
