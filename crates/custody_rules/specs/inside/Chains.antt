-- The deposits that passed, as notices tell them.
use Rattle.std.specs.Prelude.{ℕ, List, Bool, Option, Some, None}
use Rattle.std.specs.List.{list_any}
use Rattle.deposit_name.specs.Name.{Name}
use Rattle.desk.specs.declared.notices.Notice as desk
use Rattle.desk.specs.declared.notices.NoticeKind.{NoticeKind}
use Rattle.desk.specs.declared.notices.NoticeKind.TheVariants.{Receipt}
use Rattle.custody_records.specs.TypedRecords.{notice_entry}
use Rattle.custody_machine.specs.Machine.{is_receipt_of}
use Rattle.custody_machine.specs.State.{is_notice_of}
use Rattle.custody_rules.specs.declared.chain.PassedRevision.{PassedRevision}

-- the revision that a name is of
abbrev pub revision_of_name : Name → PassedRevision
revision_of_name name = record { day = name.day; rev = name.rev }

-- a revision of a day, where a notice of this kind is its receipt
abbrev pub revision_if_receipt : ℕ → NoticeKind → Option PassedRevision
revision_if_receipt day (Receipt rev _) = Some (record { day = day; rev = rev })
revision_if_receipt day _ = None

-- the revision that a notice is the receipt of
abbrev pub passed_revision_of : desk.Notice → Option PassedRevision
passed_revision_of notice = revision_if_receipt notice.day notice.kind

-- by these notices a revision of a registry passed
abbrev pub has_passed_by : List desk.Notice → List ℕ → PassedRevision → Bool
has_passed_by notices tld revision = list_any (λ notice. is_notice_of tld revision.day (is_receipt_of revision.rev) (notice_entry notice)) notices
