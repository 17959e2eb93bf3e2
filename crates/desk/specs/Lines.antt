-- The report of a registry: one line a notice.
use Rattle.std.specs.Prelude.{◌-◌, ◌≤◌, ℕ, List, ◌++◌, codes, decimal, flat_map, length, replicate, take, Option}
use Rattle.std.specs.Io.KnownBytes.{Appends}
use Rattle.schedule.specs.Text.{day_text, moment_text, two_digits}
use Rattle.desk.specs.Checks.{check_text}
use Rattle.desk.specs.declared.notices.Notice.{Notice}
use Rattle.desk.specs.declared.notices.NoticeKind.{NoticeKind}
use Rattle.desk.specs.declared.notices.NoticeKind.TheVariants.{Receipt, Failure, Absence}

-- a text in so many places, with spaces before it
abbrev pub right_aligned_text : ℕ → List ℕ → List ℕ
right_aligned_text width text = replicate (width - length text) 32 ++ text

-- and with spaces behind it
abbrev pub left_aligned_text : ℕ → List ℕ → List ℕ
left_aligned_text width text = text ++ replicate (width - length text) 32

-- what a notice tells
abbrev pub notice_kind_text : NoticeKind → List ℕ
notice_kind_text (Receipt rev id) = codes "RECEIPT"
notice_kind_text (Failure rev id check) = codes "FAILURE-" ++ check_text check
notice_kind_text Absence = codes "ABSENCE"

-- the resend number of its deposit
abbrev pub revision_text : NoticeKind → List ℕ
revision_text (Receipt rev id) = codes "R" ++ two_digits rev
revision_text (Failure rev id check) = codes "R" ++ two_digits rev
revision_text Absence = codes "---"

-- the id of its deposit
abbrev pub id_text : NoticeKind → List ℕ
id_text (Receipt rev id) = id
id_text (Failure rev id check) = id
id_text Absence = codes "-"

-- the line of a notice: its number, what it tells, the day, the resend number and the id of the deposit, when it was made, and the registry
abbrev pub line : Notice → List ℕ
line n =
    right_aligned_text 8 (decimal n.number) ++ codes " " ++ left_aligned_text 10 (notice_kind_text n.kind) ++ codes " " ++ day_text n.day ++ codes " "
    ++ revision_text n.kind ++ codes " " ++ left_aligned_text 13 (id_text n.kind) ++ codes " " ++ moment_text n.at ++ codes " " ++ n.tld ++ codes "\n"

-- all lines in order
abbrev pub report_text : List Notice → List ℕ
report_text notices = flat_map line notices

-- a writer took a beginning of the text
abbrev pub AppendsBeginning : Option (List ℕ) → Option (List ℕ) → List ℕ → Type 0
AppendsBeginning old new text = (taken : ℕ) × (taken ≤ length text) × Appends old new (take taken text)
