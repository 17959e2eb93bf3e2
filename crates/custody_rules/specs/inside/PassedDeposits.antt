-- The deposits that passed and the greatest number, as the rows of notices tell them.
use Rattle.std.specs.Prelude.{ℕ, max, List, Option, Some, None, Bool, false, if◌then◌else◌, nat_le, option_map, bytes_eq}
use Rattle.std.specs.List.{filter_map, fold}
use Rattle.std.specs.FinMap.{get}
use Rattle.deposit_name.specs.declared.kinds.Kind.TheVariants.{Full}
use Rattle.desk.specs.declared.notices.Notice as desk
use Rattle.desk.specs.declared.notices.NoticeKind.{NoticeKind}
use Rattle.desk.specs.declared.notices.NoticeKind.TheVariants.{Receipt}
use Rattle.custody_records.specs.Records.{Records}
use Rattle.custody_machine.specs.Machine.{passed_id}
use Rattle.custody_machine.specs.StoredState.{is_part_of}
use Rattle.custody_rules.specs.declared.passed_deposits.PassedDeposit.{PassedDeposit}

abbrev pub passed_pair : PassedDeposit → ℕ × List ℕ
passed_pair passed = (passed.day, passed.id)

-- the deposit that a notice tells to have passed
abbrev pub passed_deposit_of : desk.Notice → Option (ℕ × List ℕ)
passed_deposit_of notice = option_map (λ (id : List ℕ). (notice.day, id)) (passed_id notice.kind)

abbrev pub passed_deposits_of : List desk.Notice → List (ℕ × List ℕ)
passed_deposits_of = filter_map passed_deposit_of

-- a receipt is of a full deposit: the first part of its revision is one of it
abbrev pub is_receipt_of_full_in : Records → List ℕ → ℕ → NoticeKind → Bool
is_receipt_of_full_in records tld day (Receipt rev _) = is_part_of Full (get records.parts (record { tld = tld; day = day; rev = rev; part = 1 }))
is_receipt_of_full_in records tld day _ = false

-- a row tells that a full deposit passed
abbrev pub tells_full_in : Records → desk.Notice → Bool
tells_full_in records notice = is_receipt_of_full_in records notice.tld notice.day notice.kind

-- of two deposits the later one, and of one day the first
abbrev pub later_pair : Option (ℕ × List ℕ) → ℕ × List ℕ → ℕ × List ℕ
later_pair None next = next
later_pair (Some before) next = if nat_le next.0 before.0 then before else next

abbrev pub greatest_notice_number : List desk.Notice → ℕ
greatest_notice_number = fold (λ greatest (notice : desk.Notice). max greatest notice.number) 0

-- a notice tells that a deposit with this id has passed
abbrev pub is_of_id : List ℕ → Option (List ℕ) → Bool
is_of_id id None = false
is_of_id id (Some passed) = bytes_eq passed id

abbrev pub has_passed : List ℕ → desk.Notice → Bool
has_passed id notice = is_of_id id (passed_id notice.kind)
