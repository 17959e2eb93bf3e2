-- The machine of commands: what each is answered, and what is kept after it (Specification 2, Part B).
use Rattle.std.specs.Prelude.{◌≡◌, ◌≢◌, ℕ, suc, ◌+◌, ◌-◌, max, List, [], ◌∷◌, map, length, Option, Some, None, option_map, Bool, true, false, not, ◌&&◌, ◌||◌, if◌then◌else◌, nat_lt, nat_le, ◌==◌, is_some, is_none, unwrap_or, count_by, Result, Ok, Err, bytes_eq}
use Rattle.std.specs.List.{filter, filter_map, find, flat_map, last_or, list_all, list_any}
use Rattle.std.specs.Option.{option_and_then}
use Rattle.std.specs.FinMap.{FinMap, entries, get, insert}
use Rattle.std.specs.Ordering.{nat_cmp}
use Rattle.schedule.specs.Schedule.{day_of, year_after}
use Rattle.deposit_name.specs.declared.kinds.Kind.{Kind}
use Rattle.deposit_name.specs.declared.kinds.Kind.TheVariants.{Full, Diff, Incr}
use Rattle.deposit_name.specs.declared.errors.NameError.{NameError}
use Rattle.deposit_name.specs.Name.{Name, name_text, is_same_kind}
use Rattle.desk.specs.Standing.{ground_stands, is_receipt}
use Rattle.desk.specs.declared.grounds.Ground.{Ground}
use Rattle.desk.specs.declared.notices.Notice as desk
use Rattle.desk.specs.declared.notices.NoticeKind.{NoticeKind}
use Rattle.desk.specs.declared.notices.NoticeKind.TheVariants.{Receipt, Failure as FailureNotice, Absence}
use Rattle.deposit_verify.specs.declared.base.Base.{Base}
use Rattle.deposit_verify.specs.declared.verdict.Verdict.{Verdict}
use Rattle.deposit_verify.specs.declared.verdict.Verdict.TheVariants.{Pass, Fail}
use Rattle.deposit_verify.specs.Bases.{base_at}
use Rattle.deposit_verify.specs.Known.{Known}
use Rattle.deposit_verify.specs.Verdict.{verdict}
use Rattle.custody_records.specs.Keys.{text_cmp, PartKey, NoticeKey, notice_cmp}
use Rattle.custody_records.specs.Purge.{is_on_hold}
use Rattle.custody_records.specs.Records as records
use Rattle.custody_records.specs.Records.{Notice, key_of, lifted_at, name_of, new_hold}
use Rattle.custody_records.specs.Tables.{is_rising}
pub use Rattle.custody_machine.specs.declared.damage.Damage.{Damage}
pub use Rattle.custody_machine.specs.declared.answers.Refusal.{Refusal}
pub use Rattle.custody_machine.specs.declared.answers.Refusal.TheVariants.{NameRefused, RegistryUnknown, DateOutOfRange, Size, OtherBytes, DroppedAfterKeeping, RevisionNotDue, AlreadyStated, TypeDiffers, PartOutOfOrder, VolumeFull, PartsDiffer, LaterDayPassed, NotYetDue, DayHasVerdict, GroundDoesNotStand, ReferenceUsed, NotInRelease, ReleaseUnknown, HoldReferenceUsed, HoldUnknown, NoFailure}
pub use Rattle.custody_machine.specs.declared.answers.Failure.{Failure}
pub use Rattle.custody_machine.specs.declared.answers.Failure.TheVariants.{NoMemory, VolumeFailed, StoreFailed, Closed, Damaged}
use Rattle.custody_machine.specs.declared.damage.Damage.TheVariants.{Digest}
pub use Rattle.extent_map.specs.Limits.{max_part_len}
use Rattle.custody_machine.specs.NameReading.{read_name}
use Rattle.custody_machine.specs.SameValues.{is_same_ground}
use Rattle.custody_machine.specs.MapValues.{map_keyed}
use Rattle.custody_machine.specs.declared.command.Statement as statement
use Rattle.custody_machine.specs.State.{State, Part, Content, Held, Dropped, part_numbers, key_with_part, is_notice_of, has_notice}

-- ---- what is asked and answered

pub data Command : Type 0 where
  -- takes on a registry, whose deposits begin on a day
  Register : (tld : List ℕ) → (first_day : ℕ) → Command
  -- takes a part of a deposit under its file name (Part A section 5)
  Receive : (name : List ℕ) → (bytes : List ℕ) → Command
  -- has a deposit verified whose parts are all there, as its operator states (Part A section 7)
  Statement : statement.Statement → Command
  -- has it recorded that a scheduled deposit was not received (Part B section 7)
  Check : (tld : List ℕ) → (day : ℕ) → Command
  -- hands the deposits of a registry over on a ground (Part B section 6)
  Release : (reference : List ℕ) → (tld : List ℕ) → (reason : Ground) → Command
  -- has no part of a registry's day dropped, until the hold is lifted
  Hold : (reference : List ℕ) → (tld : List ℕ) → (day : ℕ) → Command
  Lift : (reference : List ℕ) → Command
  -- drops the bytes that were kept for a year (Part B section 4)
  Purge : Command

-- a record of the state: the one that a command made, or found made. A purge makes none, and is answered by a count.
pub data Record : Type 0 where
  OfRegistry : (tld : List ℕ) → (first_day : ℕ) → Record
  OfPart : PartKey → Part → Record
  OfNotice : NoticeKey → Notice → Record
  OfRelease : (reference : List ℕ) → records.Release → Record
  OfHold : (reference : List ℕ) → records.Hold → Record
  -- that the hold of a reference was lifted, at a moment
  OfLifting : (reference : List ℕ) → (at : ℕ) → Record
  -- of how many parts the bytes were dropped
  OfPurge : (count : ℕ) → Record

pub record Reply : Type 0 where
  pub entry : Record
  pub is_repeat : Bool

pub data Step : Type 0 where
  Refuse : Refusal → Step
  Accept : Reply → State → Step

-- ---- the state, as the rules read it

abbrev pub first_day_of : State → List ℕ → Option ℕ
first_day_of state tld = get state.registries tld

abbrev pub part_at : State → PartKey → Option Part
part_at state key = get state.parts key

abbrev pub part_of_kind : Kind → Part → Option Part
part_of_kind kind part = if is_same_kind part.kind kind then Some part else None

-- the part that is recorded under a name. The name has a kind: a part of another kind in the same place is not recorded under it
abbrev pub part_under_name : State → Name → Option Part
part_under_name state name = option_and_then (part_of_kind name.kind) (part_at state (key_of name))

-- the part at a place of a name's revision
abbrev pub revision_part : State → Name → ℕ → Option Part
revision_part state name place = part_at state (key_with_part (key_of name) place)

abbrev pub has_other_kind : Kind → Option Part → Bool
has_other_kind kind None = false
has_other_kind kind (Some part) = not (is_same_kind part.kind kind)

abbrev pub is_receipt_of : ℕ → NoticeKind → Bool
is_receipt_of rev (Receipt of _) = of == rev
is_receipt_of rev (FailureNotice _ _ _) = false
is_receipt_of rev Absence = false

abbrev pub is_verdict_of : ℕ → NoticeKind → Bool
is_verdict_of rev (Receipt of _) = of == rev
is_verdict_of rev (FailureNotice of _ _) = of == rev
is_verdict_of rev Absence = false

abbrev pub is_verdict : NoticeKind → Bool
is_verdict (Receipt _ _) = true
is_verdict (FailureNotice _ _ _) = true
is_verdict Absence = false

abbrev pub is_absence : NoticeKind → Bool
is_absence (Receipt _ _) = false
is_absence (FailureNotice _ _ _) = false
is_absence Absence = true

abbrev pub is_failure_of : ℕ → NoticeKind → Bool
is_failure_of rev (Receipt _ _) = false
is_failure_of rev (FailureNotice of _ _) = of == rev
is_failure_of rev Absence = false

abbrev pub is_held_with : List ℕ → Content → Bool
is_held_with bytes (Held kept) = bytes_eq kept bytes
is_held_with bytes (Dropped _) = false

abbrev pub is_held_with_other : List ℕ → Content → Bool
is_held_with_other bytes (Held kept) = not (bytes_eq kept bytes)
is_held_with_other bytes (Dropped _) = false

abbrev pub has_other_bytes : List ℕ → Option Part → Bool
has_other_bytes bytes None = false
has_other_bytes bytes (Some part) = is_held_with_other bytes part.content

abbrev pub are_bytes_dropped : Content → Bool
are_bytes_dropped (Held _) = false
are_bytes_dropped (Dropped _) = true

abbrev pub is_dropped : Option Part → Bool
is_dropped None = false
is_dropped (Some part) = are_bytes_dropped part.content

-- the bytes of a part, none where they are dropped
abbrev pub bytes_in : Content → List ℕ
bytes_in (Held bytes) = bytes
bytes_in (Dropped _) = []

abbrev pub bytes_held : Option Part → List ℕ
bytes_held None = []
bytes_held (Some part) = bytes_in part.content

-- ---- what a statement speaks of

-- the name of the first of its parts
abbrev pub first_part : statement.Statement → Name
first_part stated = record { tld = stated.tld; day = stated.day; kind = stated.kind; part = 1; rev = stated.rev }

-- how many parts the revision of a name has
abbrev pub count_parts : State → Name → ℕ
count_parts state name = count_by (λ place. is_some (revision_part state name place)) part_numbers

abbrev pub has_part_of_other_kind : State → Name → Bool
has_part_of_other_kind state name = list_any (λ place. has_other_kind name.kind (revision_part state name place)) part_numbers

abbrev pub has_dropped_part : State → Name → Bool
has_dropped_part state name = list_any (λ place. is_dropped (revision_part state name place)) part_numbers

-- the bytes of the revision's parts, joined in the order of the series
abbrev pub joined_bytes : State → Name → List ℕ
joined_bytes state name = flat_map (λ place. bytes_held (revision_part state name place)) part_numbers

-- a verdict has this id
abbrev pub has_id : List ℕ → NoticeKind → Bool
has_id id (Receipt _ of) = bytes_eq of id
has_id id (FailureNotice _ of _) = bytes_eq of id
has_id id Absence = false

-- the verdict on its revision, with its number
abbrev pub recorded_verdict : State → statement.Statement → Option (NoticeKey × Notice)
recorded_verdict state stated = find (is_notice_of stated.tld stated.day (is_verdict_of stated.rev)) (entries state.notices)

abbrev pub if_of_id : List ℕ → NoticeKey × Notice → Option (NoticeKey × Notice)
if_of_id id entry = if has_id id entry.1.kind then Some entry else None

abbrev pub has_verdict : State → statement.Statement → Bool
has_verdict state stated = has_notice state.notices stated.tld stated.day (is_verdict_of stated.rev)

-- the revision has no part, or another number of them than is stated
abbrev pub has_other_count : State → statement.Statement → Bool
has_other_count state stated = count_parts state (first_part stated) == 0 || not (count_parts state (first_part stated) == stated.parts)

-- the parts are those stated, by their kind and their number
abbrev pub are_parts_as_stated : State → statement.Statement → Bool
are_parts_as_stated state stated = not (has_part_of_other_kind state (first_part stated)) && not (has_other_count state stated)

-- the verdict that was made on the same statement: it has its id
abbrev pub kept_verdict : State → statement.Statement → Option (NoticeKey × Notice)
kept_verdict state stated = if are_parts_as_stated state stated then option_and_then (if_of_id stated.id) (recorded_verdict state stated) else None

abbrev pub has_later_receipt : State → statement.Statement → Bool
has_later_receipt state stated = list_any (λ (entry : NoticeKey × Notice). bytes_eq entry.0.tld stated.tld && (nat_lt stated.day entry.1.day && is_receipt entry.1.kind)) (entries state.notices)

-- ---- what a check speaks of

-- the absence of a day that is recorded, with its number
abbrev pub absence_of : State → List ℕ → ℕ → Option (NoticeKey × Notice)
absence_of state tld day = find (is_notice_of tld day is_absence) (entries state.notices)

-- ---- what a release speaks of

abbrev pub release_of : State → List ℕ → Option records.Release
release_of state reference = get state.releases reference

-- a release is of this registry, on this ground
abbrev pub is_on_ground : List ℕ → Ground → records.Release → Bool
is_on_ground tld reason release = bytes_eq release.tld tld && is_same_ground release.reason reason

abbrev pub if_on_ground : List ℕ → Ground → records.Release → Option records.Release
if_on_ground tld reason release = if is_on_ground tld reason release then Some release else None

-- the release that was made on the same request
abbrev pub kept_release : State → List ℕ → List ℕ → Ground → Option records.Release
kept_release state reference tld reason = option_and_then (if_on_ground tld reason) (release_of state reference)

-- a notice as it was told
abbrev pub told_notice : NoticeKey × Notice → desk.Notice
told_notice entry = record { number = entry.0.number; tld = entry.0.tld; day = entry.1.day; at = entry.1.at; kind = entry.1.kind }

-- the notices of a registry, by number
abbrev pub notices_told_to : FinMap notice_cmp Notice → List ℕ → List desk.Notice
notices_told_to notices tld = map told_notice (filter (λ (entry : NoticeKey × Notice). bytes_eq entry.0.tld tld) (entries notices))

-- the ground stands by the notices of the registry
abbrev pub has_ground : State → List ℕ → Ground → ℕ → Bool
has_ground state tld reason now = ground_stands reason (notices_told_to state.notices tld) now

-- the name of a part of the registry whose bytes are held
abbrev pub held_name : List ℕ → PartKey × Part → Option (List ℕ)
held_name tld entry = if bytes_eq entry.0.tld tld && not (are_bytes_dropped entry.1.content) then Some (name_text (name_of entry.0 entry.1.kind)) else None

-- the names of all of them, by day, revision and place in the series
abbrev pub held_names : State → List ℕ → List (List ℕ)
held_names state tld = filter_map (held_name tld) (entries state.parts)

-- ---- what a hold and its lifting speak of

abbrev pub hold_of : State → List ℕ → Option records.Hold
hold_of state reference = get state.holds reference

-- a hold is of this registry and day
abbrev pub is_held_day : List ℕ → ℕ → records.Hold → Bool
is_held_day tld day hold = bytes_eq hold.tld tld && hold.day == day

abbrev pub if_held_day : List ℕ → ℕ → records.Hold → Option records.Hold
if_held_day tld day hold = if is_held_day tld day hold then Some hold else None

-- the hold that was made on the same request, lifted or not
abbrev pub kept_hold : State → List ℕ → List ℕ → ℕ → Option records.Hold
kept_hold state reference tld day = option_and_then (if_held_day tld day) (hold_of state reference)

-- when the hold of a reference was lifted
abbrev pub lifting_of : State → List ℕ → Option ℕ
lifting_of state reference = option_and_then (λ (hold : records.Hold). hold.lifted) (hold_of state reference)

-- ---- what a purge drops

abbrev pub content_len : Content → ℕ
content_len (Held bytes) = length bytes
content_len (Dropped n) = n

-- a part whose bytes are dropped
abbrev pub without_bytes : Part → Part
without_bytes part = record { kind = part.kind; received = part.received; content = Dropped (content_len part.content) }

-- its bytes are held, the last day of their keeping is before this day, and its day is not on hold
abbrev pub is_due_part : FinMap text_cmp records.Hold → ℕ → PartKey → Part → Bool
is_due_part holds today key part = not (are_bytes_dropped part.content) && (nat_lt (year_after (day_of part.received)) today && not (is_on_hold holds key))

abbrev pub part_dropped_if_due : FinMap text_cmp records.Hold → ℕ → PartKey → Part → Part
part_dropped_if_due holds today key part = if is_due_part holds today key part then without_bytes part else part

abbrev pub count_due : State → ℕ → ℕ
count_due state today = count_by (λ (entry : PartKey × Part). is_due_part state.holds today entry.0 entry.1) (entries state.parts)

-- ---- deposits that passed

-- the id of a deposit that passed
abbrev pub passed_id : NoticeKind → Option (List ℕ)
passed_id (Receipt _ id) = Some id
passed_id (FailureNotice _ _ _) = None
passed_id Absence = None

-- the day and the id of a registry's deposit that passed, where a notice tells it
abbrev pub passed_deposit : List ℕ → NoticeKey × Notice → Option (ℕ × List ℕ)
passed_deposit tld entry = if bytes_eq entry.0.tld tld then option_map (λ (id : List ℕ). (entry.1.day, id)) (passed_id entry.1.kind) else None

-- those of a registry, in the order of their notices
abbrev pub passed_deposits : FinMap notice_cmp Notice → List ℕ → List (ℕ × List ℕ)
passed_deposits notices tld = filter_map (passed_deposit tld) (entries notices)

-- a revision is a full deposit: its first part is recorded under the name of one (Part A section 5)
abbrev pub is_full_revision : State → List ℕ → ℕ → ℕ → Bool
is_full_revision state tld day rev = is_some (part_under_name state (record { tld = tld; day = day; kind = Full; part = 1; rev = rev }))

abbrev pub is_receipt_of_full : State → List ℕ → ℕ → NoticeKind → Bool
is_receipt_of_full state tld day (Receipt rev _) = is_full_revision state tld day rev
is_receipt_of_full state tld day (FailureNotice _ _ _) = false
is_receipt_of_full state tld day Absence = false

-- a notice tells that a full deposit passed
abbrev pub is_receipt_entry_of_full : State → NoticeKey × Notice → Bool
is_receipt_entry_of_full state entry = is_receipt_of_full state entry.0.tld entry.1.day entry.1.kind

-- of a registry's deposits that passed, the full ones
abbrev pub passed_full_deposits : State → List ℕ → List (ℕ × List ℕ)
passed_full_deposits state tld = filter_map (passed_deposit tld) (filter (is_receipt_entry_of_full state) (entries state.notices))

-- the id of the latest: of one that no other is later than
abbrev pub latest_id : List (ℕ × List ℕ) → Option (List ℕ)
latest_id passed = option_map (λ (one : ℕ × List ℕ). one.1) (find (λ (one : ℕ × List ℕ). list_all (λ (other : ℕ × List ℕ). nat_le other.0 one.0) passed) passed)

-- ---- the chain of a deposit

-- a part is the first of a registry's deposit that passed
abbrev pub is_first_of_passed : State → List ℕ → PartKey × Part → Bool
is_first_of_passed state tld entry = bytes_eq entry.0.tld tld && (entry.0.part == 1 && has_notice state.notices tld entry.0.day (is_receipt_of entry.0.rev))

-- the names of these parts, by day
abbrev pub passed_first_names : State → List ℕ → List Name
passed_first_names state tld = map (λ (entry : PartKey × Part). name_of entry.0 entry.1.kind) (filter (is_first_of_passed state tld) (entries state.parts))

-- the latest full one
abbrev pub latest_full : List Name → Option Name
latest_full names = last_or None (filter (λ (name : Name). is_same_kind name.kind Full) names)

abbrev pub later_names : ℕ → List Name → List Name
later_names day names = filter (λ (name : Name). nat_lt day name.day) names

-- a differential deposit follows the latest full one and all of later days, an incremental one that full one alone (RFC 8909, section 2)
abbrev pub chain_of : Kind → List Name → Option Name → List Name
chain_of kind names None = []
chain_of Full names (Some full) = []
chain_of Diff names (Some full) = full ∷ later_names full.day names
chain_of Incr names (Some full) = full ∷ []

-- the deposits that a stated one follows, oldest first, each by the name of its first part
abbrev pub chain_before : State → statement.Statement → List Name
chain_before state stated = chain_of stated.kind (passed_first_names state stated.tld) (latest_full (passed_first_names state stated.tld))

-- the same where all their parts are held, and else none
abbrev pub held_chain : State → statement.Statement → List Name
held_chain state stated = if list_any (has_dropped_part state) (chain_before state stated) then [] else chain_before state stated

-- the keys that there are after them, where they are held and read
abbrev pub base_of : State → statement.Statement → Option Base
base_of state stated = base_at (map (joined_bytes state) (held_chain state stated))

-- what is known of a stated deposit
abbrev pub known_of : State → statement.Statement → Known
known_of state stated = record {
  name = first_part stated;
  id = stated.id;
  latest = latest_id (passed_deposits state.notices stated.tld);
  full = latest_id (passed_full_deposits state stated.tld);
  passed = map (λ (one : ℕ × List ℕ). one.1) (passed_deposits state.notices stated.tld);
  base = base_of state stated;
}

-- ---- refusals

-- the numbers Q1 to Q17, of a fetch Q18 and Q19, of holds Q20 and Q21, and of an explanation Q22
abbrev pub refusal_number : Refusal → ℕ
refusal_number (NameRefused _) = 1
refusal_number RegistryUnknown = 2
refusal_number DateOutOfRange = 3
refusal_number Size = 4
refusal_number OtherBytes = 5
refusal_number DroppedAfterKeeping = 6
refusal_number RevisionNotDue = 7
refusal_number AlreadyStated = 8
refusal_number TypeDiffers = 9
refusal_number PartOutOfOrder = 10
refusal_number VolumeFull = 11
refusal_number PartsDiffer = 12
refusal_number LaterDayPassed = 13
refusal_number NotYetDue = 14
refusal_number DayHasVerdict = 15
refusal_number GroundDoesNotStand = 16
refusal_number ReferenceUsed = 17
refusal_number NotInRelease = 18
refusal_number ReleaseUnknown = 19
refusal_number HoldReferenceUsed = 20
refusal_number HoldUnknown = 21
refusal_number NoFailure = 22

abbrev pub is_tld_unregistered : State → List ℕ → Bool
is_tld_unregistered state tld = is_none (first_day_of state tld)

-- the day is before the registry's first, or after today
abbrev pub is_day_outside : State → List ℕ → ℕ → ℕ → Bool
is_day_outside state tld day now = nat_lt day (unwrap_or (first_day_of state tld) 0) || nat_lt (day_of now) day

-- The tests of the part of a name. Those of the day, of notices and of the revision's parts are for a new name.
abbrev pub is_unregistered : State → Name → Bool
is_unregistered state name = is_tld_unregistered state name.tld

abbrev pub is_unrecorded_name : State → Name → Bool
is_unrecorded_name state name = is_none (part_under_name state name)

abbrev pub is_outside : State → Name → ℕ → Bool
is_outside state name now = is_day_outside state name.tld name.day now

abbrev pub is_out_of_range : State → Name → ℕ → Bool
is_out_of_range state name now = is_unrecorded_name state name && is_outside state name now

abbrev pub is_out_of_size : ℕ → Bool
is_out_of_size len = len == 0 || nat_lt max_part_len len

-- the day has a receipt, or the revision before has no failure
abbrev pub is_revision_not_due : State → Name → Bool
is_revision_not_due state name = is_unrecorded_name state name && (has_notice state.notices name.tld name.day is_receipt || (nat_lt 0 name.rev && not (has_notice state.notices name.tld name.day (is_failure_of (name.rev - 1)))))

abbrev pub is_stated : State → Name → Bool
is_stated state name = is_unrecorded_name state name && has_notice state.notices name.tld name.day (is_verdict_of name.rev)

abbrev pub is_new_beside_other_kind : State → Name → Bool
is_new_beside_other_kind state name = is_unrecorded_name state name && has_part_of_other_kind state name

abbrev pub is_out_of_order : State → Name → Bool
is_out_of_order state name = is_unrecorded_name state name && not (count_parts state name + 1 == name.part)

-- a refusal, and whether it stands
abbrev pub Test : Type 0
Test = Refusal × Bool

abbrev pub receive_tests : State → Name → List ℕ → ℕ → List Test
receive_tests state name bytes now =
    (RegistryUnknown, is_unregistered state name)
    ∷ (DateOutOfRange, is_out_of_range state name now)
    ∷ (Size, is_out_of_size (length bytes))
    ∷ (OtherBytes, has_other_bytes bytes (part_under_name state name))
    ∷ (DroppedAfterKeeping, is_dropped (part_under_name state name))
    ∷ (RevisionNotDue, is_revision_not_due state name)
    ∷ (AlreadyStated, is_stated state name)
    ∷ (TypeDiffers, is_new_beside_other_kind state name)
    ∷ (PartOutOfOrder, is_out_of_order state name)
    ∷ []

abbrev pub named_tests : State → Result Name NameError → List ℕ → ℕ → List Test
named_tests state (Err fault) bytes now = (NameRefused fault, true) ∷ []
named_tests state (Ok name) bytes now = receive_tests state name bytes now

-- The tests of a statement. Those of the day and of later days are for one that was not made before, that of dropped parts for a revision without a verdict.
abbrev pub statement_tests : State → statement.Statement → ℕ → List Test
statement_tests state stated now =
    (RegistryUnknown, is_unregistered state (first_part stated))
    ∷ (DateOutOfRange, is_none (kept_verdict state stated) && is_outside state (first_part stated) now)
    ∷ (DroppedAfterKeeping, not (has_verdict state stated) && has_dropped_part state (first_part stated))
    ∷ (AlreadyStated, is_none (kept_verdict state stated) && has_verdict state stated)
    ∷ (TypeDiffers, has_part_of_other_kind state (first_part stated))
    ∷ (PartsDiffer, has_other_count state stated)
    ∷ (LaterDayPassed, is_none (kept_verdict state stated) && has_later_receipt state stated)
    ∷ []

-- The tests of a check. All but the first are for a day without an absence.
abbrev pub check_tests : State → List ℕ → ℕ → ℕ → List Test
check_tests state tld day now =
    (RegistryUnknown, is_tld_unregistered state tld)
    ∷ (DateOutOfRange, is_none (absence_of state tld day) && is_day_outside state tld day now)
    ∷ (NotYetDue, is_none (absence_of state tld day) && day == day_of now)
    ∷ (DayHasVerdict, is_none (absence_of state tld day) && has_notice state.notices tld day is_verdict)
    ∷ []

-- The tests of a release. That of the ground is for a new reference.
abbrev pub release_tests : State → List ℕ → List ℕ → Ground → ℕ → List Test
release_tests state reference tld reason now =
    (RegistryUnknown, is_tld_unregistered state tld)
    ∷ (GroundDoesNotStand, is_none (release_of state reference) && not (has_ground state tld reason now))
    ∷ (ReferenceUsed, is_some (release_of state reference) && is_none (kept_release state reference tld reason))
    ∷ []

-- The tests of a hold. That of the day is for one that was not made before.
abbrev pub hold_tests : State → List ℕ → List ℕ → ℕ → ℕ → List Test
hold_tests state reference tld day now =
    (RegistryUnknown, is_tld_unregistered state tld)
    ∷ (DateOutOfRange, is_none (kept_hold state reference tld day) && is_day_outside state tld day now)
    ∷ (HoldReferenceUsed, is_some (hold_of state reference) && is_none (kept_hold state reference tld day))
    ∷ []

abbrev pub lift_tests : State → List ℕ → List Test
lift_tests state reference = (HoldUnknown, is_none (hold_of state reference)) ∷ []

-- the tests of a command, in the order of their numbers
abbrev pub tests_of : State → Command → ℕ → List Test
tests_of state (Register tld first_day) now = []
tests_of state (Receive text bytes) now = named_tests state (read_name text) bytes now
tests_of state (Statement stated) now = statement_tests state stated now
tests_of state (Check tld day) now = check_tests state tld day now
tests_of state (Release reference tld reason) now = release_tests state reference tld reason now
tests_of state (Hold reference tld day) now = hold_tests state reference tld day now
tests_of state (Lift reference) now = lift_tests state reference
tests_of state Purge now = []

abbrev pub TestsAreInOrder : Type 0
TestsAreInOrder = (state : State) (command : Command) (now : ℕ) → is_rising nat_cmp (λ (test : Test). refusal_number test.0) (tests_of state command now) ≡ true

-- the first that stands
abbrev pub first_refusal : List Test → Option Refusal
first_refusal [] = None
first_refusal (test ∷ others) = if test.1 then Some test.0 else first_refusal others

abbrev pub refusal_of : State → Command → ℕ → Option Refusal
refusal_of state command now = first_refusal (tests_of state command now)

-- ---- repeats

abbrev pub if_held_with : List ℕ → Part → Option Part
if_held_with bytes part = if is_held_with bytes part.content then Some part else None

-- the part that is held under a name with these bytes
abbrev pub kept_part_record : State → Result Name NameError → List ℕ → Option Record
kept_part_record state (Err fault) bytes = None
kept_part_record state (Ok name) bytes = option_map (λ (part : Part). OfPart (key_of name) part) (option_and_then (if_held_with bytes) (part_under_name state name))

abbrev pub notice_record : NoticeKey × Notice → Record
notice_record entry = OfNotice entry.0 entry.1

-- The record that answers a command which is a repeat. Of a registration the first day is not compared, of a part each byte is, and of a statement, of a check, of a release and of a hold all that they say. A lifting that comes again is answered by the first one.
abbrev pub kept_record : State → Command → Option Record
kept_record state (Register tld first_day) = option_map (λ (day : ℕ). OfRegistry tld day) (first_day_of state tld)
kept_record state (Receive text bytes) = kept_part_record state (read_name text) bytes
kept_record state (Statement stated) = option_map notice_record (kept_verdict state stated)
kept_record state (Check tld day) = option_map notice_record (absence_of state tld day)
kept_record state (Release reference tld reason) = option_map (OfRelease reference) (kept_release state reference tld reason)
kept_record state (Hold reference tld day) = option_map (OfHold reference) (kept_hold state reference tld day)
kept_record state (Lift reference) = option_map (OfLifting reference) (lifting_of state reference)
kept_record state Purge = None

-- ---- effects

abbrev pub state_with_registry : State → List ℕ → ℕ → State
state_with_registry state tld first_day = record state { registries = insert state.registries tld first_day }

abbrev pub state_with_part : State → PartKey → Part → State
state_with_part state key part = record state { parts = insert state.parts key part }

abbrev pub received_part : Name → List ℕ → ℕ → Part
received_part name bytes now = record { kind = name.kind; received = now; content = Held bytes }

abbrev pub receive_step : State → Result Name NameError → List ℕ → ℕ → Step
receive_step state (Err fault) bytes now = Refuse (NameRefused fault)
receive_step state (Ok name) bytes now = Accept (record { entry = OfPart (key_of name) (received_part name bytes now); is_repeat = false }) (state_with_part state (key_of name) (received_part name bytes now))

abbrev pub state_with_notice : State → NoticeKey → Notice → State
state_with_notice state key notice = record state { notices = insert state.notices key notice }

abbrev pub greatest_number : List (NoticeKey × Notice) → ℕ
greatest_number [] = 0
greatest_number (entry ∷ others) = max entry.0.number (greatest_number others)

-- the next number among the notices of a registry
abbrev pub next_number : FinMap notice_cmp Notice → List ℕ → ℕ
next_number notices tld = suc (greatest_number (filter (λ (entry : NoticeKey × Notice). bytes_eq entry.0.tld tld) (entries notices)))

-- a deposit that passes has a receipt, and any other a failure of the least check that fails
abbrev pub notice_kind : statement.Statement → Verdict → NoticeKind
notice_kind stated Pass = Receipt stated.rev stated.id
notice_kind stated (Fail check) = FailureNotice stated.rev stated.id check

abbrev pub next_key : FinMap notice_cmp Notice → List ℕ → NoticeKey
next_key notices tld = record { tld = tld; number = next_number notices tld }

abbrev pub verdict_notice : statement.Statement → Verdict → ℕ → Notice
verdict_notice stated told now = record { day = stated.day; at = now; kind = notice_kind stated told }

-- the verdict on the deposit whose parts are kept
abbrev pub verdict_on : State → statement.Statement → Verdict
verdict_on state stated = verdict (joined_bytes state (first_part stated)) (known_of state stated)

-- a notice of the verdict is recorded
abbrev pub notice_step : State → NoticeKey → Notice → Step
notice_step state key notice = Accept (record { entry = OfNotice key notice; is_repeat = false }) (state_with_notice state key notice)

abbrev pub statement_step : State → statement.Statement → ℕ → Step
statement_step state stated now = notice_step state (next_key state.notices stated.tld) (verdict_notice stated (verdict_on state stated) now)

-- the deposit of a day was not received
abbrev pub absence_notice : ℕ → ℕ → Notice
absence_notice day now = record { day = day; at = now; kind = Absence }

abbrev pub check_step : State → List ℕ → ℕ → ℕ → Step
check_step state tld day now = notice_step state (next_key state.notices tld) (absence_notice day now)

abbrev pub state_with_release : State → List ℕ → records.Release → State
state_with_release state reference release = record state { releases = insert state.releases reference release }

-- it lists the parts of the registry that are held
abbrev pub new_release : State → List ℕ → Ground → ℕ → records.Release
new_release state tld reason now = record { tld = tld; reason = reason; at = now; names = held_names state tld }

abbrev pub release_step : State → List ℕ → records.Release → Step
release_step state reference release = Accept (record { entry = OfRelease reference release; is_repeat = false }) (state_with_release state reference release)

abbrev pub state_with_hold : State → List ℕ → records.Hold → State
state_with_hold state reference hold = record state { holds = insert state.holds reference hold }

abbrev pub hold_step : State → List ℕ → records.Hold → Step
hold_step state reference hold = Accept (record { entry = OfHold reference hold; is_repeat = false }) (state_with_hold state reference hold)

-- the hold stays, with the moment of its lifting
abbrev pub lift_step : State → List ℕ → ℕ → Option records.Hold → Step
lift_step state reference now None = Refuse HoldUnknown
lift_step state reference now (Some hold) = Accept (record { entry = OfLifting reference now; is_repeat = false }) (state_with_hold state reference (lifted_at now hold))

-- each part stays, without its bytes where it is due
abbrev pub state_without_due : State → ℕ → State
state_without_due state today = record state { parts = map_keyed (part_dropped_if_due state.holds today) state.parts }

abbrev pub purge_step : State → ℕ → Step
purge_step state now = Accept (record { entry = OfPurge (count_due state (day_of now)); is_repeat = false }) (state_without_due state (day_of now))

-- what a command does that is no repeat
abbrev pub effect : State → Command → ℕ → Step
effect state (Register tld first_day) now = Accept (record { entry = OfRegistry tld first_day; is_repeat = false }) (state_with_registry state tld first_day)
effect state (Receive text bytes) now = receive_step state (read_name text) bytes now
effect state (Statement stated) now = statement_step state stated now
effect state (Check tld day) now = check_step state tld day now
effect state (Release reference tld reason) now = release_step state reference (new_release state tld reason now)
effect state (Hold reference tld day) now = hold_step state reference (new_hold tld day now)
effect state (Lift reference) now = lift_step state reference now (hold_of state reference)
effect state Purge now = purge_step state now

abbrev pub unless_kept : State → Option Record → Step → Step
unless_kept state (Some entry) outcome = Accept (record { entry = entry; is_repeat = true }) state
unless_kept state None outcome = outcome

abbrev pub unless_refused : Option Refusal → Step → Step
unless_refused (Some refusal) outcome = Refuse refusal
unless_refused None outcome = outcome

-- what the state alone decides of a command at a moment
unfoldable pub step : State → Command → ℕ → Step
step state command now = unless_refused (refusal_of state command now) (unless_kept state (kept_record state command) (effect state command now))

-- the state after a step
abbrev pub state_of : State → Step → State
state_of old (Refuse _) = old
state_of old (Accept _ new) = new

abbrev pub state_after : State → Command → ℕ → State
state_after old command now = state_of old (step old command now)

-- a command with its moment
abbrev pub TimedCommand : Type 0
TimedCommand = Command × ℕ

-- the state after commands in order, each at its moment
abbrev pub after : State → List TimedCommand → State
after state [] = state
after state (entry ∷ entries) = after (state_after state entry.0 entry.1) entries

-- ---- what an open custody may answer

pub data Answer : Type 0 where
  Accepted : Reply → Answer
  Refused : Refusal → Answer
  Failed : Failure → Answer

-- a refusal that is found before anything takes memory
abbrev pub is_early : Refusal → Bool
is_early (NameRefused _) = true
is_early RegistryUnknown = true
is_early DateOutOfRange = true
is_early Size = true
is_early _ = false

abbrev pub has_bytes_to_place : Command → Bool
has_bytes_to_place (Register _ _) = false
has_bytes_to_place (Receive _ _) = true
has_bytes_to_place (Statement _) = false
has_bytes_to_place (Check _ _) = false
has_bytes_to_place (Release _ _ _) = false
has_bytes_to_place (Hold _ _ _) = false
has_bytes_to_place (Lift _) = false
has_bytes_to_place Purge = false

-- The one free choice: a new part may be refused for want of room.
abbrev pub MayRefuse : Command → Step → Refusal → Type 0
MayRefuse command (Refuse least) refusal = refusal ≡ least
MayRefuse command (Accept reply new) refusal = (refusal ≡ VolumeFull) × (has_bytes_to_place command ≡ true) × (reply.is_repeat ≡ false)

abbrev pub compared_keys : Option Refusal → Result Name NameError → List PartKey
compared_keys None read = []
compared_keys (Some refusal) (Err fault) = []
compared_keys (Some refusal) (Ok name) = if is_other_bytes refusal then key_of name ∷ [] else []
  where
    is_other_bytes : Refusal → Bool
    is_other_bytes OtherBytes = true
    is_other_bytes _ = false

-- the places of the parts of a name's revision
abbrev pub part_keys : State → Name → List PartKey
part_keys state name = map (key_with_part (key_of name)) (filter (λ place. is_some (revision_part state name place)) part_numbers)

-- the places of the parts that a verdict hangs on: those of the stated deposit, and of those that it follows
abbrev pub verdict_keys : State → statement.Statement → List PartKey
verdict_keys state stated = flat_map (part_keys state) (first_part stated ∷ held_chain state stated)

-- where the command is made
abbrev pub keys_if_made : Option Refusal → Option Record → List PartKey → List PartKey
keys_if_made None None keys = keys
keys_if_made None (Some entry) keys = []
keys_if_made (Some refusal) entry keys = []

-- The parts whose bytes decide a command: where other bytes are sent under a name, the part that is kept under it; and where a deposit is verified, its parts and those of the deposits that it follows.
abbrev pub deciding_keys : State → Command → ℕ → List PartKey
deciding_keys state (Register tld first_day) now = []
deciding_keys state (Receive text bytes) now = compared_keys (refusal_of state (Receive text bytes) now) (read_name text)
deciding_keys state (Statement stated) now = keys_if_made (refusal_of state (Statement stated) now) (kept_record state (Statement stated)) (verdict_keys state stated)
deciding_keys state (Check tld day) now = []
deciding_keys state (Release reference tld reason) now = []
deciding_keys state (Hold reference tld day) now = []
deciding_keys state (Lift reference) now = []
deciding_keys state Purge now = []

abbrev pub MayFail : Step → List PartKey → Failure → Type 0
MayFail (Refuse least) read NoMemory = is_early least ≡ false
MayFail (Refuse least) read VolumeFailed = is_early least ≡ false
MayFail (Refuse least) read StoreFailed = ⊥
MayFail (Accept reply new) read NoMemory = Unit {0}
MayFail (Accept reply new) read VolumeFailed = Unit {0}
MayFail (Accept reply new) read StoreFailed = reply.is_repeat ≡ false
MayFail outcome read Closed = ⊥
-- where a part that is read has not its recorded digest
MayFail outcome read (Damaged damage) = (damage ≡ Digest) × (read ≢ [])

-- what an open custody in the old state may answer, and its state then
abbrev pub MayAnswer : State → Command → ℕ → Answer → State → Type 0
MayAnswer old command now (Accepted reply) new = step old command now ≡ Accept reply new
MayAnswer old command now (Refused refusal) new = MayRefuse command (step old command now) refusal × (new ≡ old)
MayAnswer old command now (Failed failure) new = MayFail (step old command now) (deciding_keys old command now) failure × (new ≡ old)

-- ---- records

-- the state has this record; a count is of a moment, and not kept
abbrev pub HasRecord : State → Record → Type 0
HasRecord state (OfRegistry tld first_day) = get state.registries tld ≡ Some first_day
HasRecord state (OfPart key part) = get state.parts key ≡ Some part
HasRecord state (OfNotice key notice) = get state.notices key ≡ Some notice
HasRecord state (OfRelease reference release) = get state.releases reference ≡ Some release
HasRecord state (OfHold reference hold) = get state.holds reference ≡ Some hold
HasRecord state (OfLifting reference at) = lifting_of state reference ≡ Some at
HasRecord state (OfPurge count) = Unit {0}
