-- What the tests of a part read in the records.
use Rattle.std.specs.Prelude.{◌≡◌, ℕ, ◌+◌, ◌-◌, List, [], ◌∷◌, Option, Some, None, Bool, true, false, ◌&&◌, ◌||◌, ◌==◌, not, nat_lt, count_by, is_none, is_some, if◌then◌else◌, Ok, bytes_eq}
use Rattle.std.specs.List.{find, list_any}
use Rattle.std.specs.FinMap.{entries, get}
use Rattle.std.specs.Option.{option_and_then}
use Rattle.schedule.specs.Schedule.{day_of}
use Rattle.desk.specs.Standing.{is_receipt}
use Rattle.deposit_name.specs.declared.kinds.Kind.{Kind}
use Rattle.deposit_name.specs.Name.{Name, is_same_kind}
use Rattle.custody_records.specs.declared.parts.Part as typed
use Rattle.custody_records.specs.TypedRecords.{key_of_part, part_value}
use Rattle.custody_records.specs.Keys.{NoticeKey, PartKey}
use Rattle.custody_records.specs.Records.{Notice, PartRecord, Records, key_of}
use Rattle.custody_machine.specs.declared.command.Statement.{Statement}
use Rattle.custody_machine.specs.declared.answers.Refusal.TheVariants.{DateOutOfRange, Size, DroppedAfterKeeping, RevisionNotDue, AlreadyStated, TypeDiffers, PartOutOfOrder, PartsDiffer, LaterDayPassed}
use Rattle.custody_machine.specs.Machine.{Test, first_part, if_of_id, is_failure_of, is_verdict_of, max_part_len}
use Rattle.custody_machine.specs.State.{key_with_part, has_notice, is_notice_of, part_numbers}
use Rattle.custody_machine.specs.NameReading.{read_name}
use Rattle.custody_machine.specs.Rulings.{Ruling, DecidesPart}

-- a part, where it is of a kind
abbrev pub if_of_kind : Kind → PartRecord → Option PartRecord
if_of_kind kind part = if is_same_kind part.kind kind then Some part else None

-- the part that is recorded under a name, which has a place and a kind
abbrev pub part_under : Records → Name → Option PartRecord
part_under records name = option_and_then (if_of_kind name.kind) (get records.parts (key_of name))

abbrev pub is_of_other_kind : Kind → Option PartRecord → Bool
is_of_other_kind kind None = false
is_of_other_kind kind (Some part) = not (is_same_kind part.kind kind)

abbrev pub is_without_bytes : Option PartRecord → Bool
is_without_bytes None = false
is_without_bytes (Some part) = is_none part.extents

-- ---- the parts of a revision, which the place of one of them names

abbrev pub count_parts_in : Records → PartKey → ℕ
count_parts_in records key = count_by (λ place. is_some (get records.parts (key_with_part key place))) part_numbers

abbrev pub has_other_kind_in : Records → PartKey → Kind → Bool
has_other_kind_in records key kind = list_any (λ place. is_of_other_kind kind (get records.parts (key_with_part key place))) part_numbers

abbrev pub has_dropped_part_in : Records → PartKey → Bool
has_dropped_part_in records key = list_any (λ place. is_without_bytes (get records.parts (key_with_part key place))) part_numbers

-- ---- a part that is sent

-- The tests of a part of so many bytes under a new name, in a registry that is known.
abbrev pub tests_of_new : Records → Name → ℕ → ℕ → ℕ → List Test
tests_of_new records name first_day len now =
    (DateOutOfRange, nat_lt name.day first_day || nat_lt (day_of now) name.day)
    ∷ (Size, len == 0 || nat_lt max_part_len len)
    ∷ (RevisionNotDue, has_notice records.notices name.tld name.day is_receipt || (nat_lt 0 name.rev && not (has_notice records.notices name.tld name.day (is_failure_of (name.rev - 1)))))
    ∷ (AlreadyStated, has_notice records.notices name.tld name.day (is_verdict_of name.rev))
    ∷ (TypeDiffers, has_other_kind_in records (key_of name) name.kind)
    ∷ (PartOutOfOrder, not (count_parts_in records (key_of name) + 1 == name.part))
    ∷ []

-- a part is recorded under the name that a text is, in a registry that is known
pub record IsRecordedUnder (records : Records) (text : List ℕ) (name : Name) (part : typed.Part) : Type 0 where
  pub named : read_name text ≡ Ok name
  pub known : is_some (get records.registries name.tld) ≡ true
  pub place : key_of_part part ≡ key_of name
  pub recorded : part_under records name ≡ Some (part_value part)

-- the ruling of any name that the part is recorded under
abbrev pub RulesRecordedPart : Ruling → typed.Part → ℕ → Type 0
RulesRecordedPart ruling part len = (records : Records) (text : List ℕ) (name : Name) (now : ℕ) → IsRecordedUnder records text name part → DecidesPart ruling records text len now

-- ---- statements

-- the revision has no part, or another number of them than is stated
abbrev pub differs_in_number : Records → Statement → Bool
differs_in_number records stated =
    count_parts_in records (key_of (first_part stated)) == 0
    || not (count_parts_in records (key_of (first_part stated)) == stated.parts)

abbrev pub are_parts_as_stated_in : Records → Statement → Bool
are_parts_as_stated_in records stated =
    not (has_other_kind_in records (key_of (first_part stated)) stated.kind) && not (differs_in_number records stated)

-- the verdict that was made on the same statement
abbrev pub kept_verdict_in : Records → Statement → Option (NoticeKey × Notice)
kept_verdict_in records stated =
    if are_parts_as_stated_in records stated then option_and_then (if_of_id stated.id) (find (is_notice_of stated.tld stated.day (is_verdict_of stated.rev)) (entries records.notices)) else None

abbrev pub is_later_receipt : Statement → NoticeKey × Notice → Bool
is_later_receipt stated entry = bytes_eq entry.0.tld stated.tld && (nat_lt stated.day entry.1.day && is_receipt entry.1.kind)

-- The tests of a statement that was not made before, of a registry that is known.
abbrev pub tests_of_statement : Records → Statement → ℕ → ℕ → List Test
tests_of_statement records stated first_day now =
    (DateOutOfRange, nat_lt stated.day first_day || nat_lt (day_of now) stated.day)
    ∷ (DroppedAfterKeeping, not (has_notice records.notices stated.tld stated.day (is_verdict_of stated.rev)) && has_dropped_part_in records (key_of (first_part stated)))
    ∷ (AlreadyStated, has_notice records.notices stated.tld stated.day (is_verdict_of stated.rev))
    ∷ (TypeDiffers, has_other_kind_in records (key_of (first_part stated)) stated.kind)
    ∷ (PartsDiffer, differs_in_number records stated)
    ∷ (LaterDayPassed, list_any (is_later_receipt stated) (entries records.notices))
    ∷ []
