-- The state that a plain program shows.
use Rattle.std.specs.Prelude.{◌≡◌, ◌&&◌, ◌==◌, ℕ, List, length, map, Bool, false, nat_lt, bytes_eq}
use Rattle.std.specs.FinMap.{FinMap, from_entries}
use Rattle.std.specs.List.{filter}
use Rattle.desk.specs.Standing.{is_receipt}
use Rattle.deposit_name.specs.Name.{Name}
use Rattle.custody_records.specs.Keys.{PartKey, NoticeKey, notice_cmp, text_cmp}
use Rattle.custody_records.specs.Records.{Hold, Notice, key_of}
use Rattle.custody_records.specs.declared.releases.Release.{Release}
use Rattle.desk.specs.declared.notices.Notice as desk
use Rattle.custody_records.specs.Tables.{table_map}
use Rattle.custody_records.specs.TypedRecords.{hold_key, hold_value, notice_key, notice_value, release_entry}
use Rattle.plain_machine.specs.declared.holds.PlainHolds.{PlainHolds}
use Rattle.plain_machine.specs.declared.notices.PlainNotices.{PlainNotices}
use Rattle.plain_machine.specs.declared.state.PlainRegistry.{PlainRegistry}
use Rattle.plain_machine.specs.declared.state.PlainContent.{PlainContent}
use Rattle.plain_machine.specs.declared.state.PlainContent.TheVariants as plain
use Rattle.plain_machine.specs.declared.state.PlainPart.{PlainPart}
use Rattle.plain_machine.specs.declared.state.PlainState.{PlainState}
use Rattle.plain_machine.specs.declared.state.PlainAnswer.{PlainAnswer}
use Rattle.plain_machine.specs.declared.state.PlainAnswer.TheVariants as answer
use Rattle.custody_machine.specs.State.{State, Part, Content, Held, Dropped}
use Rattle.custody_machine.specs.Machine.{OfRegistry, OfPart, OfNotice, OfRelease, OfHold, OfLifting, OfPurge, Step, Refuse, Accept, content_len, part_dropped_if_due, greatest_number}

abbrev pub plain_registry_entry : PlainRegistry → List ℕ × ℕ
plain_registry_entry r = (r.tld, r.first_day)

abbrev pub content_view : PlainContent → Content
content_view (plain.Held bytes) = Held bytes.items
content_view (plain.Dropped len) = Dropped len

abbrev pub part_view : PlainPart → Part
part_view p = record { kind = p.name.kind; received = p.received; content = content_view p.content }

abbrev pub plain_part_entry : PlainPart → PartKey × Part
plain_part_entry p = (key_of p.name, part_view p)

abbrev pub notices_view : PlainNotices → FinMap notice_cmp Notice
notices_view notices = table_map notice_cmp notice_key notice_value notices.rows.items

abbrev pub holds_view : PlainHolds → FinMap text_cmp Hold
holds_view holds = table_map text_cmp hold_key hold_value holds.rows.items

abbrev pub state_view : PlainState → State
state_view state = record {
  registries = from_entries (map plain_registry_entry state.registries.items);
  parts = from_entries (map plain_part_entry state.parts.items);
  notices = notices_view state.notices;
  releases = from_entries (map release_entry state.releases.items);
  holds = holds_view state.holds;
}

-- The answer and the new state are those of a step in the old state. A part is shown without its bytes, and a release without its names.
abbrev pub IsPlainStep : PlainAnswer → State → State → Step → Type 0
IsPlainStep (answer.Registry tld first_day is_repeat) old new outcome = outcome ≡ Accept (record { entry = OfRegistry tld first_day; is_repeat = is_repeat }) new
IsPlainStep (answer.Part name received len is_repeat) old new outcome =
    (part : Part) × (outcome ≡ Accept (record { entry = OfPart (key_of name) part; is_repeat = is_repeat }) new) × (part.kind ≡ name.kind) × (part.received ≡ received) × (content_len part.content ≡ len)
IsPlainStep (answer.Notice notice is_repeat) old new outcome = outcome ≡ Accept (record { entry = OfNotice (notice_key notice) (notice_value notice); is_repeat = is_repeat }) new
IsPlainStep (answer.Release reference tld reason at count is_repeat) old new outcome =
    (names : List (List ℕ)) × (outcome ≡ Accept (record { entry = OfRelease reference (record { tld = tld; reason = reason; at = at; names = names }); is_repeat = is_repeat }) new) × (length names ≡ count)
IsPlainStep (answer.Hold reference tld day at lifted is_repeat) old new outcome = outcome ≡ Accept (record { entry = OfHold reference (record { tld = tld; day = day; at = at; lifted = lifted }); is_repeat = is_repeat }) new
IsPlainStep (answer.Lifting reference at is_repeat) old new outcome = outcome ≡ Accept (record { entry = OfLifting reference at; is_repeat = is_repeat }) new
IsPlainStep (answer.Purge count) old new outcome = outcome ≡ Accept (record { entry = OfPurge count; is_repeat = false }) new
IsPlainStep (answer.Refused refusal) old new outcome = (outcome ≡ Refuse refusal) × (new ≡ old)

-- a part after a purge
abbrev pub entry_after_purge : FinMap text_cmp Hold → ℕ → PartKey × Part → PartKey × Part
entry_after_purge holds today entry = (entry.0, part_dropped_if_due holds today entry.0 entry.1)

-- ---- what the loops look for

abbrev pub is_registry_of : List ℕ → PlainRegistry → Bool
is_registry_of tld r = bytes_eq r.tld tld

abbrev pub is_under : List ℕ → Release → Bool
is_under reference release = bytes_eq release.reference reference

abbrev pub is_to : List ℕ → desk.Notice → Bool
is_to tld notice = bytes_eq notice.tld tld

abbrev pub is_receipt_after : List ℕ → ℕ → NoticeKey × Notice → Bool
is_receipt_after tld day entry = bytes_eq entry.0.tld tld && (nat_lt day entry.1.day && is_receipt entry.1.kind)

abbrev pub greatest_number_of : List ℕ → List (NoticeKey × Notice) → ℕ
greatest_number_of tld entries = greatest_number (filter (λ (entry : NoticeKey × Notice). bytes_eq entry.0.tld tld) entries)

-- whether a part is one of the revision of a name
abbrev pub is_in : Name → PlainPart → Bool
is_in name p = bytes_eq p.name.tld name.tld && (p.name.day == name.day && p.name.rev == name.rev)
