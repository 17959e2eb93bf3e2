-- What one record has to find among the others, as tests: records belong together where each record finds it.
use Rattle.std.specs.Prelude.{ℕ, ◌-◌, List, Option, Some, None, is_some, Bool, true, ◌&&◌, ◌||◌, ◌==◌, nat_le}
use Rattle.std.specs.List.{list_all}
use Rattle.std.specs.FinMap.{FinMap, get, entries}
use Rattle.std.specs.declared.cmp.Ordering.{Ordering}
use Rattle.deposit_name.specs.declared.kinds.Kind.{Kind}
use Rattle.custody_records.specs.Keys.{PartKey, NoticeKey}
use Rattle.custody_records.specs.Records.{PartRecord, Notice, Release, Hold, Records}
use Rattle.custody_machine.specs.NameReading.{read_name}
use Rattle.custody_machine.specs.State.{key_with_part}
use Rattle.custody_machine.specs.StoredState.{is_part_of, is_name_of_part, revision_of}
use Rattle.custody_rules.specs.declared.unique_keys.FailedRevision.{FailedRevision}

-- each entry of a map passes a test
abbrev pub each_passes : {K X : Type 0} {R : K → K → Ordering} → (K → X → Bool) → FinMap R X → Bool
each_passes {K} {X} test m = list_all (λ (entry : K × X). test entry.0 entry.1) (entries m)

-- a registry is recorded
abbrev pub has_registry : Records → List ℕ → Bool
has_registry records tld = is_some (get records.registries tld)

-- ---- parts

-- a part is the first of its series, or one of its kind stands before it
abbrev pub is_in_series : Records → PartKey → Kind → Bool
is_in_series records key kind = nat_le key.part 1 || is_part_of kind (get records.parts (key_with_part key (key.part - 1)))

-- a revision is the first, or the one before is among those that failed
abbrev pub is_revision_due : (FailedRevision → Bool) → PartKey → Bool
is_revision_due has_failed key = key.rev == 0 || has_failed (record { tld = key.tld; day = key.day; rev = key.rev - 1 })

abbrev pub is_part_linked : Records → (FailedRevision → Bool) → PartKey → PartRecord → Bool
is_part_linked records has_failed key part = has_registry records key.tld && (is_in_series records key part.kind && is_revision_due has_failed key)

-- ---- notices

-- a notice is the first of its registry, or one stands before it
abbrev pub is_numbered : Records → NoticeKey → Bool
is_numbered records key = nat_le key.number 1 || is_some (get records.notices (record { tld = key.tld; number = key.number - 1 }))

-- a revision has parts, where there is one
abbrev pub has_parts : Records → List ℕ → ℕ → Option ℕ → Bool
has_parts records tld day None = true
has_parts records tld day (Some rev) = is_some (get records.parts (record { tld = tld; day = day; rev = rev; part = 1 }))

abbrev pub is_notice_linked : Records → NoticeKey → Notice → Bool
is_notice_linked records key notice = has_registry records key.tld && (is_numbered records key && has_parts records key.tld notice.day (revision_of notice.kind))

-- ---- releases

abbrev pub are_names_recorded : Records → List ℕ → List (List ℕ) → Bool
are_names_recorded records tld names = list_all (λ text. is_name_of_part records tld (read_name text)) names

abbrev pub is_release_linked : Records → Release → Bool
is_release_linked records release = has_registry records release.tld && are_names_recorded records release.tld release.names

-- ---- holds

abbrev pub is_hold_linked : Records → Hold → Bool
is_hold_linked records hold = has_registry records hold.tld
