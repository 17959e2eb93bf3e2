-- What a custody keeps for its registries, over whole byte strings (ICANN Registry Agreement, Specification 2, Part B sections 4 to 7).
use Rattle.std.specs.Prelude.{ℕ, List, [], ◌∷◌, Bool, ◌==◌, ◌&&◌, bytes_eq}
use Rattle.std.specs.List.{list_any}
use Rattle.std.specs.FinMap as map
use Rattle.std.specs.FinMap.{FinMap, entries}
use Rattle.deposit_name.specs.declared.kinds.Kind.{Kind}
use Rattle.desk.specs.declared.notices.NoticeKind.{NoticeKind}
use Rattle.custody_records.specs.Keys.{text_cmp, PartKey, part_cmp, NoticeKey, notice_cmp}
use Rattle.custody_records.specs.Records.{Notice, Release, Hold}

-- what is kept of a part: its bytes, or after the keeping year its length (Part B section 4)
pub data Content : Type 0 where
  Held : (bytes : List ℕ) → Content
  Dropped : (len : ℕ) → Content

-- a part of a deposit, as it was received
pub record Part : Type 0 where
  pub kind : Kind
  pub received : ℕ
  pub content : Content

pub record State : Type 0 where
  -- the first day of each registry
  pub registries : FinMap text_cmp ℕ
  pub parts : FinMap part_cmp Part
  -- by registry and number
  pub notices : FinMap notice_cmp Notice
  -- by reference
  pub releases : FinMap text_cmp Release
  -- by references of their own
  pub holds : FinMap text_cmp Hold

-- a new custody keeps nothing
abbrev pub empty : State
empty = record { registries = map.empty; parts = map.empty; notices = map.empty; releases = map.empty; holds = map.empty }

-- the places in the series of a revision's parts
abbrev pub part_numbers : List ℕ
part_numbers = 1 ∷ 2 ∷ 3 ∷ 4 ∷ 5 ∷ 6 ∷ 7 ∷ 8 ∷ []

-- another place of the same revision
abbrev pub key_with_part : PartKey → ℕ → PartKey
key_with_part key place = record { tld = key.tld; day = key.day; rev = key.rev; part = place }

-- whether it is a notice of a registry's day, and passes a test
abbrev pub is_notice_of : List ℕ → ℕ → (NoticeKind → Bool) → NoticeKey × Notice → Bool
is_notice_of tld day test entry = bytes_eq entry.0.tld tld && (entry.1.day == day && test entry.1.kind)

-- whether a notice of a registry's day passes a test
abbrev pub has_notice : FinMap notice_cmp Notice → List ℕ → ℕ → (NoticeKind → Bool) → Bool
has_notice notices tld day test = list_any (is_notice_of tld day test) (entries notices)
