-- What a custody records (Specification 2, Part B): registries, parts of deposits, notices, releases, and holds. The bytes of a part are not here, but where they lie.
use Rattle.std.specs.Prelude.{ℕ, List, Option, Some, None}
use Rattle.std.specs.FinMap as map
use Rattle.std.specs.FinMap.{FinMap}
use Rattle.std.specs.List.{filter}
use Rattle.std.specs.Ordering.{is_eq}
use Rattle.deposit_name.specs.declared.kinds.Kind.{Kind}
use Rattle.deposit_name.specs.Name.{Name}
use Rattle.desk.specs.declared.notices.NoticeKind.{NoticeKind}
use Rattle.desk.specs.declared.grounds.Ground.{Ground}
use Rattle.extent_map.specs.declared.extent.Extent.{Extent}
use Rattle.extent_map.specs.Staged.{StagedPart}
use Rattle.custody_records.specs.Keys.{text_cmp, PartKey, part_cmp, day_cmp, revision_cmp, NoticeKey, notice_cmp}

-- a part: its kind, when it was received, its length and SHA-256, and the extents of its bytes
pub record PartRecord : Type 0 where
  pub kind : Kind
  pub received : ℕ
  pub len : ℕ
  pub digest : List ℕ
  -- none where the bytes are dropped (Part B section 4)
  pub extents : Option (List Extent)

-- a notice (Part B section 7)
pub record Notice : Type 0 where
  pub day : ℕ
  pub at : ℕ
  pub kind : NoticeKind

-- deposits of a registry handed over on a ground (Part B section 6), by the names of their parts
pub record Release : Type 0 where
  pub tld : List ℕ
  pub reason : Ground
  pub at : ℕ
  pub names : List (List ℕ)

-- a registry's day that is on hold, as a court or an authority orders it: no part of it is dropped until the hold is lifted
pub record Hold : Type 0 where
  pub tld : List ℕ
  pub day : ℕ
  pub at : ℕ
  -- when it was lifted
  pub lifted : Option ℕ

-- the records, and the number and the blocks of the volume that they belong to
pub record Records : Type 0 where
  pub number : ℕ
  pub blocks : ℕ
  -- the first day of each registry
  pub registries : FinMap text_cmp ℕ
  pub parts : FinMap part_cmp PartRecord
  pub notices : FinMap notice_cmp Notice
  -- by reference
  pub releases : FinMap text_cmp Release
  -- by references of their own
  pub holds : FinMap text_cmp Hold

-- where nothing is recorded yet
abbrev pub new_records : ℕ → ℕ → Records
new_records number blocks = record { number = number; blocks = blocks; registries = map.empty; parts = map.empty; notices = map.empty; releases = map.empty; holds = map.empty }

-- the key of the part of a name
abbrev pub key_of : Name → PartKey
key_of name = record { tld = name.tld; day = name.day; rev = name.rev; part = name.part }

-- the name of the part of a key and a kind
abbrev pub name_of : PartKey → Kind → Name
name_of key kind = record { tld = key.tld; day = key.day; kind = kind; part = key.part; rev = key.rev }

-- the parts of a registry with their places, by day, revision and place in the series
abbrev pub parts_of : Records → List ℕ → List (PartKey × PartRecord)
parts_of records tld = filter (λ (e : PartKey × PartRecord). is_eq (text_cmp e.0.tld tld)) (map.entries records.parts)

-- the parts of a registry's day with their places, by revision and place in the series
abbrev pub parts_of_day : Records → List ℕ → ℕ → List (PartKey × PartRecord)
parts_of_day records tld day = filter (λ (e : PartKey × PartRecord). is_eq (day_cmp (e.0.tld, e.0.day) (tld, day))) (map.entries records.parts)

-- the parts of the revision of a name with their places, by place in the series
abbrev pub parts_of_revision : Records → Name → List (PartKey × PartRecord)
parts_of_revision records name = filter (λ (e : PartKey × PartRecord). is_eq (revision_cmp e.0 (key_of name))) (map.entries records.parts)

-- the notices of a registry with their keys, by number
abbrev pub notices_of : Records → List ℕ → List (NoticeKey × Notice)
notices_of records tld = filter (λ (e : NoticeKey × Notice). is_eq (text_cmp e.0.tld tld)) (map.entries records.notices)

-- ---- one record more

abbrev pub with_registry : Records → List ℕ → ℕ → Records
with_registry records tld first_day = record records { registries = map.insert records.registries tld first_day }

abbrev pub with_part : Records → PartKey → PartRecord → Records
with_part records key part = record records { parts = map.insert records.parts key part }

abbrev pub with_notice : Records → NoticeKey → Notice → Records
with_notice records key notice = record records { notices = map.insert records.notices key notice }

abbrev pub with_release : Records → List ℕ → Release → Records
with_release records reference release = record records { releases = map.insert records.releases reference release }

abbrev pub with_hold : Records → List ℕ → Hold → Records
with_hold records reference hold = record records { holds = map.insert records.holds reference hold }

-- ---- holds

abbrev pub new_hold : List ℕ → ℕ → ℕ → Hold
new_hold tld day now = record { tld = tld; day = day; at = now; lifted = None }

-- the hold, lifted at a moment
abbrev pub lifted_at : ℕ → Hold → Hold
lifted_at now hold = record hold { lifted = Some now }

-- the record of a part of this name that was staged and received at this moment
abbrev pub staged_record : Name → ℕ → StagedPart → PartRecord
staged_record name received staged = record { kind = name.kind; received = received; len = staged.len; digest = staged.digest; extents = Some staged.extents }
