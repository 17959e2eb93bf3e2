-- By what records are found: the keys of the records, and their orders.
use Rattle.std.specs.Prelude.{ℕ, List}
use Rattle.std.specs.declared.cmp.Ordering.{Ordering}
use Rattle.std.specs.Ordering.{nat_cmp, ordering_then}
use Rattle.std.specs.Cmp.Lexicographic.{slice_cmp}

-- texts in the order of their bytes
abbrev pub text_cmp : List ℕ → List ℕ → Ordering
text_cmp = slice_cmp nat_cmp

-- the place of a part: a revision of a registry's deposit of a day, and the place in its series
pub record PartKey : Type 0 where
  pub tld : List ℕ
  pub day : ℕ
  pub rev : ℕ
  pub part : ℕ

-- by registry, day, revision and place in the series
abbrev pub part_cmp : PartKey → PartKey → Ordering
part_cmp a b = ordering_then (text_cmp a.tld b.tld) (ordering_then (nat_cmp a.day b.day) (ordering_then (nat_cmp a.rev b.rev) (nat_cmp a.part b.part)))

-- by registry, day and revision, whatever the place in the series
abbrev pub revision_cmp : PartKey → PartKey → Ordering
revision_cmp a b = ordering_then (text_cmp a.tld b.tld) (ordering_then (nat_cmp a.day b.day) (nat_cmp a.rev b.rev))

-- by registry and day: the day of a registry, as a part's place has it
abbrev pub day_cmp : List ℕ × ℕ → List ℕ × ℕ → Ordering
day_cmp a b = ordering_then (text_cmp a.0 b.0) (nat_cmp a.1 b.1)

-- the number of a notice among those of its registry
pub record NoticeKey : Type 0 where
  pub tld : List ℕ
  pub number : ℕ

-- by registry and number
abbrev pub notice_cmp : NoticeKey → NoticeKey → Ordering
notice_cmp a b = ordering_then (text_cmp a.tld b.tld) (nat_cmp a.number b.number)
