-- The tables of a custody as rows, in the order in which they were added. A table that is not there is None.
use Rattle.std.specs.Prelude.{ℕ, ℤ, pos, if◌then◌else◌, List, [], ◌∷◌, ◌++◌, Option, Some, map, option_map, slice_get}
use Rattle.std.specs.Str.{bytes_eq}
use Rattle.std.specs.Option.{option_and_then}

-- the greatest integer that a column of SQLite holds, 2 ^ 63 - 1
abbrev pub greatest_integer : ℕ
greatest_integer = 9_223_372_036_854_775_807

pub record MetaRow : Type 0 where
  pub one : ℤ
  pub schema_no : ℤ
  pub number : List ℕ
  pub blocks : ℤ

pub record RegistryRow : Type 0 where
  pub tld : List ℕ
  pub first_day : ℤ

pub record PartRow : Type 0 where
  pub tld : List ℕ
  pub day : ℤ
  pub rev : ℤ
  pub part : ℤ
  pub kind : List ℕ
  pub received : ℤ
  pub keep_day : ℤ
  pub len : ℤ
  pub sha : List ℕ
  -- none where the bytes were dropped
  pub extents : Option (List ℕ)

pub record NoticeRow : Type 0 where
  pub tld : List ℕ
  pub number : ℤ
  pub kind : ℤ
  pub day : ℤ
  pub rev : ℤ
  pub id : List ℕ
  pub at : ℤ

pub record HandoverRow : Type 0 where
  pub reference : List ℕ
  pub tld : List ℕ
  pub reason : List ℕ
  pub at : ℤ
  pub names : List ℕ

pub record HoldRow : Type 0 where
  pub reference : List ℕ
  pub tld : List ℕ
  pub day : ℤ
  pub at : ℤ
  -- none where it is not lifted
  pub lifted : Option ℤ

pub record Rows : Type 0 where
  pub meta : Option (List MetaRow)
  pub registries : Option (List RegistryRow)
  pub parts : Option (List PartRow)
  pub notices : Option (List NoticeRow)
  pub handovers : Option (List HandoverRow)
  pub holds : Option (List HoldRow)

-- the first row of meta
abbrev pub first_meta : Rows → Option MetaRow
first_meta rows = option_and_then (λ metas. slice_get metas 0) rows.meta

-- a row more
abbrev pub with_row : {X : Type 0} → X → Option (List X) → Option (List X)
with_row row = option_map (λ all. all ++ row ∷ [])

abbrev pub with_registry_row : RegistryRow → Rows → Rows
with_registry_row row rows = record rows { registries = with_row row rows.registries }

abbrev pub with_part_row : PartRow → Rows → Rows
with_part_row row rows = record rows { parts = with_row row rows.parts }

abbrev pub with_notice_row : NoticeRow → Rows → Rows
with_notice_row row rows = record rows { notices = with_row row rows.notices }

abbrev pub with_handover_row : HandoverRow → Rows → Rows
with_handover_row row rows = record rows { handovers = with_row row rows.handovers }

abbrev pub with_hold_row : HoldRow → Rows → Rows
with_hold_row row rows = record rows { holds = with_row row rows.holds }

-- the hold of this reference with the moment of its lifting, each other as it is
abbrev pub row_with_lifting : (reference : List ℕ) → (at : ℕ) → HoldRow → HoldRow
row_with_lifting reference at row = if bytes_eq row.reference reference then record row { lifted = Some (pos at) } else row

-- each row at its place, and the hold of this reference lifted
abbrev pub with_lifting : (reference : List ℕ) → (at : ℕ) → Rows → Rows
with_lifting reference at rows = record rows { holds = option_map (map (row_with_lifting reference at)) rows.holds }

-- The tables of schema 1, in which there are no holds, as those of schema 2.
abbrev pub migrated_rows : Rows → Rows
migrated_rows rows = record rows { meta = option_map (map (λ (row : MetaRow). record row { schema_no = pos 2 })) rows.meta; holds = Some [] }

-- six new tables, with their one row of meta
abbrev pub initial_rows : List ℕ → ℤ → Rows
initial_rows number blocks = record {
  meta = Some ((record { one = pos 1; schema_no = pos 2; number = number; blocks = blocks }) ∷ []);
  registries = Some [];
  parts = Some [];
  notices = Some [];
  handovers = Some [];
  holds = Some [];
}
