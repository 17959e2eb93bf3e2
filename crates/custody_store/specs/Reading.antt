-- The rows that a database holds, by the list of its tables.
use Rattle.std.specs.Prelude.{ℕ, ℤ, ◌+◌, ◌-◌, ◌&&◌, Bool, List, map, find, codes, bytes_eq, Option, Some, None, option_map}
use Rattle.sqlite.specs.declared.types.Value.{Value}
use Rattle.sqlite.specs.declared.types.Value.TheVariants.{Null, Int, Real, Text, Blob}
use Rattle.sqlite.specs.Order.{Row, column, bytes}
use Rattle.sqlite.specs.Tree.{Trees, rowid}
use Rattle.sqlite.specs.Edit.{id_in}
use Rattle.sqlite_trees.specs.Objects.{catalog_tree, number_in}
use Rattle.sqlite_catalog.specs.Listing.{is_table_row}
use Rattle.std.specs.List.{list_any}
use Rattle.sqlite.specs.Schema.{Schema}
use Rattle.sqlite_schema.specs.Names.{same_name}
use Rattle.custody_records.specs.Rows.{MetaRow, RegistryRow, PartRow, NoticeRow, HandoverRow, HoldRow, Rows}

abbrev pub bytes_unless_null : Value → Option (List ℕ)
bytes_unless_null Null = None
bytes_unless_null (Int n) = Some (bytes (Int n))
bytes_unless_null (Real x) = Some (bytes (Real x))
bytes_unless_null (Text t) = Some t
bytes_unless_null (Blob b) = Some b

abbrev pub integer_unless_null : Value → Option ℤ
integer_unless_null Null = None
integer_unless_null (Int n) = Some n
integer_unless_null (Real x) = Some (id_in (Real x))
integer_unless_null (Text t) = Some (id_in (Text t))
integer_unless_null (Blob b) = Some (id_in (Blob b))

-- bytes, or NULL for none
abbrev pub bytes_or_null : Option (List ℕ) → Value
bytes_or_null None = Null
bytes_or_null (Some b) = Blob b

-- a number, or NULL for none
abbrev pub integer_or_null : Option ℤ → Value
integer_or_null None = Null
integer_or_null (Some n) = Int n

-- a row of a table is its rowid and then its columns; the key of meta is the rowid
abbrev pub stored_meta_row : Row → MetaRow
stored_meta_row row = record { one = id_in (rowid row); schema_no = id_in (column row 2); number = bytes (column row 3); blocks = id_in (column row 4) }

-- the columns of a registry in a row, from the first of them on
abbrev pub registry_row_from : ℕ → Row → RegistryRow
registry_row_from first row = record { tld = bytes (column row first); first_day = id_in (column row (first + 1)) }

abbrev pub stored_registry_row : Row → RegistryRow
stored_registry_row = registry_row_from 1

-- the columns of a part in a row, from the first of them on
abbrev pub part_row_from : ℕ → Row → PartRow
part_row_from first row = record {
  tld = bytes (column row first);
  day = id_in (column row (first + 1));
  rev = id_in (column row (first + 2));
  part = id_in (column row (first + 3));
  kind = bytes (column row (first + 4));
  received = id_in (column row (first + 5));
  keep_day = id_in (column row (first + 6));
  len = id_in (column row (first + 7));
  sha = bytes (column row (first + 8));
  extents = bytes_unless_null (column row (first + 9));
}

abbrev pub stored_part_row : Row → PartRow
stored_part_row = part_row_from 1

-- the columns of a notice in a row, from the first of them on
abbrev pub notice_row_from : ℕ → Row → NoticeRow
notice_row_from first row = record {
  tld = bytes (column row first);
  number = id_in (column row (first + 1));
  kind = id_in (column row (first + 2));
  day = id_in (column row (first + 3));
  rev = id_in (column row (first + 4));
  id = bytes (column row (first + 5));
  at = id_in (column row (first + 6));
}

abbrev pub stored_notice_row : Row → NoticeRow
stored_notice_row = notice_row_from 1

-- the columns of a handover in a row, from the first of them on
abbrev pub handover_row_from : ℕ → Row → HandoverRow
handover_row_from first row = record { reference = bytes (column row first); tld = bytes (column row (first + 1)); reason = bytes (column row (first + 2)); at = id_in (column row (first + 3)); names = bytes (column row (first + 4)) }

abbrev pub stored_handover_row : Row → HandoverRow
stored_handover_row = handover_row_from 1

-- the columns of a hold in a row, from the first of them on
abbrev pub hold_row_from : ℕ → Row → HoldRow
hold_row_from first row = record { reference = bytes (column row first); tld = bytes (column row (first + 1)); day = id_in (column row (first + 2)); at = id_in (column row (first + 3)); lifted = integer_unless_null (column row (first + 4)) }

abbrev pub stored_hold_row : Row → HoldRow
stored_hold_row = hold_row_from 1

abbrev pub is_listing_of_table : List ℕ → Row → Bool
is_listing_of_table name object = is_table_row object && bytes_eq (bytes (column object 2)) name

-- the number of the tree of the table with this name
abbrev pub tree_named : List ℕ → Trees → Option ℕ
tree_named name trees = option_map (λ object. number_in (rowid object) - 1) (find (is_listing_of_table name) (trees catalog_tree))

abbrev pub rows_named : {X : Type 0} → (Row → X) → List ℕ → Trees → Option (List X)
rows_named read name trees = option_map (λ tree. map read (trees tree)) (tree_named name trees)

abbrev pub rows_in : Trees → Rows
rows_in trees = record {
  meta = rows_named stored_meta_row (codes "meta") trees;
  registries = rows_named stored_registry_row (codes "registry") trees;
  parts = rows_named stored_part_row (codes "part") trees;
  notices = rows_named stored_notice_row (codes "notice") trees;
  handovers = rows_named stored_handover_row (codes "handover") trees;
  holds = rows_named stored_hold_row (codes "hold") trees;
}

-- the rows of a database without tables
abbrev pub no_rows : Rows
no_rows = record { meta = None; registries = None; parts = None; notices = None; handovers = None; holds = None }

-- a row that is answered has the columns alone
abbrev pub answered_registry : Row → RegistryRow
answered_registry = registry_row_from 0

abbrev pub answered_part : Row → PartRow
answered_part = part_row_from 0

abbrev pub answered_notice : Row → NoticeRow
answered_notice = notice_row_from 0

abbrev pub answered_handover : Row → HandoverRow
answered_handover = handover_row_from 0

abbrev pub answered_hold : Row → HoldRow
answered_hold = hold_row_from 0

abbrev pub answered_meta : Row → MetaRow
answered_meta row = record { one = id_in (column row 0); schema_no = id_in (column row 1); number = bytes (column row 2); blocks = id_in (column row 3) }

-- a table of the schema has this name
abbrev pub has_table : List ℕ → Schema → Bool
has_table name schema = list_any (λ t. same_name t.name name) schema.tables
