-- The statements of the calls that write, and the values that each is given.
use Rattle.std.specs.Prelude.{ℕ, List, [], ◌∷◌, ◌++◌, codes, map, pos}
use Rattle.sqlite.specs.declared.types.Value.TheVariants.{Int, Text, Blob}
use Rattle.sqlite.specs.Order.{Row}
use Rattle.custody_records.specs.Keys.{PartKey}
use Rattle.custody_records.specs.Rows.{RegistryRow, PartRow, NoticeRow, HandoverRow, HoldRow}
use Rattle.custody_store.specs.Calls.{SqlStatement}
use Rattle.custody_store.specs.Reading.{bytes_or_null, integer_or_null}

-- ---- the tables, and the row of meta

abbrev pub create_meta_text : List ℕ
create_meta_text = codes "CREATE TABLE meta (one INTEGER PRIMARY KEY NOT NULL, schema_no INTEGER NOT NULL, number TEXT NOT NULL, blocks INTEGER NOT NULL) STRICT"

abbrev pub create_registry_text : List ℕ
create_registry_text = codes "CREATE TABLE registry (tld TEXT PRIMARY KEY NOT NULL, first_day INTEGER NOT NULL) STRICT"

abbrev pub create_part_text : List ℕ
create_part_text = codes "CREATE TABLE part (tld TEXT NOT NULL REFERENCES registry (tld), day INTEGER NOT NULL, rev INTEGER NOT NULL, part INTEGER NOT NULL, kind TEXT NOT NULL, received INTEGER NOT NULL, keep_day INTEGER NOT NULL, len INTEGER NOT NULL, sha BLOB NOT NULL, extents BLOB, PRIMARY KEY (tld, day, rev, part)) STRICT"

abbrev pub create_notice_text : List ℕ
create_notice_text = codes "CREATE TABLE notice (tld TEXT NOT NULL REFERENCES registry (tld), number INTEGER NOT NULL, kind INTEGER NOT NULL, day INTEGER NOT NULL, rev INTEGER NOT NULL, id TEXT NOT NULL, at INTEGER NOT NULL, PRIMARY KEY (tld, number)) STRICT"

abbrev pub create_handover_text : List ℕ
create_handover_text = codes "CREATE TABLE handover (reference TEXT PRIMARY KEY NOT NULL, tld TEXT NOT NULL REFERENCES registry (tld), ground TEXT NOT NULL, at INTEGER NOT NULL, names TEXT NOT NULL) STRICT"

abbrev pub create_hold_text : List ℕ
create_hold_text = codes "CREATE TABLE hold (reference TEXT PRIMARY KEY NOT NULL, tld TEXT NOT NULL REFERENCES registry (tld), day INTEGER NOT NULL, at INTEGER NOT NULL, lifted INTEGER) STRICT"

abbrev pub insert_meta_text : List ℕ
insert_meta_text = codes "INSERT INTO meta (one, schema_no, number, blocks) VALUES (1, 2, ?1, ?2)"

abbrev pub insert_meta_values : List ℕ → ℕ → Row
insert_meta_values digits blocks = Text digits ∷ Int (pos blocks) ∷ []

abbrev pub create_table_statements : List SqlStatement
create_table_statements = (create_meta_text, []) ∷ (create_registry_text, []) ∷ (create_part_text, []) ∷ (create_notice_text, []) ∷ (create_handover_text, []) ∷ (create_hold_text, []) ∷ []

-- those of `create`
abbrev pub create_statements : List ℕ → ℕ → List SqlStatement
create_statements digits blocks = create_table_statements ++ (insert_meta_text, insert_meta_values digits blocks) ∷ []

-- ---- schema 2 in the place of schema 1

abbrev pub set_schema_text : List ℕ
set_schema_text = codes "UPDATE meta SET schema_no = 2"

-- those of `migrate`
abbrev pub migrate_statements : List SqlStatement
migrate_statements = (create_hold_text, []) ∷ (set_schema_text, []) ∷ []

-- ---- a row that is added

abbrev pub insert_registry_text : List ℕ
insert_registry_text = codes "INSERT INTO registry (tld, first_day) VALUES (?1, ?2)"

abbrev pub insert_registry_values : RegistryRow → Row
insert_registry_values row = Text row.tld ∷ Int row.first_day ∷ []

abbrev pub insert_part_text : List ℕ
insert_part_text = codes "INSERT INTO part (tld, day, rev, part, kind, received, keep_day, len, sha, extents) VALUES (?1, ?2, ?3, ?4, ?5, ?6, ?7, ?8, ?9, ?10)"

abbrev pub insert_part_values : PartRow → Row
insert_part_values row = Text row.tld ∷ Int row.day ∷ Int row.rev ∷ Int row.part ∷ Text row.kind ∷ Int row.received ∷ Int row.keep_day ∷ Int row.len ∷ Blob row.sha ∷ bytes_or_null row.extents ∷ []

abbrev pub insert_notice_text : List ℕ
insert_notice_text = codes "INSERT INTO notice (tld, number, kind, day, rev, id, at) VALUES (?1, ?2, ?3, ?4, ?5, ?6, ?7)"

abbrev pub insert_notice_values : NoticeRow → Row
insert_notice_values row = Text row.tld ∷ Int row.number ∷ Int row.kind ∷ Int row.day ∷ Int row.rev ∷ Text row.id ∷ Int row.at ∷ []

abbrev pub insert_handover_text : List ℕ
insert_handover_text = codes "INSERT INTO handover (reference, tld, ground, at, names) VALUES (?1, ?2, ?3, ?4, ?5)"

abbrev pub insert_handover_values : HandoverRow → Row
insert_handover_values row = Text row.reference ∷ Text row.tld ∷ Text row.reason ∷ Int row.at ∷ Text row.names ∷ []

abbrev pub insert_hold_text : List ℕ
insert_hold_text = codes "INSERT INTO hold (reference, tld, day, at, lifted) VALUES (?1, ?2, ?3, ?4, ?5)"

abbrev pub insert_hold_values : HoldRow → Row
insert_hold_values row = Text row.reference ∷ Text row.tld ∷ Int row.day ∷ Int row.at ∷ integer_or_null row.lifted ∷ []

-- ---- rows that change

abbrev pub lift_text : List ℕ
lift_text = codes "UPDATE hold SET lifted = ?2 WHERE reference = ?1"

abbrev pub lift_values : List ℕ → ℕ → Row
lift_values reference at = Text reference ∷ Int (pos at) ∷ []

abbrev pub drop_bytes_text : List ℕ
drop_bytes_text = codes "UPDATE part SET extents = NULL WHERE tld = ?1 AND day = ?2 AND rev = ?3 AND part = ?4"

abbrev pub drop_bytes_values : PartKey → Row
drop_bytes_values key = Text key.tld ∷ Int (pos key.day) ∷ Int (pos key.rev) ∷ Int (pos key.part) ∷ []

-- those of `drop_bytes`: one for each part
abbrev pub drop_bytes_statements : List PartKey → List SqlStatement
drop_bytes_statements keys = map (λ key. (drop_bytes_text, drop_bytes_values key)) keys
