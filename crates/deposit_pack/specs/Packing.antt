-- What a registry deposits, and the one deposit of it (RFC 8909, section 5.1; the CSV model of RFC 9022).
use Rattle.std.specs.Prelude.{ℕ, Bool, List, [], ◌∷◌, ◌++◌, Option, Some, None, length, map}
use Rattle.std.specs.List.{concat}
use Rattle.sha2.specs.Sha256.{sha256}
use Rattle.deposit_name.specs.declared.kinds.Kind.{Kind}
use Rattle.deposit_name.specs.declared.kinds.Kind.TheVariants.{Full, Diff, Incr}
use Rattle.deposit_name.specs.declared.table.TableName.{TableName}
use Rattle.envelope.specs.Envelope.{Env, env_text}
use Rattle.envelope.specs.Frame.{frame}
use Rattle.envelope.specs.declared.envelope.Count.{Count}
use Rattle.envelope.specs.declared.envelope.FileEntry.{FileEntry}
use Rattle.dnrd_csv.specs.AnySpelling.{rows_below_header}
use Rattle.dnrd_csv.specs.Text.{table_text}
use Rattle.deposit_verify.specs.Checks.{counted_tables, counted_uris, object_uris}
use Rattle.deposit_verify.specs.Rows.{rows_under}
use Rattle.deposit_verify.specs.Verdict.{key_numbers}
use Rattle.deposit_verify.specs.declared.base.Base.{Base}
use Rattle.deposit_pack.specs.declared.source.Attributes.{Attributes}
use Rattle.deposit_pack.specs.declared.source.Source.{Source}
use Rattle.deposit_pack.specs.declared.source.TableFile.{TableFile}

-- ---- what is deposited

-- the rows of a table; of a file of deleted keys, each key is a row of one field
pub record NamedRows : Type 0 where
  pub name : TableName
  pub rows : List (List (List ℕ))

-- the tables that a deposit contains, and the keys that it deletes
pub record Objects : Type 0 where
  pub contents : List NamedRows
  pub deletes : List NamedRows

-- those of a registry's files, below their headers where they have any
abbrev pub named_rows : Bool → TableFile → NamedRows
named_rows has_headers file = record { name = file.name; rows = rows_below_header has_headers file.text.now }

abbrev pub objects_in : Source → Objects
objects_in source = record {
  contents = map (named_rows source.has_headers) source.contents.now;
  deletes = map (named_rows source.has_headers) source.deletes.now;
}

abbrev pub table_names : List NamedRows → List TableName
table_names files = map (λ f. f.name) files

abbrev pub rows_of : List NamedRows → List (List (List (List ℕ)))
rows_of files = map (λ f. f.rows) files

-- ---- its files

-- rows in their one spelling
abbrev pub file_of : NamedRows → List ℕ
file_of f = table_text f.rows

abbrev pub packed_entry : NamedRows → FileEntry
packed_entry f = record { length = length (file_of f); name = f.name; sha256 = sha256 (file_of f) }

-- all files, one behind the other
abbrev pub files_text_of : Objects → List ℕ
files_text_of o = concat (map file_of (o.contents ++ o.deletes))

-- ---- its envelope

-- these objects are counted so
abbrev pub counts_with : List (List ℕ) → List ℕ → List Count
counts_with [] numbers = []
counts_with (uri ∷ uris) [] = []
counts_with (uri ∷ uris) (number ∷ numbers) = record { uri = uri; count = number } ∷ counts_with uris numbers

-- only a deposit that is not full has files of deleted keys
abbrev pub deletes_member : Kind → List FileEntry → Option (List FileEntry)
deletes_member Full entries = None
deletes_member Diff entries = Some entries
deletes_member Incr entries = Some entries

-- the envelope with these numbers of counted objects
abbrev pub env_counting : Attributes → Objects → List ℕ → Env
env_counting a o numbers = record {
  contents = map packed_entry o.contents;
  deletes = deletes_member a.name.kind (map packed_entry o.deletes);
  count = counts_with counted_uris numbers;
  tld = a.name.tld;
  id = a.id;
  prev_id = a.prev_id;
  object_uris = object_uris;
  resend = a.name.rev;
  kind = a.name.kind;
  watermark = a.name.day;
}

-- the rows of a table of contents
abbrev pub contents_rows : Objects → TableName → List (List (List ℕ))
contents_rows o name = rows_under (map packed_entry o.contents) (rows_of o.contents) name

-- a full deposit counts its rows, and any other the keys that there are after it
abbrev pub numbers_of : Kind → Attributes → Objects → Base → List ℕ
numbers_of Full a o before = map (λ name. length (contents_rows o name)) counted_tables
numbers_of Diff a o before = key_numbers (env_counting a o []) before (rows_of o.contents) (rows_of o.deletes)
numbers_of Incr a o before = key_numbers (env_counting a o []) before (rows_of o.contents) (rows_of o.deletes)

-- ---- the deposit

-- the envelope of the deposit, where these keys are there before it
abbrev pub packed_env : Attributes → Objects → Base → Env
packed_env a o before = env_counting a o (numbers_of a.name.kind a o before)

-- the deposit: its parts, joined in order
unfoldable pub packed : Attributes → Objects → Base → List ℕ
packed a o before = frame (env_text (packed_env a o before)) (files_text_of o)

-- the most bytes of a deposit: eight parts of 1 MiB
abbrev pub deposit_length_max : ℕ
deposit_length_max = 8_388_608
