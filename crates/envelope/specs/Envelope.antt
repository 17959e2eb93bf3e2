-- What an envelope says, when it is in form, and its one text.
use Rattle.std.specs.Prelude.{◌≡◌, ◌≤◌, ◌<◌, ◌^◌, ℕ, zero, suc, List, [], ◌∷◌, ◌++◌, length, map, codes, decimal, Option, Some, None, option_map, IfSome, IsTrue, All}
use Rattle.std.specs.Cmp.Lexicographic.{slice_cmp}
use Rattle.std.specs.List.{join_with_byte}
use Rattle.std.specs.List.Sorted.{IsStrictlySortedBy}
use Rattle.std.specs.Ordering.{nat_cmp}
use Rattle.hex.specs.Hex.{encode_lower, IsBytes}
use Rattle.schedule.specs.Schedule.{IsDay}
use Rattle.schedule.specs.Text.{day_text}
use Rattle.deposit_name.specs.Identifiers.{IsTld, IsDepositId}
use Rattle.deposit_name.specs.Tables.{table_name_text, has_deletes}
use Rattle.deposit_name.specs.declared.kinds.Kind.{Kind}
use Rattle.deposit_name.specs.declared.kinds.Kind.TheVariants.{Full, Diff, Incr}
use Rattle.envelope.specs.Uri.{is_uri}
use Rattle.envelope.specs.declared.envelope.FileEntry.{FileEntry}
use Rattle.envelope.specs.declared.envelope.Count.{Count}
use Rattle.envelope.specs.declared.envelope.Envelope.{Envelope}

-- an envelope without where it lies in memory
pub record Env : Type 0 where
  pub contents : List FileEntry
  pub deletes : Option (List FileEntry)
  pub count : List Count
  pub tld : List ℕ
  pub id : List ℕ
  pub prev_id : Option (List ℕ)
  pub object_uris : List (List ℕ)
  pub resend : ℕ
  pub kind : Kind
  pub watermark : ℕ

abbrev pub env_of : Envelope → Env
env_of e = record {
  contents = e.contents.items;
  deletes = option_map (λ d. d.items) e.deletes;
  count = e.header.count.items;
  tld = e.header.tld;
  id = e.id;
  prev_id = e.prev_id;
  object_uris = e.menu.object_uris.items;
  resend = e.resend;
  kind = e.kind;
  watermark = e.watermark;
}

-- ---- in form

-- the most bytes of a file: 8 MiB
abbrev pub file_length_max : ℕ
file_length_max = 8_388_608

pub record IsFile (f : FileEntry) : Type 0 where
  pub small : f.length ≤ file_length_max
  pub digest : length f.sha256 ≡ 32
  pub bytes : IsBytes f.sha256

pub record IsCount (c : Count) : Type 0 where
  pub uri : IsTrue (is_uri c.uri)
  pub count : c.count < 2 ^ 32

-- the URIs rise in byte order
abbrev pub UrisRise : List Count → Type 0
UrisRise cs = IsStrictlySortedBy (slice_cmp nat_cmp) (map (λ c. c.uri) cs)

-- files whose keys a deposit may delete
pub record AreDeletes (ds : List FileEntry) : Type 0 where
  pub few : length ds ≤ 4
  pub files : All IsFile ds
  pub named : All (λ f. IsTrue (has_deletes f.name)) ds

-- there are deletes exactly in a DIFF and in an INCR
abbrev pub FitsKind : Kind → Option (List FileEntry) → Type 0
FitsKind Full None = Unit {0}
FitsKind Full (Some ds) = ⊥
FitsKind Diff None = ⊥
FitsKind Diff (Some ds) = AreDeletes ds
FitsKind Incr None = ⊥
FitsKind Incr (Some ds) = AreDeletes ds

pub record IsEnvelope (v : Env) : Type 0 where
  pub contents_few : length v.contents ≤ 8
  pub contents : All IsFile v.contents
  pub deletes : FitsKind v.kind v.deletes
  pub count_few : length v.count ≤ 16
  pub counts : All IsCount v.count
  pub count_order : UrisRise v.count
  pub tld : IsTld v.tld
  pub id : IsDepositId v.id
  pub prev_id : IfSome v.prev_id IsDepositId
  pub object_uris_some : 1 ≤ length v.object_uris
  pub object_uris_few : length v.object_uris ≤ 16
  pub object_uris : All (λ u. IsTrue (is_uri u)) v.object_uris
  pub resend : v.resend ≤ 99
  pub watermark : IsDay v.watermark

-- ---- the text

-- a string that needs no escape
abbrev pub quoted_text : List ℕ → List ℕ
quoted_text s = 34 ∷ (s ++ 34 ∷ [])

-- what stands before the item at index i
abbrev pub comma_before : ℕ → List ℕ
comma_before zero = []
comma_before (suc i) = 44 ∷ []

abbrev pub array_text : List (List ℕ) → List ℕ
array_text items = 91 ∷ (join_with_byte 44 items ++ 93 ∷ [])

-- a member: its name, and the text of its value
abbrev pub member_text : List ℕ × List ℕ → List ℕ
member_text m = quoted_text m.0 ++ 58 ∷ m.1

abbrev pub object_text : List (List ℕ × List ℕ) → List ℕ
object_text members = 123 ∷ (join_with_byte 44 (map member_text members) ++ 125 ∷ [])

abbrev pub file_text : FileEntry → List ℕ
file_text f = object_text (
    (codes "length", decimal f.length)
    ∷ (codes "name", quoted_text (table_name_text f.name))
    ∷ (codes "sha256", quoted_text (encode_lower f.sha256))
    ∷ [])

abbrev pub count_member : Count → List ℕ
count_member c = member_text (c.uri, decimal c.count)

abbrev pub counts_text : List Count → List ℕ
counts_text cs = 123 ∷ (join_with_byte 44 (map count_member cs) ++ 125 ∷ [])

abbrev pub type_text : Kind → List ℕ
type_text Full = codes "FULL"
type_text Diff = codes "DIFF"
type_text Incr = codes "INCR"

-- the list of the files
abbrev pub files_text : List FileEntry → List ℕ
files_text fs = array_text (map file_text fs)

abbrev pub header_text : List Count → List ℕ → List ℕ
header_text count tld = object_text ((codes "count", counts_text count) ∷ (codes "tld", quoted_text tld) ∷ [])

abbrev pub menu_text : List (List ℕ) → List ℕ
menu_text uris = object_text ((codes "objURI", array_text (map quoted_text uris)) ∷ (codes "version", quoted_text (codes "1.0")) ∷ [])

-- a member behind another
abbrev pub later_member : List ℕ → List ℕ → List ℕ
later_member name text = 44 ∷ member_text (name, text)

-- the same, where there is a value
abbrev pub later_member_if : {A : Type 0} → List ℕ → (A → List ℕ) → Option A → List ℕ
later_member_if name text None = []
later_member_if name text (Some x) = later_member name (text x)

-- the members up to `prevId`
abbrev pub front_text : Env → List ℕ
front_text v =
    123 ∷ (member_text (codes "contents", files_text v.contents)
    ++ (later_member_if (codes "deletes") files_text v.deletes
    ++ (later_member (codes "header") (header_text v.count v.tld)
    ++ (later_member (codes "id") (quoted_text v.id)
    ++ later_member_if (codes "prevId") quoted_text v.prev_id))))

-- the members from `rdeMenu` on, and the end
abbrev pub back_text : Env → List ℕ
back_text v =
    later_member (codes "rdeMenu") (menu_text v.object_uris)
    ++ (later_member (codes "resend") (decimal v.resend)
    ++ (later_member (codes "type") (quoted_text (type_text v.kind))
    ++ (later_member (codes "watermark") (quoted_text (day_text v.watermark ++ codes "T00:00:00Z"))
    ++ 125 ∷ [])))

-- the one text of an envelope: compact JSON, whose members are in byte order of their names
unfoldable pub env_text : Env → List ℕ
env_text v = front_text v ++ back_text v

-- no envelope in form has a text of more bytes
abbrev pub text_max : ℕ
text_max = 8192
