-- What is read of a JSON value that stands for an envelope. The text is compared afterwards, so what has a default or one form is not looked at here.
use Rattle.std.specs.Prelude.{◌≡◌, ℕ, List, [], ◌∷◌, length, take, codes, Option, Some, None, option_map, option_and_then, Result, Ok, Err, is_none, nat_le, if◌then◌else◌}
use Rattle.std.specs.Result.{result_ok}
use Rattle.std.specs.List.{list_all}
use Rattle.hex.specs.Hex.{decode_sized}
use Rattle.schedule.specs.Reading.{day_at}
use Rattle.deposit_name.specs.Identifiers.{passing_text, is_tld, is_deposit_id}
use Rattle.deposit_name.specs.Tables.{table_of_name, has_deletes}
use Rattle.deposit_name.specs.declared.kinds.Kind.{Kind}
use Rattle.deposit_name.specs.declared.kinds.Kind.TheVariants.{Full, Diff, Incr}
use Rattle.serde_json.specs.Data.{Data, Items, no_items, item, Members, no_members, member}
use Rattle.serde_json.specs.Find.{get, as_number, as_u64, as_str, as_array, as_object}
use Rattle.std.specs.Str.{bytes_eq}
use Rattle.envelope.specs.Uri.{is_uri}
use Rattle.envelope.specs.Envelope.{Env, file_length_max}
use Rattle.envelope.specs.declared.envelope.FileEntry.{FileEntry}
use Rattle.envelope.specs.declared.envelope.Count.{Count}
use Rattle.envelope.specs.declared.errors.EnvError.{EnvError}
use Rattle.envelope.specs.declared.errors.EnvError.TheVariants.{Spelling, Memory}
use Rattle.envelope.specs.declared.errors.Member.{Member}
use Rattle.envelope.specs.declared.errors.SpellingFault.TheVariants as fault

infixl 10 ◌>>=◌
abbrev pub ◌>>=◌ : {A B : Type 0} → Option A → (A → Option B) → Option B
o >>= f = option_and_then f o

-- What a function returned for a member, seen by view, is what reading gives; where that is nothing, the fault names the member. Memory may run out instead.
abbrev pub FailsReading : {Y : Type 0} → Member → EnvError → Option Y → Type 0
FailsReading m Memory read = Unit {0}
FailsReading m (Spelling f) read = (f ≡ fault.Member m) × (read ≡ None)

abbrev pub GivesReading : {X Y : Type 0} → Member → (X → Y) → Result X EnvError → Option Y → Type 0
GivesReading m view (Ok x) read = read ≡ Some (view x)
GivesReading m view (Err e) read = FailsReading m e read

-- ---- the parts

unfoldable pub number_at : ℕ → Data → Option ℕ
number_at limit d = do
  x ← as_number d
  n ← as_u64 x
  if nat_le n limit then Some n else None

-- the string of a member
unfoldable pub text_at : List ℕ → Data → Option (List ℕ)
text_at name d = do
  s ← get name d
  as_str s

abbrev pub digest_at : List ℕ → Option (List ℕ)
digest_at t = result_ok (decode_sized t 32)

unfoldable pub file_at : Data → Option FileEntry
file_at d = do
  l ← get (codes "length") d
  n ← number_at file_length_max l
  t ← text_at (codes "name") d
  name ← table_of_name t
  h ← text_at (codes "sha256") d
  sha ← digest_at h
  Some (record { length = n; name = name; sha256 = sha })

unfoldable pub uri_at : Data → Option (List ℕ)
uri_at d = do
  t ← as_str d
  passing_text is_uri t

-- each item of an array
unfoldable pub each_at : {X : Type 0} → (Data → Option X) → Items → Option (List X)
each_at f no_items = Some []
each_at f (item d ds) = do
  x ← f d
  xs ← each_at f ds
  Some (x ∷ xs)

-- one member of the counts
unfoldable pub count_at : List ℕ → Data → Option Count
count_at k d = do
  uri ← passing_text is_uri k
  n ← number_at 4294967295 d
  Some (record { uri = uri; count = n })

-- the members of the counts
unfoldable pub counts_of : Members → Option (List Count)
counts_of no_members = Some []
counts_of (member k d ms) = do
  c ← count_at k d
  cs ← counts_of ms
  Some (c ∷ cs)

-- a list that is not too long
abbrev pub short_list : {X : Type 0} → ℕ → List X → Option (List X)
short_list limit xs = if nat_le (length xs) limit then Some xs else None

unfoldable pub files_at : ℕ → Data → Option (List FileEntry)
files_at limit d = do
  items ← as_array d
  fs ← each_at file_at items
  short_list limit fs

unfoldable pub uris_at : Data → Option (List (List ℕ))
uris_at d = do
  items ← as_array d
  us ← each_at uri_at items
  if nat_le 1 (length us) then short_list 16 us else None

unfoldable pub counts_at : Data → Option (List Count)
counts_at d = do
  ms ← as_object d
  cs ← counts_of ms
  short_list 16 cs

unfoldable pub kind_at : List ℕ → Option Kind
kind_at t =
    if bytes_eq t (codes "FULL") then Some Full
    else if bytes_eq t (codes "DIFF") then Some Diff
    else if bytes_eq t (codes "INCR") then Some Incr
    else None

unfoldable pub type_at : Data → Option Kind
type_at d = do
  t ← text_at (codes "type") d
  kind_at t

unfoldable pub contents_at : Data → Option (List FileEntry)
contents_at d = do
  c ← get (codes "contents") d
  files_at 8 c

abbrev pub deletes_member_at : Data → Option (Option (List FileEntry))
deletes_member_at d = do
  x ← get (codes "deletes") d
  fs ← files_at 4 x
  if list_all (λ f. has_deletes f.name) fs then Some (Some fs) else None

unfoldable pub deletes_at : Kind → Data → Option (Option (List FileEntry))
deletes_at Full d = Some None
deletes_at Diff d = deletes_member_at d
deletes_at Incr d = deletes_member_at d

unfoldable pub id_at : List ℕ → Data → Option (List ℕ)
id_at name d = do
  t ← text_at name d
  passing_text is_deposit_id t

-- an id that may be missing
unfoldable pub prev_id_at : Data → Option (Option (List ℕ))
prev_id_at d = if is_none (get (codes "prevId") d) then Some None else option_map Some (id_at (codes "prevId") d)

-- the day whose text stands first
unfoldable pub watermark_at : Data → Option ℕ
watermark_at d = do
  t ← text_at (codes "watermark") d
  day_at (take 10 t)

-- the members of the header
unfoldable pub count_in_header : Data → Option (List Count)
count_in_header d = do
  h ← get (codes "header") d
  n ← get (codes "count") h
  counts_at n

unfoldable pub tld_in_header : Data → Option (List ℕ)
tld_in_header d = do
  h ← get (codes "header") d
  t ← text_at (codes "tld") h
  passing_text is_tld t

-- the URIs of the menu
unfoldable pub uris_in_menu : Data → Option (List (List ℕ))
uris_in_menu d = do
  m ← get (codes "rdeMenu") d
  o ← get (codes "objURI") m
  uris_at o

unfoldable pub resend_at : Data → Option ℕ
resend_at d = do
  r ← get (codes "resend") d
  number_at 99 r

-- the whole envelope
unfoldable pub env_at : Data → Option Env
env_at d = do
  contents ← contents_at d
  kind ← type_at d
  deletes ← deletes_at kind d
  count ← count_in_header d
  tld ← tld_in_header d
  id ← id_at (codes "id") d
  prev_id ← prev_id_at d
  object_uris ← uris_in_menu d
  resend ← resend_at d
  watermark ← watermark_at d
  Some (record {
    contents = contents;
    deletes = deletes;
    count = count;
    tld = tld;
    id = id;
    prev_id = prev_id;
    object_uris = object_uris;
    resend = resend;
    kind = kind;
    watermark = watermark;
  })
