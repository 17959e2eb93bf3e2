-- What the code reads of a JSON value: its members in turn, each in form.
use Rattle.std.specs.Prelude.{ℕ, List, codes, Option, Some, None, option_and_then, if◌then◌else◌}
use Rattle.std.specs.Str.{bytes_eq}
use Rattle.serde_json.specs.Data.{Data, Members, no_members, member}
use Rattle.http_request.specs.Bodies.{StatementTexts, ReleaseTexts, HoldTexts}
use Rattle.serde_json.specs.Find.{as_number, as_u64, as_str, as_object}

infixl 10 ◌>>=◌
abbrev pub ◌>>=◌ : {A B : Type 0} → Option A → (A → Option B) → Option B
o >>= f = option_and_then f o

-- the value of the first member, where it has this name, and the members behind it
abbrev pub next_member : List ℕ → Members → Option (Data × Members)
next_member name no_members = None
next_member name (member k d ms) = if bytes_eq k name then Some (d, ms) else None

abbrev pub end_of : Members → Option (Unit {0})
end_of no_members = Some tt
end_of (member k d ms) = None

-- the string of a first member
abbrev pub next_text : List ℕ → Members → Option (List ℕ × Members)
next_text name ms = do
  m ← next_member name ms
  t ← as_str m.0
  Some (t, m.1)

-- the whole number of a first member
abbrev pub next_u64 : List ℕ → Members → Option (ℕ × Members)
next_u64 name ms = do
  m ← next_member name ms
  x ← as_number m.0
  n ← as_u64 x
  Some (n, m.1)

unfoldable pub registration_text : Data → Option (List ℕ)
registration_text d = do
  ms ← as_object d
  first ← next_text (codes "first") ms
  _ ← end_of first.1
  Some first.0

unfoldable pub statement_fields : Data → Option StatementTexts
statement_fields d = do
  ms ← as_object d
  date ← next_text (codes "date") ms
  id ← next_text (codes "id") date.1
  kind ← next_text (codes "kind") id.1
  parts ← next_u64 (codes "parts") kind.1
  revision ← next_u64 (codes "revision") parts.1
  tld ← next_text (codes "tld") revision.1
  _ ← end_of tld.1
  Some (record { date = date.0; id = id.0; kind = kind.0; parts = parts.0; revision = revision.0; tld = tld.0 })

-- the strings of an object that has two members, of these names
unfoldable pub two_texts : List ℕ → List ℕ → Data → Option (List ℕ × List ℕ)
two_texts first second d = do
  ms ← as_object d
  one ← next_text first ms
  two ← next_text second one.1
  _ ← end_of two.1
  Some (one.0, two.0)

abbrev pub release_fields : Data → Option ReleaseTexts
release_fields d = do
  texts ← two_texts (codes "ground") (codes "tld") d
  Some (record { reason = texts.0; tld = texts.1 })

abbrev pub hold_fields : Data → Option HoldTexts
hold_fields d = do
  texts ← two_texts (codes "date") (codes "tld") d
  Some (record { date = texts.0; tld = texts.1 })
