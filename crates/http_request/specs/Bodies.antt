-- The JSON bodies of requests, as the values that a JSON text stands for (RFC 8259).
use Rattle.std.specs.Prelude.{◌≡◌, ℕ, List, codes, Some, IsUtf8}
use Rattle.serde_json.specs.Data.{Data, number, unsigned, string, object, no_members, member}
use Rattle.serde_json.specs.Read.{read}

-- the bytes are a JSON text of this value
abbrev pub IsJsonOf : List ℕ → Data → Type 0
IsJsonOf bytes d = IsUtf8 bytes × (read bytes ≡ Some d)

-- the texts and numbers of a statement
pub record StatementTexts : Type 0 where
  pub date : List ℕ
  pub id : List ℕ
  pub kind : List ℕ
  pub parts : ℕ
  pub revision : ℕ
  pub tld : List ℕ

-- the texts of a release
pub record ReleaseTexts : Type 0 where
  pub reason : List ℕ
  pub tld : List ℕ

-- the texts of a hold
pub record HoldTexts : Type 0 where
  pub date : List ℕ
  pub tld : List ℕ

-- `{"first":..}`
abbrev pub registration_json : List ℕ → Data
registration_json first = object (member (codes "first") (string first) no_members)

-- `{"date":..,"id":..,"kind":..,"parts":..,"revision":..,"tld":..}`
abbrev pub statement_json : StatementTexts → Data
statement_json s =
    object (member (codes "date") (string s.date) (member (codes "id") (string s.id) (member (codes "kind") (string s.kind)
    (member (codes "parts") (number (unsigned s.parts)) (member (codes "revision") (number (unsigned s.revision)) (member (codes "tld") (string s.tld) no_members))))))

-- an object of two members
abbrev pub two_json : (first text second next : List ℕ) → Data
two_json first text second next = object (member first (string text) (member second (string next) no_members))

-- `{"ground":..,"tld":..}`
abbrev pub release_json : ReleaseTexts → Data
release_json r = two_json (codes "ground") r.reason (codes "tld") r.tld

-- `{"date":..,"tld":..}`
abbrev pub hold_json : HoldTexts → Data
hold_json h = two_json (codes "date") h.date (codes "tld") h.tld
