-- What is read of a JSON value is read of exactly one value.
use Rattle.std.proofs.Common.{◌≡◌, ℕ, List, codes, Option, Some, None, Bool, true, false, refl, ap, sym, subst, ◌∙◌, if◌then◌else◌}
use Rattle.std.specs.Option.{option_and_then}
use Rattle.std.specs.Str.{bytes_eq}
use Rattle.std.specs.Cmp.Lexicographic.{bytes_decides}
use Rattle.serde_json.specs.Data.{Num, unsigned, Data, number, string, object, Members, no_members, member}
use Rattle.serde_json.specs.Find.{as_number, as_u64, as_str, as_object}
use Rattle.http_request.specs.Bodies.{StatementTexts, ReleaseTexts, HoldTexts, registration_json, statement_json, two_json, release_json, hold_json}
use Rattle.http_request.specs.inside.BodyReading.{next_member, end_of, next_text, next_u64, registration_text, statement_fields, two_texts, release_fields, hold_fields}

chained : {A B : Type 0} (f : A → Option B) (o : Option A) (b : B) → option_and_then f o ≡ Some b → (a : A) × (o ≡ Some a) × (f a ≡ Some b)
chained f None b e = cc
chained f (Some a) b e = (a, refl, e)

pub some_same : {A : Type 0} (a b : A) → Some a ≡ Some b → a ≡ b
some_same a b e = cc

-- ---- what a step of a chain gives, and what is read behind it

module _ {B : Type 0} (b : B) where
  object_then : (d : Data) (k : Members → Option B) → option_and_then k (as_object d) ≡ Some b → (ms : Members) × (d ≡ object ms) × (k ms ≡ Some b)
  object_then (object ms) k e = (ms, refl, e)
  object_then _ k e = cc

  string_then : (d : Data) (k : List ℕ → Option B) → option_and_then k (as_str d) ≡ Some b → (t : List ℕ) × (d ≡ string t) × (k t ≡ Some b)
  string_then (string t) k e = (t, refl, e)
  string_then _ k e = cc

  number_then : (d : Data) (k : Num → Option B) → option_and_then k (as_number d) ≡ Some b → (n : Num) × (d ≡ number n) × (k n ≡ Some b)
  number_then (number n) k e = (n, refl, e)
  number_then _ k e = cc

  unsigned_then : (m : Num) (k : ℕ → Option B) → option_and_then k (as_u64 m) ≡ Some b → (n : ℕ) × (m ≡ unsigned n) × (k n ≡ Some b)
  unsigned_then (unsigned n) k e = (n, refl, e)
  unsigned_then _ k e = cc

  end_then : (ms : Members) (k : Unit {0} → Option B) → option_and_then k (end_of ms) ≡ Some b → (ms ≡ no_members) × (k tt ≡ Some b)
  end_then no_members k e = (refl, e)
  end_then (member n d ms) k e = cc

  member_then : (name : List ℕ) (ms : Members) (k : Data × Members → Option B) → option_and_then k (next_member name ms) ≡ Some b
      → (p : Data × Members) × (ms ≡ member name p.0 p.1) × (k p ≡ Some b)
  member_then name no_members k e = cc
  member_then name (member n d ms) k e = by (bytes_eq n name) refl e
    where
      by : (v : Bool) → bytes_eq n name ≡ v → option_and_then k (if v then Some (d, ms) else None) ≡ Some b → (p : Data × Members) × (member n d ms ≡ member name p.0 p.1) × (k p ≡ Some b)
      by true h e = ((d, ms), ap (λ (x : List ℕ). member x d ms) ((bytes_decides n name).0 h), e)
      by false h e = cc

-- the string or the number of a first member
text_is : (name : List ℕ) (ms : Members) (t : List ℕ × Members) → next_text name ms ≡ Some t → ms ≡ member name (string t.0) t.1
text_is name ms t e =
    let (m, is_member, found) = member_then t name ms _ e in
    let (s, is_string, same) = string_then t m.0 _ found in
    subst (λ (p : List ℕ × Members). ms ≡ member name (string p.0) p.1) (some_same _ _ same) (cc (is_member, is_string))

u64_is : (name : List ℕ) (ms : Members) (n : ℕ × Members) → next_u64 name ms ≡ Some n → ms ≡ member name (number (unsigned n.0)) n.1
u64_is name ms n e =
    let (m, is_member, found) = member_then n name ms _ e in
    let (x, is_number, as_u64) = number_then n m.0 _ found in
    let (value, is_unsigned, same) = unsigned_then n x _ as_u64 in
    subst (λ (p : ℕ × Members). ms ≡ member name (number (unsigned p.0)) p.1) (some_same _ _ same) (cc (is_member, is_number, is_unsigned))

module _ {B : Type 0} (b : B) where
  text_then : (name : List ℕ) (ms : Members) (k : List ℕ × Members → Option B) → option_and_then k (next_text name ms) ≡ Some b
      → (t : List ℕ × Members) × ((rest : Members) → t.1 ≡ rest → ms ≡ member name (string t.0) rest) × (k t ≡ Some b)
  text_then name ms k e =
      let (t, found, more) = chained k (next_text name ms) b e in
      (t, λ rest behind. text_is name ms t found ∙ ap (member name (string t.0)) behind, more)

  u64_then : (name : List ℕ) (ms : Members) (k : ℕ × Members → Option B) → option_and_then k (next_u64 name ms) ≡ Some b
      → (n : ℕ × Members) × ((rest : Members) → n.1 ≡ rest → ms ≡ member name (number (unsigned n.0)) rest) × (k n ≡ Some b)
  u64_then name ms k e =
      let (n, found, more) = chained k (next_u64 name ms) b e in
      (n, λ rest behind. u64_is name ms n found ∙ ap (member name (number (unsigned n.0))) behind, more)

-- ---- the bodies

pub registration_is : (d : Data) (first : List ℕ) → registration_text d ≡ Some first → d ≡ registration_json first
unfolding registration_text
registration_is d first e =
    let (ms, is_object, in_object) = object_then first d _ e in
    let (text, is_first, behind) = text_then first (codes "first") ms _ in_object in
    let (is_end, same) = end_then first text.1 _ behind in
    is_object ∙ ap object (is_first _ is_end) ∙ ap registration_json (some_same _ _ same)

pub registration_back : (first : List ℕ) → registration_text (registration_json first) ≡ Some first
unfolding registration_text
registration_back first = refl

pub statement_is : (d : Data) (s : StatementTexts) → statement_fields d ≡ Some s → d ≡ statement_json s
unfolding statement_fields
statement_is d s e =
    let (ms, is_object, in_object) = object_then s d _ e in
    let (date, is_date, behind_date) = text_then s (codes "date") ms _ in_object in
    let (id, is_id, behind_id) = text_then s (codes "id") date.1 _ behind_date in
    let (kind, is_kind, behind_kind) = text_then s (codes "kind") id.1 _ behind_id in
    let (parts, is_parts, behind_parts) = u64_then s (codes "parts") kind.1 _ behind_kind in
    let (revision, is_revision, behind_revision) = u64_then s (codes "revision") parts.1 _ behind_parts in
    let (tld, is_tld, behind_tld) = text_then s (codes "tld") revision.1 _ behind_revision in
    let (is_end, same) = end_then s tld.1 _ behind_tld in
    let members = is_date _ (is_id _ (is_kind _ (is_parts _ (is_revision _ (is_tld _ is_end))))) in
    is_object ∙ ap object members ∙ ap statement_json (some_same _ _ same)

pub statement_back : (s : StatementTexts) → statement_fields (statement_json s) ≡ Some s
unfolding statement_fields
statement_back s = refl

two_is : (first second : List ℕ) (d : Data) (p : List ℕ × List ℕ) → two_texts first second d ≡ Some p
    → d ≡ two_json first p.0 second p.1
unfolding two_texts
two_is first second d p e =
    let (ms, is_object, in_object) = object_then p d _ e in
    let (one, is_one, behind_one) = text_then p first ms _ in_object in
    let (two, is_two, behind_two) = text_then p second one.1 _ behind_one in
    let (is_end, same) = end_then p two.1 _ behind_two in
    is_object ∙ ap object (is_one _ (is_two _ is_end)) ∙ ap (λ (t : List ℕ × List ℕ). two_json first t.0 second t.1) (some_same _ _ same)

pub release_is : (d : Data) (r : ReleaseTexts) → release_fields d ≡ Some r → d ≡ release_json r
release_is d r e =
    let (texts, found, same) = chained _ (two_texts (codes "ground") (codes "tld") d) r e in
    two_is (codes "ground") (codes "tld") d texts found ∙ ap release_json (some_same _ _ same)

pub release_back : (r : ReleaseTexts) → release_fields (release_json r) ≡ Some r
unfolding two_texts
release_back r = refl

pub hold_is : (d : Data) (h : HoldTexts) → hold_fields d ≡ Some h → d ≡ hold_json h
hold_is d h e =
    let (texts, found, same) = chained _ (two_texts (codes "date") (codes "tld") d) h e in
    two_is (codes "date") (codes "tld") d texts found ∙ ap hold_json (some_same _ _ same)

pub hold_back : (h : HoldTexts) → hold_fields (hold_json h) ≡ Some h
unfolding two_texts
hold_back h = refl

-- what is written and read again is as it was: so values are written alike only where they are the same
module _ {A : Type 0} (read : Data → Option A) (write : A → Data) (back : (a : A) → read (write a) ≡ Some a) where
  pub one_read : (d : Data) (a b : A) → Some a ≡ read d → d ≡ write b → a ≡ b
  one_read d a b found is = some_same a b (found ∙ ap read is ∙ back b)

  pub none_read : (d : Data) (a : A) → read d ≡ None → d ≡ write a → ⊥
  none_read d a none is = let again = back a in let same = ap read is in cc

  pub one_written : (a b : A) → write a ≡ write b → a ≡ b
  one_written a b = one_read (write a) a b (sym (back a))
