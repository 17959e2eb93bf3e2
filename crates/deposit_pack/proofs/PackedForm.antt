-- The envelope of what may be packed is in form.
use Rattle.std.specs.Prelude.{◌^◌}
use Rattle.std.proofs.Common.{◌≡◌, ◌<◌, ◌≤◌, ◌+◌, ◌-◌, ◌++◌, ◌∷◌, [], ℕ, true, zero, suc, All, IsTrue, List, ap, arith, get_or, inl, inr, length, length-append, map, refl, subst}
use Rattle.std.specs.Int.{to_be_bytes, w32}
use Rattle.std.proofs.lemmas.Bool.{and_parts, cases_lt}
use Rattle.std.proofs.lemmas.Bool.Decides.{Decides-ltb}
use Rattle.std.proofs.lemmas.List.{get_or_append_left, get_or-append-add, get_or_past, get_or-map, length-map}
use Rattle.std.proofs.lemmas.List.Elements.{All-append, All-from_recursion, All-head, All-map, All-nil, All-tail}
use Rattle.sha2.specs.Sha256.{digest_bytes, sha256}
use Rattle.sha2.proofs.Facts256.{length-sha256}
use Rattle.deposit_name.specs.Tables.{has_deletes}
use Rattle.deposit_name.specs.declared.kinds.Kind.{Kind}
use Rattle.deposit_name.specs.declared.kinds.Kind.TheVariants.{Full}
use Rattle.deposit_name.specs.declared.table.TableName.{TableName}
use Rattle.deposit_name.specs.declared.table.TableName.TheVariants.{Domain, DomainContacts, DomainStatuses, DomainNameServers, Host, HostAddresses, Contact, Registrar}
use Rattle.envelope.specs.Envelope.{FitsKind, IsCount, IsEnvelope, IsFile, UrisRise, file_length_max}
use Rattle.envelope.specs.declared.envelope.Count.{Count}
use Rattle.envelope.specs.declared.envelope.FileEntry.{FileEntry}
use Rattle.envelope.specs.Uri.{is_uri}
use Rattle.envelope.proofs.FormDecided.{rise_decides}
use Rattle.deposit_verify.specs.Checks.{HasContents, StandInOrder, counted_uris, object_uris}
use Rattle.deposit_verify.specs.Places.{table_place}
use Rattle.deposit_verify.specs.Verdict.{is_increasing}
use Rattle.deposit_verify.specs.declared.base.Base.{Base}
use Rattle.deposit_verify.proofs.HeaderDecided.{order_decides}
use Rattle.deposit_pack.specs.Packable.{IsPackable, MayDelete}
use Rattle.deposit_pack.specs.Packing.{NamedRows, Objects, counts_with, deletes_member, packed_entry, file_of, table_names, numbers_of, packed_env}
use Rattle.deposit_pack.specs.declared.source.Attributes.{Attributes}

-- ---- what holds of all of a list

-- of two lists, one behind the other
pub all_left : {X : Type 0} (P : X → Type 0) (xs ys : List X) → All P (xs ++ ys) → All P xs
all_left P xs ys all = λ k d inside. subst P (get_or_append_left xs ys d k inside) (all k d (omega (arith, inside, length-append xs ys)))

pub all_right : {X : Type 0} (P : X → Type 0) (xs ys : List X) → All P (xs ++ ys) → All P ys
all_right P xs ys all = λ k d inside. subst P (get_or-append-add xs ys k d) (all (length xs + k) d (omega (arith, inside, length-append xs ys)))

-- what holds of all that a list is mapped to
pub all_mapped : {X Y : Type 0} (P : Y → Type 0) (f : X → Y) (xs : List X) → All P (map f xs) → All (λ x. P (f x)) xs
all_mapped P f xs all = λ k d inside. subst P (get_or-map f xs k d (f d) inside) (all k (f d) (omega (arith, inside, length-map xs f)))

-- ---- digests

-- each byte of a digest is a byte
small_digest : (h : List ℕ) (n : ℕ) → All (λ byte. byte < 256) (digest_bytes h n)
unfolding digest_bytes
small_digest h zero = All-nil (λ byte. byte < 256)
small_digest h (suc n) =
    let last : All (λ byte. byte < 256) (to_be_bytes w32 (get_or h n 0)) = All-from_recursion (λ byte. byte < 256) (to_be_bytes w32 (get_or h n 0)) (omega arith, (omega arith, (omega arith, (omega arith, tt)))) in
    All-append (λ byte. byte < 256) (digest_bytes h n) (to_be_bytes w32 (get_or h n 0)) (small_digest h n) last

small_sha256 : (m : List ℕ) → All (λ byte. byte < 256) (sha256 m)
unfolding sha256
small_sha256 m = small_digest _ 8

bytes_of_all : (bytes : List ℕ) → All (λ byte. byte < 256) bytes → (i : ℕ) → get_or bytes i 0 < 256
bytes_of_all bytes all i = elim (cases_lt i (length bytes)) [
  | inl inside ↦ all i 0 inside
  | inr past ↦ rw (get_or_past bytes i 0 past) (omega arith)
]

-- ---- the entries of files

abbrev IsShort : NamedRows → Type 0
IsShort f = length (file_of f) ≤ file_length_max

entry_right : (f : NamedRows) → IsShort f → IsFile (packed_entry f)
entry_right f short = record { small = short; digest = length-sha256 (file_of f); bytes = bytes_of_all _ (small_sha256 (file_of f)) }

entries_right : (fs : List NamedRows) → All IsShort fs → All IsFile (map packed_entry fs)
entries_right fs short = All-map IsFile packed_entry fs (λ k d inside. entry_right (get_or fs k d) (short k d inside))

-- ---- how many tables stand in order: no more than there is room for behind the first

module _ (room : TableName → ℕ) (Fits : TableName → Type 0) (some : (x : TableName) → Fits x → 1 ≤ room x) (lower : (x y : TableName) → Fits x → table_place x < table_place y → room y < room x) where
  few : (x : TableName) (xs : List TableName) → All Fits (x ∷ xs) → is_increasing (map table_place (x ∷ xs)) ≡ true → length (x ∷ xs) ≤ room x
  few x [] fits rises = some x (All-head Fits x [] fits)
  few x (y ∷ ys) fits rises =
      let parts = and_parts _ _ rises in
      let below = lower x y (All-head Fits x (y ∷ ys) fits) ((Decides-ltb (table_place x) (table_place y)).0 parts.0) in
      omega (arith, below, few y ys (All-tail Fits x (y ∷ ys) fits) parts.1)

  few_of : (most : ℕ) → ((x : TableName) → room x ≤ most) → (names : List TableName) → All Fits names → StandInOrder names → length names ≤ most
  few_of most within [] fits order = omega arith
  few_of most within (x ∷ xs) fits order = omega (arith, within x, few x xs fits ((order_decides (x ∷ xs)).1 order))

abbrev Any : TableName → Type 0
Any name = Unit {0}

-- a deposit contains at most all eight tables
contents_few : (kind : Kind) (names : List TableName) → HasContents kind names → length names ≤ 8
contents_few Full names same = omega (arith, ap length same)
contents_few _ names order = few_of (λ name. 8 - table_place name) Any some lower 8 (λ x. omega arith) names (λ k d inside. tt) order
  where
    some : (x : TableName) → Any x → 1 ≤ 8 - table_place x
    some Domain fits = omega arith
    some _ fits = omega arith

    lower : (x y : TableName) → Any x → table_place x < table_place y → 8 - table_place y < 8 - table_place x
    lower x y fits below = omega (arith, below, some x tt, some y tt)

-- the tables from this one on whose keys are deleted
abbrev deletable_from : TableName → ℕ
deletable_from Domain = 4
deletable_from DomainContacts = 3
deletable_from DomainStatuses = 3
deletable_from DomainNameServers = 3
deletable_from Host = 3
deletable_from HostAddresses = 2
deletable_from Contact = 2
deletable_from Registrar = 1

-- and deletes keys of at most four
deletes_few : (names : List TableName) → StandInOrder names → All (λ name. IsTrue (has_deletes name)) names → length names ≤ 4
deletes_few names order fits = few_of deletable_from (λ name. IsTrue (has_deletes name)) some lower 4 most names fits order
  where
    some : (x : TableName) → IsTrue (has_deletes x) → 1 ≤ deletable_from x
    some Domain fits = omega arith
    some _ fits = omega arith

    most : (x : TableName) → deletable_from x ≤ 4
    most Domain = omega arith
    most _ = omega arith

    lower : (x y : TableName) → IsTrue (has_deletes x) → table_place x < table_place y → deletable_from y < deletable_from x
    lower Domain Domain fits below = omega (arith, below)
    lower Domain _ fits below = omega (arith, below)
    lower Host Domain fits below = omega (arith, below)
    lower Host _ fits below = omega (arith, below)
    lower Contact Domain fits below = omega (arith, below)
    lower Contact _ fits below = omega (arith, below)
    lower Registrar Domain fits below = omega (arith, below)
    lower Registrar _ fits below = omega (arith, below)
    lower _ y fits below = cc fits

-- ---- the deleted keys

deletes_fit : (kind : Kind) (ds : List NamedRows) → MayDelete kind (table_names ds) → All IsShort ds → FitsKind kind (deletes_member kind (map packed_entry ds))
deletes_fit Full ds may short = tt
deletes_fit _ ds may short = record {
  few = omega (arith, deletes_few (table_names ds) may.0 may.1, length-map ds (λ (f : NamedRows). f.name), length-map ds packed_entry);
  files = entries_right ds short;
  named = All-map (λ (e : FileEntry). IsTrue (has_deletes e.name)) packed_entry ds (all_mapped (λ name. IsTrue (has_deletes name)) (λ (f : NamedRows). f.name) ds may.1);
}

-- ---- the counts

record AreCounts (cs : List Count) : Type 0 where
  few : length cs ≤ 16
  each : All IsCount cs
  rise : UrisRise cs

counts_right : (numbers : List ℕ) → length numbers ≡ 4 → All (λ n. n < 2 ^ 32) numbers → AreCounts (counts_with counted_uris numbers)
counts_right (p ∷ q ∷ r ∷ s ∷ []) four small = record {
  few = omega arith;
  each =
      All-from_recursion IsCount (counts_with counted_uris (p ∷ q ∷ r ∷ s ∷ []))
      (record { uri = refl; count = small 0 0 (omega arith) }, (record { uri = refl; count = small 1 0 (omega arith) }, (record { uri = refl; count = small 2 0 (omega arith) }, (record { uri = refl; count = small 3 0 (omega arith) }, tt))));
  rise = (rise_decides counted_uris).0 refl;
}
counts_right _ four small = absurd (omega arith)

pub numbers_four : (kind : Kind) (a : Attributes) (o : Objects) (before : Base) → length (numbers_of kind a o before) ≡ 4
numbers_four Full a o before = refl
numbers_four _ a o before = refl

-- ---- the envelope

pub packed_in_form : (a : Attributes) (o : Objects) (before : Base) → IsPackable a o before → IsEnvelope (packed_env a o before)
packed_in_form a o before packable =
    let counts = counts_right (numbers_of a.name.kind a o before) (numbers_four a.name.kind a o before) packable.counts in
    let names = packable.attributes.name in
    record {
      contents_few = omega (arith, contents_few a.name.kind (table_names o.contents) packable.contents, length-map o.contents (λ (f : NamedRows). f.name), length-map o.contents packed_entry);
      contents = entries_right o.contents (all_left IsShort o.contents o.deletes packable.lengths);
      deletes = deletes_fit a.name.kind o.deletes packable.deletes (all_right IsShort o.contents o.deletes packable.lengths);
      count_few = counts.few;
      counts = counts.each;
      count_order = counts.rise;
      tld = names.tld;
      id = packable.attributes.id;
      prev_id = packable.attributes.prev_id;
      object_uris_some = omega arith;
      object_uris_few = omega arith;
      object_uris = All-from_recursion (λ u. IsTrue (is_uri u)) object_uris (refl, (refl, (refl, (refl, (refl, tt)))));
      resend = names.rev;
      watermark = names.day.1;
    }
