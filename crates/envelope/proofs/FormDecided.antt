-- The tests of an envelope in form decide the facts.
use Rattle.std.specs.Prelude.{IfSome, nat_le, nat_lt, slice_index}
use Rattle.std.proofs.Common.{◌≡◌, ◌≤◌, ◌<◌, ◌^◌, ◌∷◌, [], ℕ, Bool, List, Option, Some, None, Ordering, Less, Equal, Greater, All, IsTrue, arith, get_or, inl, inr, length, map, refl}
use Rattle.std.specs.Bool.{Decides}
use Rattle.std.specs.Cmp.Lexicographic.{slice_cmp}
use Rattle.std.specs.List.{list_all}
use Rattle.std.specs.List.Sorted.{IsStrictlySortedBy}
use Rattle.std.specs.Ordering.{is_lt, nat_cmp}
use Rattle.std.proofs.lemmas.Bool.{cases_lt, leb-true, le-leb}
use Rattle.std.proofs.lemmas.Bool.Decides.{Decides-and, Decides-by_and, Decides-eqb, Decides-like, Decides-ltb}
use Rattle.std.proofs.lemmas.List.{get_or_default, get_or_past}
use Rattle.std.proofs.lemmas.List.Elements.{All-from_recursion, recursion_from_All}
use Rattle.hex.specs.Hex.{IsBytes}
use Rattle.schedule.specs.Schedule.{last_day}
use Rattle.deposit_name.specs.Identifiers.{IsDepositId}
use Rattle.deposit_name.specs.Tables.{has_deletes}
use Rattle.deposit_name.specs.declared.kinds.Kind.{Kind}
use Rattle.deposit_name.specs.declared.kinds.Kind.TheVariants.{Full, Diff, Incr}
use Rattle.deposit_name.proofs.IdentifierLemmas.{is_tld-IsTld, is_deposit_id-IsDepositId}
use Rattle.envelope.specs.Uri.{is_uri}
use Rattle.envelope.specs.declared.envelope.FileEntry.{FileEntry}
use Rattle.envelope.specs.declared.envelope.Count.{Count}
use Rattle.envelope.specs.Envelope.{AreDeletes, Env, FitsKind, IsCount, IsEnvelope, IsFile, UrisRise, file_length_max}
use Rattle.envelope.specs.Readers.{are_counts, are_deletes, are_files, are_uris, fits_kind, is_count, is_envelope, is_file, is_prev_id, are_rising_texts}

itself : (b : Bool) → Decides b (IsTrue b)
itself b = (λ e. e, λ e. e)

most_decides : (n most : ℕ) → Decides (nat_le n most) (n ≤ most)
most_decides n most = (leb-true n most, le-leb n most)

all_decides : {X : Type 0} (test : X → Bool) (P : X → Type 0) → ((x : X) → Decides (test x) (P x)) → (xs : List X) → Decides (list_all test xs) (All P xs)
all_decides test P each xs = Decides-by_and test P (list_all test) each refl (λ _ _. refl) xs

bytes_decide : (bytes : List ℕ) → Decides (list_all (λ byte. nat_lt byte 256) bytes) (IsBytes bytes)
bytes_decide bytes = Decides-like _ whole (λ h k d inside. at k d inside (h k)) (all_decides (λ byte. nat_lt byte 256) (λ byte. byte < 256) (λ byte. Decides-ltb byte 256) bytes)
  where
    whole : All (λ byte. byte < 256) bytes → IsBytes bytes
    whole all i = elim (cases_lt i (length bytes)) [
      | inl inside ↦ all i 0 inside
      | inr past ↦ rw (get_or_past bytes i 0 past) (omega arith)
    ]

    at : (k d : ℕ) → k < length bytes → slice_index bytes k < 256 → get_or bytes k d < 256
    at k d inside small = rw (get_or_default bytes k d 0 inside) small

file_decides : (f : FileEntry) → Decides (is_file f) (IsFile f)
file_decides f =
    Decides-like _ (λ h. record { small = h.0; digest = h.1.0; bytes = h.1.1 }) (λ h. (h.small, (h.digest, h.bytes)))
    (Decides-and _ _ (most_decides f.length file_length_max) (Decides-and _ _ (Decides-eqb (length f.sha256) 32) (bytes_decide f.sha256)))

files_decide : (most : ℕ) (fs : List FileEntry) → Decides (are_files most fs) ((length fs ≤ most) × All IsFile fs)
files_decide most fs = Decides-and _ _ (most_decides (length fs) most) (all_decides is_file IsFile file_decides fs)

deletes_decide : (ds : List FileEntry) → Decides (are_deletes ds) (AreDeletes ds)
deletes_decide ds =
    Decides-like _ (λ h. record { few = h.0.0; files = h.0.1; named = h.1 }) (λ h. ((h.few, h.files), h.named))
    (Decides-and _ _ (files_decide 4 ds) (all_decides (λ f. has_deletes f.name) (λ f. IsTrue (has_deletes f.name)) (λ f. itself (has_deletes f.name)) ds))

kind_decides : (kind : Kind) (deletes : Option (List FileEntry)) → Decides (fits_kind kind deletes) (FitsKind kind deletes)
kind_decides Full None = (λ _. tt, λ _. refl)
kind_decides Full (Some ds) = (λ e. cc e, λ h. absurd h)
kind_decides Diff None = (λ e. cc e, λ h. absurd h)
kind_decides Diff (Some ds) = deletes_decide ds
kind_decides Incr None = (λ e. cc e, λ h. absurd h)
kind_decides Incr (Some ds) = deletes_decide ds

count_decides : (c : Count) → Decides (is_count c) (IsCount c)
count_decides c =
    Decides-like _ (λ h. record { uri = h.0; count = h.1 }) (λ h. (h.uri, h.count)) (Decides-and _ _ (itself (is_uri c.uri)) (Decides-ltb c.count (2 ^ 32)))

less_decides : (o : Ordering) → Decides (is_lt o) (o ≡ Less)
less_decides Less = (λ _. refl, λ _. refl)
less_decides Equal = (λ e. cc e, λ e. cc e)
less_decides Greater = (λ e. cc e, λ e. cc e)

pub rise_decides : (texts : List (List ℕ)) → Decides (are_rising_texts texts) (IsStrictlySortedBy (slice_cmp nat_cmp) texts)
unfolding IsStrictlySortedBy
rise_decides [] = (λ _. tt, λ _. refl)
rise_decides (text ∷ texts) = Decides-and _ _ (
    Decides-like _ (recursion_from_All _ texts) (All-from_recursion _ texts)
    (all_decides (λ later. is_lt (slice_cmp nat_cmp text later)) (λ later. slice_cmp nat_cmp text later ≡ Less) (λ later. less_decides (slice_cmp nat_cmp text later)) texts)
    ) (rise_decides texts)

counts_decide : (cs : List Count) → Decides (are_counts cs) ((length cs ≤ 16) × (All IsCount cs × UrisRise cs))
counts_decide cs = Decides-and _ _ (most_decides (length cs) 16) (Decides-and _ _ (all_decides is_count IsCount count_decides cs) (rise_decides (map (λ c. c.uri) cs)))

prev_id_decides : (id : Option (List ℕ)) → Decides (is_prev_id id) (IfSome id IsDepositId)
prev_id_decides None = (λ _. tt, λ _. refl)
prev_id_decides (Some id) = is_deposit_id-IsDepositId id

uris_decide : (uris : List (List ℕ)) → Decides (are_uris uris) ((1 ≤ length uris) × ((length uris ≤ 16) × All (λ u. IsTrue (is_uri u)) uris))
uris_decide uris = Decides-and _ _ (most_decides 1 (length uris))
    (Decides-and _ _ (most_decides (length uris) 16) (all_decides is_uri (λ u. IsTrue (is_uri u)) (λ u. itself (is_uri u)) uris))

pub envelope_decides : (v : Env) → Decides (is_envelope v) (IsEnvelope v)
envelope_decides v =
    Decides-like _ (λ h. record {
      contents_few = h.0.0;
      contents = h.0.1;
      deletes = h.1.0;
      count_few = h.1.1.0.0;
      counts = h.1.1.0.1.0;
      count_order = h.1.1.0.1.1;
      tld = h.1.1.1.0;
      id = h.1.1.1.1.0;
      prev_id = h.1.1.1.1.1.0;
      object_uris_some = h.1.1.1.1.1.1.0.0;
      object_uris_few = h.1.1.1.1.1.1.0.1.0;
      object_uris = h.1.1.1.1.1.1.0.1.1;
      resend = h.1.1.1.1.1.1.1.0;
      watermark = h.1.1.1.1.1.1.1.1;
    })
    (λ h. (
      (h.contents_few, h.contents),
      (h.deletes, ((h.count_few, (h.counts, h.count_order)), (h.tld, (h.id, (h.prev_id, ((h.object_uris_some, (h.object_uris_few, h.object_uris)), (h.resend, h.watermark))))))),
    ))
    (Decides-and _ _ (files_decide 8 v.contents) (Decides-and _ _ (kind_decides v.kind v.deletes) (Decides-and _ _ (counts_decide v.count)
    (Decides-and _ _ (is_tld-IsTld v.tld) (Decides-and _ _ (is_deposit_id-IsDepositId v.id) (Decides-and _ _ (prev_id_decides v.prev_id)
    (Decides-and _ _ (uris_decide v.object_uris) (Decides-and _ _ (most_decides v.resend 99) (most_decides v.watermark last_day)))))))))
