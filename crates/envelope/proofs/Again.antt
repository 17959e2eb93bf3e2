-- The JSON value of an envelope in form is read as the envelope.
use Rattle.std.proofs.Common.{◌≡◌, ℕ, ◌≤◌, Bool, true, cond, List, [], ◌∷◌, ◌++◌, length, take, get_or, map, codes, Option, Some, None, option_map, option_and_then, refl, ap, subst, ◌∙◌, arith, IsTrue, le-leb}
use Rattle.std.specs.Prelude.{IfSome, All, is_none}
use Rattle.std.specs.List.{list_all}
use Rattle.std.specs.Result.{result_ok}
use Rattle.std.proofs.lemmas.List.Elements.{All-head, All-tail}
use Rattle.std.proofs.lemmas.List.{take_at}
use Rattle.std.proofs.lemmas.Bool.Decides.{Decides-by_and}
use Rattle.std.proofs.lemmas.Option.{option_and_then_some, same_Some}
use Rattle.hex.specs.Hex.{encode_lower}
use Rattle.hex.proofs.HexLemmas.{decode_sized-encode_lower}
use Rattle.schedule.specs.Reading.{day_at}
use Rattle.schedule.specs.Schedule.{IsDay}
use Rattle.schedule.specs.Text.{day_text}
use Rattle.schedule.proofs.ReadingLemmas.{day_at-day_text, length-day_text}
use Rattle.deposit_name.specs.Identifiers.{passing_text, is_tld, IsDepositId, is_deposit_id}
use Rattle.deposit_name.proofs.IdentifierLemmas.{is_tld-IsTld, is_deposit_id-IsDepositId}
use Rattle.deposit_name.proofs.TableLemmas.{table_at-table_text}
use Rattle.deposit_name.specs.Tables.{has_deletes}
use Rattle.deposit_name.specs.declared.kinds.Kind.{Kind}
use Rattle.deposit_name.specs.declared.kinds.Kind.TheVariants.{Full, Diff, Incr}
use Rattle.serde_json.specs.Data.{unsigned, Data, number, string}
use Rattle.serde_json.specs.Find.{get, as_str}
use Rattle.serde_json.specs.View.{items_of}
use Rattle.envelope.specs.Uri.{is_uri}
use Rattle.envelope.specs.declared.envelope.FileEntry.{FileEntry}
use Rattle.envelope.specs.declared.envelope.Count.{Count}
use Rattle.envelope.specs.Envelope.{Env, IsFile, IsCount, AreDeletes, FitsKind, IsEnvelope, file_length_max, type_text}
use Rattle.envelope.specs.JsonReading.{◌>>=◌, number_at, text_at, digest_at, file_at, uri_at, each_at, count_at, counts_of, files_at, uris_at, counts_at, kind_at, deletes_member_at, deletes_at, id_at, prev_id_at, watermark_at, contents_at, type_at, count_in_header, tld_in_header, uris_in_menu, resend_at, env_at}
use Rattle.envelope.specs.Spelling.{first_out_of_form}
use Rattle.envelope.proofs.Values.{members_from, file_data, files_data, count_pair, counts_data, header_data, menu_data, uris_data, watermark_data, env_with, env_data}
use Rattle.envelope.proofs.Plain.{IsUri}

if_true : {A : Type 0} (b : Bool) (x : A) → b ≡ true → cond b (Some x) None ≡ Some x
if_true b x h = ap (λ t. cond t (Some x) None) h

number_again : (limit n : ℕ) → n ≤ limit → number_at limit (number (unsigned n)) ≡ Some n
unfolding number_at
number_again limit n h = if_true _ n (le-leb n limit h)

text_again : (name : List ℕ) (d : Data) (t : List ℕ) → get name d ≡ Some (string t) → text_at name d ≡ Some t
unfolding text_at
text_again name d t e = ap (option_and_then as_str) e

kind_again : (k : Kind) → kind_at (type_text k) ≡ Some k
unfolding kind_at
kind_again Full = refl
kind_again Diff = refl
kind_again Incr = refl

digest_again : (f : FileEntry) → IsFile f → digest_at (encode_lower f.sha256) ≡ Some f.sha256
digest_again f h = ap result_ok (decode_sized-encode_lower f.sha256 32 h.digest h.bytes)

file_again : (f : FileEntry) → IsFile f → file_at (file_data f) ≡ Some f
unfolding file_at text_at
file_again f h = rw (number_again file_length_max f.length h.small, table_at-table_text f.name, digest_again f h) refl

each_again : {X : Type 0} (P : X → Type 0) (f : Data → Option X) (g : X → Data) → ((x : X) → P x → f (g x) ≡ Some x) → (xs : List X) → All P xs → each_at f (items_of (map g xs)) ≡ Some xs
unfolding each_at
each_again P f g again [] h = refl
each_again P f g again (x ∷ xs) h = rw (again x (All-head P x xs h), each_again P f g again xs (All-tail P x xs h)) refl

files_again : (limit : ℕ) (fs : List FileEntry) → length fs ≤ limit → All IsFile fs → files_at limit (files_data fs) ≡ Some fs
unfolding files_at
files_again limit fs small h = rw (each_again IsFile file_at file_data file_again fs h, le-leb (length fs) limit small) refl

uri_again : (u : List ℕ) → IsUri u → uri_at (string u) ≡ Some u
unfolding uri_at
uri_again u h = if_true (is_uri u) u h

uris_again : (us : List (List ℕ)) → 1 ≤ length us → length us ≤ 16 → All IsUri us → uris_at (uris_data us) ≡ Some us
unfolding uris_at
uris_again us some small h = rw (each_again IsUri uri_at string uri_again us h, le-leb 1 (length us) some, le-leb (length us) 16 small) refl

count_again : (c : Count) → IsCount c → count_at c.uri (number (unsigned c.count)) ≡ Some c
unfolding count_at
count_again c h =
    let most : c.count ≤ 4294967295 = omega (arith, h.count) in
    rw (if_true (is_uri c.uri) c.uri h.uri, number_again 4294967295 c.count most) refl

each_count_again : (cs : List Count) → All IsCount cs → counts_of (members_from (map count_pair cs)) ≡ Some cs
unfolding counts_of
each_count_again [] h = refl
each_count_again (c ∷ cs) h = rw (count_again c (All-head IsCount c cs h), each_count_again cs (All-tail IsCount c cs h)) refl

counts_again : (cs : List Count) → length cs ≤ 16 → All IsCount cs → counts_at (counts_data cs) ≡ Some cs
unfolding counts_at
counts_again cs small h = rw (each_count_again cs h, le-leb (length cs) 16 small) refl

-- what stands under each name
abbrev found_in : Data → List (Option Data)
found_in d = map (λ name. get name d) (
    codes "contents" ∷ codes "deletes" ∷ codes "header" ∷ codes "id" ∷ codes "prevId" ∷ codes "rdeMenu" ∷ codes "resend" ∷ codes "type" ∷ codes "watermark" ∷ [])

found : (deletes prev : Option Data) (v : Env) → found_in (env_with deletes prev v)
    ≡ Some (files_data v.contents) ∷ deletes ∷ Some (header_data v.count v.tld) ∷ Some (string v.id) ∷ prev ∷ Some (menu_data v.object_uris)
    ∷ Some (number (unsigned v.resend)) ∷ Some (string (type_text v.kind)) ∷ Some (watermark_data v.watermark) ∷ []
unfolding env_with
found None None v = refl
found None (Some p) v = refl
found (Some d) None v = refl
found (Some d) (Some p) v = refl

all_named : (ds : List FileEntry) → All (λ f. IsTrue (has_deletes f.name)) ds → list_all (λ f. has_deletes f.name) ds ≡ true
all_named ds h = (Decides-by_and (λ f. has_deletes f.name) (λ f. IsTrue (has_deletes f.name)) (list_all (λ f. has_deletes f.name)) (λ f. (λ e. e, λ e. e)) refl (λ _ _. refl) ds).1 h

deleted_again : (ds : List FileEntry) (d : Data) → AreDeletes ds → get (codes "deletes") d ≡ Some (files_data ds) → deletes_member_at d ≡ Some (Some ds)
deleted_again ds d h e = rw (e, files_again 4 ds h.few h.files, all_named ds h.named) refl

deletes_again : (k : Kind) (o : Option (List FileEntry)) (d : Data) → FitsKind k o → get (codes "deletes") d ≡ option_map files_data o → deletes_at k d ≡ Some o
unfolding deletes_at
deletes_again Full None d h e = refl
deletes_again Full (Some ds) d h e = absurd h
deletes_again Diff None d h e = absurd h
deletes_again Diff (Some ds) d h e = deleted_again ds d h e
deletes_again Incr None d h e = absurd h
deletes_again Incr (Some ds) d h e = deleted_again ds d h e

id_again : (name : List ℕ) (d : Data) (t : List ℕ) → get name d ≡ Some (string t) → IsDepositId t → id_at name d ≡ Some t
unfolding id_at
id_again name d t e h = ap (λ o. o >>= λ x. passing_text is_deposit_id x) (text_again name d t e) ∙ if_true (is_deposit_id t) t ((is_deposit_id-IsDepositId t).1 h)

prev_again : (o : Option (List ℕ)) (d : Data) → get (codes "prevId") d ≡ option_map string o → IfSome o IsDepositId → prev_id_at d ≡ Some o
unfolding prev_id_at
prev_again None d e h = ap (λ g. cond (is_none g) (Some None) (option_map Some (id_at (codes "prevId") d))) e
prev_again (Some t) d e h =
    ap (λ g. cond (is_none g) (Some None) (option_map Some (id_at (codes "prevId") d))) e ∙ ap (option_map Some) (id_again (codes "prevId") d t e h)

resend_again : (d : Data) (n : ℕ) → get (codes "resend") d ≡ Some (number (unsigned n)) → n ≤ 99 → resend_at d ≡ Some n
unfolding resend_at
resend_again d n e h = ap (option_and_then (number_at 99)) e ∙ number_again 99 n h

watermark_again : (d : Data) (day : ℕ) → get (codes "watermark") d ≡ Some (watermark_data day) → IsDay day → watermark_at d ≡ Some day
unfolding watermark_at
watermark_again d day e h =
    ap (λ o. o >>= λ t. day_at (take 10 t)) (text_again (codes "watermark") d (day_text day ++ codes "T00:00:00Z") e)
    ∙ ap day_at (take_at (day_text day) (codes "T00:00:00Z") 10 (length-day_text day)) ∙ day_at-day_text day h

-- each member of the value is read as that of the envelope
record IsReadAs (v : Env) (d : Data) : Type 0 where
  contents : contents_at d ≡ Some v.contents
  kind : type_at d ≡ Some v.kind
  deletes : deletes_at v.kind d ≡ Some v.deletes
  count : count_in_header d ≡ Some v.count
  tld : tld_in_header d ≡ Some v.tld
  id : id_at (codes "id") d ≡ Some v.id
  prev_id : prev_id_at d ≡ Some v.prev_id
  object_uris : uris_in_menu d ≡ Some v.object_uris
  resend : resend_at d ≡ Some v.resend
  watermark : watermark_at d ≡ Some v.watermark

members_again : (v : Env) → IsEnvelope v → IsReadAs v (env_data v)
unfolding contents_at type_at count_in_header tld_in_header uris_in_menu text_at
members_again v h =
    let d = env_data v in
    let all = found (option_map files_data v.deletes) (option_map string v.prev_id) v in
    let at = λ (k : ℕ). ap (λ os. get_or os k None) all in
    record {
      contents = rw (at 0) (files_again 8 v.contents h.contents_few h.contents);
      kind = rw (text_again (codes "type") d (type_text v.kind) (at 7)) (kind_again v.kind);
      deletes = deletes_again v.kind v.deletes d h.deletes (at 1);
      count = rw (at 2) (counts_again v.count h.count_few h.counts);
      tld = rw (at 2) (if_true (is_tld v.tld) v.tld ((is_tld-IsTld v.tld).1 h.tld));
      id = id_again (codes "id") d v.id (at 3) h.id;
      prev_id = prev_again v.prev_id d (at 4) h.prev_id;
      object_uris = rw (at 5) (uris_again v.object_uris h.object_uris_some h.object_uris_few h.object_uris);
      resend = resend_again d v.resend (at 6) h.resend;
      watermark = watermark_again d v.watermark (at 8) h.watermark;
    }

pub env_again : (v : Env) → IsEnvelope v → env_at (env_data v) ≡ Some v
unfolding env_at
env_again v h =
    let r = members_again v h in
    rw (r.contents, r.kind, r.deletes, r.count, r.tld, r.id, r.prev_id, r.object_uris, r.resend, r.watermark) refl

in_form : (v : Env) (d : Data) → IsReadAs v d → first_out_of_form d ≡ None
in_form v d r = rw (r.contents, r.kind, r.deletes, r.count, r.tld, r.id, r.prev_id, r.object_uris, r.resend, r.watermark) refl

pub in_form_again : (v : Env) → IsEnvelope v → first_out_of_form (env_data v) ≡ None
in_form_again v h = in_form v (env_data v) (members_again v h)

read_as : (v : Env) (d : Data) → env_at d ≡ Some v → IsReadAs v d
unfolding env_at
read_as v d e =
    option_and_then_some _ (contents_at d) v e (λ contents contents_is e1.
    option_and_then_some _ (type_at d) v e1 (λ kind kind_is e2.
    option_and_then_some _ (deletes_at kind d) v e2 (λ deletes deletes_is e3.
    option_and_then_some _ (count_in_header d) v e3 (λ count count_is e4.
    option_and_then_some _ (tld_in_header d) v e4 (λ tld tld_is e5.
    option_and_then_some _ (id_at (codes "id") d) v e5 (λ id id_is e6.
    option_and_then_some _ (prev_id_at d) v e6 (λ prev_id prev_id_is e7.
    option_and_then_some _ (uris_in_menu d) v e7 (λ object_uris object_uris_is e8.
    option_and_then_some _ (resend_at d) v e8 (λ resend resend_is e9.
    option_and_then_some _ (watermark_at d) v e9 (λ watermark watermark_is e10.
    subst (λ w. IsReadAs w d) (same_Some _ v e10) (record {
      contents = contents_is;
      kind = kind_is;
      deletes = deletes_is;
      count = count_is;
      tld = tld_is;
      id = id_is;
      prev_id = prev_id_is;
      object_uris = object_uris_is;
      resend = resend_is;
      watermark = watermark_is;
    })))))))))))

-- of what an envelope is read from, each member is in form
pub in_form_if_read : (v : Env) (d : Data) → env_at d ≡ Some v → first_out_of_form d ≡ None
in_form_if_read v d e = in_form v d (read_as v d e)
