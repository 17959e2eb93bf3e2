-- An envelope in form needs no escape, and its JSON value is canonical. So its text is read as its value.
use Rattle.std.proofs.Common.{◌≡◌, ℕ, ◌<◌, ◌≤◌, ◌^◌, true, List, [], ◌∷◌, map, codes, Option, Some, None, option_map, refl, sym, ap, ◌∙◌, subst, arith, IsUtf8}
use Rattle.std.specs.Prelude.{IfSome, All}
use Rattle.std.proofs.lemmas.List.Elements.{All-head, All-tail}
use Rattle.std.proofs.lemmas.Str.{IsUtf8-from_ascii}
use Rattle.deposit_name.specs.Identifiers.{IsTld, IsDepositId}
use Rattle.json.specs.Tree as tree
use Rattle.serde_json.specs.Data.{Data, string}
use Rattle.serde_json.specs.Read.{read}
use Rattle.serde_json.specs.View.{items_of}
use Rattle.serde_json.specs.Written.{outline, items_outline, members_outline, compact_text}
use Rattle.envelope.specs.declared.envelope.FileEntry.{FileEntry}
use Rattle.envelope.specs.declared.envelope.Count.{Count}
use Rattle.envelope.specs.Envelope.{Env, IsFile, IsCount, UrisRise, AreDeletes, IsEnvelope, env_text}
use Rattle.envelope.proofs.Plain.{Plain, IsUri, deletes_in_form, plain_hex, plain_id, plain_kind, plain_table, plain_tld, plain_uri, plain_watermark}
use Rattle.envelope.specs.Readers.{are_rising_texts}
use Rattle.envelope.proofs.FormDecided.{rise_decides}
use Rattle.envelope.proofs.Canonical.{names, Rising, IsCanonical, AreCanonical, HaveCanonical, read_compact, compact_ascii}
use Rattle.envelope.proofs.Values.{members_from, member_if, file_members, file_data, files_data, count_pair, header_members, header_data, menu_members, menu_data, from_menu, from_header, env_members, env_with, env_data, env_compact}

-- ---- canonical values

list_canonical : {X : Type 0} (P : X → Type 0) (value : X → Data) → ((x : X) → P x → IsCanonical (value x)) → (xs : List X) → All P xs → AreCanonical (items_of (map value xs))
list_canonical P value each [] h = tt
list_canonical P value each (x ∷ xs) h = (each x (All-head P x xs h), list_canonical P value each xs (All-tail P x xs h))

file_canonical : (f : FileEntry) → IsFile f → IsCanonical (file_data f)
file_canonical f h =
    let small : f.length < 2 ^ 64 = omega (arith, h.small) in
    ((rise_decides (names (members_from (file_members f)))).0 refl, (refl, small, (refl, plain_table f.name, (refl, plain_hex f.sha256 h.bytes, tt))))

files_canonical : (fs : List FileEntry) → All IsFile fs → IsCanonical (files_data fs)
files_canonical = list_canonical IsFile file_data file_canonical

count_names : (cs : List Count) → names (members_from (map count_pair cs)) ≡ map (λ c. c.uri) cs
count_names [] = refl
count_names (c ∷ cs) = ap (λ ks. c.uri ∷ ks) (count_names cs)

counts_have : (cs : List Count) → All IsCount cs → HaveCanonical (members_from (map count_pair cs))
counts_have [] h = tt
counts_have (c ∷ cs) h =
    let first = All-head IsCount c cs h in
    let small : c.count < 2 ^ 64 = omega (arith, first.count) in
    (plain_uri c.uri first.uri, small, counts_have cs (All-tail IsCount c cs h))

header_canonical : (cs : List Count) (t : List ℕ) → UrisRise cs → All IsCount cs → IsTld t → IsCanonical (header_data cs t)
header_canonical cs t order h ht =
    ((rise_decides (names (members_from (header_members cs t)))).0 refl, (refl, (subst Rising (sym (count_names cs)) order, counts_have cs h), (refl, plain_tld t ht, tt)))

menu_canonical : (us : List (List ℕ)) → All IsUri us → IsCanonical (menu_data us)
menu_canonical us h = ((rise_decides (names (members_from (menu_members us)))).0 refl, (refl, list_canonical IsUri string plain_uri us h, (refl, refl, tt)))

have_if : (name : List ℕ) (o : Option Data) (ms : List (List ℕ × Data)) → Plain name → IfSome o IsCanonical → HaveCanonical (members_from ms) → HaveCanonical (members_from (member_if name o ms))
have_if name None ms plain first rest = rest
have_if name (Some d) ms plain first rest = (plain, first, rest)

deletes_canonical : (o : Option (List FileEntry)) → IfSome o AreDeletes → IfSome (option_map files_data o) IsCanonical
deletes_canonical None h = tt
deletes_canonical (Some ds) h = files_canonical ds h.files

prev_canonical : (o : Option (List ℕ)) → IfSome o IsDepositId → IfSome (option_map string o) IsCanonical
prev_canonical None h = tt
prev_canonical (Some t) h = plain_id t h

env_rises : (deletes prev : Option Data) (v : Env) → are_rising_texts (names (members_from (env_members deletes prev v))) ≡ true
env_rises None None v = refl
env_rises None (Some p) v = refl
env_rises (Some d) None v = refl
env_rises (Some d) (Some p) v = refl

env_canonical : (v : Env) → IsEnvelope v → IsCanonical (env_data v)
unfolding env_with
env_canonical v h =
    let deletes = option_map files_data v.deletes in
    let prev = option_map string v.prev_id in
    let resend : v.resend < 2 ^ 64 = omega (arith, h.resend) in
    let back : HaveCanonical (members_from (from_menu v)) = (refl, menu_canonical v.object_uris h.object_uris, (refl, resend, (refl, plain_kind v.kind, (refl, plain_watermark v.watermark h.watermark, tt)))) in
    let middle : HaveCanonical (members_from (from_header prev v)) = (
      refl,
      header_canonical v.count v.tld h.count_order h.counts h.tld,
      (
        refl,
        plain_id v.id h.id,
        have_if (codes "prevId") prev (from_menu v) refl (prev_canonical v.prev_id h.prev_id) back,
      ),
    ) in (
      (rise_decides _).0 (env_rises deletes prev v),
      (
        refl,
        files_canonical v.contents h.contents,
        have_if (codes "deletes") deletes (from_header prev v) refl (deletes_canonical v.deletes (deletes_in_form v.kind v.deletes h.deletes)) middle,
      ),
    )

-- ---- how deep they nest

files_depth : (fs : List FileEntry) → tree.items_depth (items_outline (items_of (map file_data fs))) ≤ 1
files_depth [] = omega arith
files_depth (f ∷ fs) = omega (arith, files_depth fs)

counts_depth : (cs : List Count) → tree.members_depth (members_outline (members_from (map count_pair cs))) ≤ 0
counts_depth [] = omega arith
counts_depth (c ∷ cs) = omega (arith, counts_depth cs)

uris_depth : (us : List (List ℕ)) → tree.items_depth (items_outline (items_of (map string us))) ≤ 0
uris_depth [] = omega arith
uris_depth (u ∷ us) = omega (arith, uris_depth us)

abbrev Shallow : List (List ℕ × Data) → Type 0
Shallow ms = tree.members_depth (members_outline (members_from ms)) ≤ 2

deletes_shallow : (o : Option (List FileEntry)) (ms : List (List ℕ × Data)) → Shallow ms → Shallow (member_if (codes "deletes") (option_map files_data o) ms)
deletes_shallow None ms h = h
deletes_shallow (Some ds) ms h = omega (arith, h, files_depth ds)

prev_shallow : (o : Option (List ℕ)) (ms : List (List ℕ × Data)) → Shallow ms → Shallow (member_if (codes "prevId") (option_map string o) ms)
prev_shallow None ms h = h
prev_shallow (Some t) ms h = omega (arith, h)

env_depth : (v : Env) → tree.depth (outline (env_data v)) ≤ 127
unfolding env_with
env_depth v =
    let prev = option_map string v.prev_id in
    let back = prev_shallow v.prev_id (from_menu v) (omega (arith, uris_depth v.object_uris)) in
    let middle = deletes_shallow v.deletes (from_header prev v) (omega (arith, counts_depth v.count, back)) in
    omega (arith, files_depth v.contents, middle)

-- ---- the text of an envelope in form

pub env_reads : (v : Env) → IsEnvelope v → read (env_text v) ≡ Some (env_data v)
env_reads v h = ap read (sym (env_compact v h)) ∙ read_compact (env_data v) (env_canonical v h) (env_depth v)

pub env_utf8 : (v : Env) → IsEnvelope v → IsUtf8 (env_text v)
env_utf8 v h = subst IsUtf8 (env_compact v h) (IsUtf8-from_ascii (compact_text (env_data v)) (compact_ascii (env_data v) (env_canonical v h)))
