-- The JSON value of an envelope, whose compact text is the envelope's text.
use Rattle.std.proofs.Common.{◌≡◌, ℕ, true, List, [], ◌∷◌, ◌++◌, map, codes, decimal, Option, Some, None, option_map, drop, refl, sym, ap, ap₂, ◌∙◌, append-nil, append_assoc}
use Rattle.std.specs.Prelude.{IfSome, All}
use Rattle.std.specs.List.{list_all, join_with_byte, flat_map}
use Rattle.std.proofs.lemmas.List.Elements.{All-head, All-tail}
use Rattle.hex.specs.Hex.{encode_lower}
use Rattle.schedule.specs.Text.{day_text}
use Rattle.deposit_name.specs.Tables.{table_name_text}
use Rattle.serde_json.specs.Data.{unsigned, Data, number, string, array, object, Members, no_members, member}
use Rattle.serde_json.specs.View.{items_of}
use Rattle.serde_json.specs.Written.{compact_text, items_text, members_text}
use Rattle.envelope.specs.declared.envelope.FileEntry.{FileEntry}
use Rattle.envelope.specs.declared.envelope.Count.{Count}
use Rattle.deposit_name.specs.Identifiers.{IsTld, IsDepositId}
use Rattle.envelope.specs.Envelope.{Env, IsFile, IsCount, AreDeletes, IsEnvelope, quoted_text, array_text, member_text, object_text, file_text, files_text, count_member, counts_text, header_text, menu_text, type_text, later_member, later_member_if, env_text}
use Rattle.std.proofs.lemmas.Bool.{and_parts, and_from}
use Rattle.envelope.proofs.Plain.{Plain, IsUri, deletes_in_form, escape_plain, is_plain, quoted_plain, plain_hex, plain_id, plain_kind, plain_table, plain_tld, plain_uri, plain_watermark}

-- ---- arrays and objects

abbrev pub members_from : List (List ℕ × Data) → Members
members_from [] = no_members
members_from (m ∷ ms) = member m.0 m.1 (members_from ms)

abbrev pub text_of : List ℕ × Data → List ℕ × List ℕ
text_of m = (m.0, compact_text m.1)

-- what follows the first of several texts
abbrev rest_text : List (List ℕ) → List ℕ
rest_text ts = flat_map (λ t. 44 ∷ t) ts

joined-cons : (t : List ℕ) (ts : List (List ℕ)) → join_with_byte 44 (t ∷ ts) ≡ t ++ rest_text ts
joined-cons t [] = sym (append-nil t)
joined-cons t (u ∷ ts) = ap (λ l. t ++ 44 ∷ l) (joined-cons u ts)

items_rest : (ds : List Data) → items_text true (items_of ds) ≡ rest_text (map compact_text ds) ++ 93 ∷ []
items_rest [] = refl
items_rest (d ∷ ds) = ap (λ l. 44 ∷ (compact_text d ++ l)) (items_rest ds) ∙ sym (append_assoc (44 ∷ compact_text d) (rest_text (map compact_text ds)) (93 ∷ []))

pub array_compact : (ds : List Data) → compact_text (array (items_of ds)) ≡ array_text (map compact_text ds)
array_compact [] = refl
array_compact (d ∷ ds) =
    ap (λ l. 91 ∷ drop 1 l) (items_rest (d ∷ ds)) ∙ ap (λ l. 91 ∷ (l ++ 93 ∷ [])) (sym (joined-cons (compact_text d) (map compact_text ds)))

-- where the items are those of values that have these texts
list_compact : {X : Type 0} (P : X → Type 0) (value : X → Data) (text : X → List ℕ) → ((x : X) → P x → compact_text (value x) ≡ text x) → (xs : List X) → All P xs
    → compact_text (array (items_of (map value xs))) ≡ array_text (map text xs)
list_compact {X} P value text same xs h = array_compact (map value xs) ∙ ap array_text (each xs h)
  where
    each : (ys : List X) → All P ys → map compact_text (map value ys) ≡ map text ys
    each [] h = refl
    each (y ∷ ys) h = ap₂ (λ t ts. t ∷ ts) (same y (All-head P y ys h)) (each ys (All-tail P y ys h))

abbrev pub PlainNames : List (List ℕ × Data) → Type 0
PlainNames ms = list_all (λ m. list_all is_plain m.0) ms ≡ true

abbrev texts : List (List ℕ × Data) → List (List ℕ)
texts ms = map member_text (map text_of ms)

members_rest : (ms : List (List ℕ × Data)) → PlainNames ms → members_text true (members_from ms) ≡ rest_text (texts ms) ++ 125 ∷ []
members_rest [] h = refl
members_rest (m ∷ ms) h =
    let p = and_parts (list_all is_plain m.0) (list_all (λ n. list_all is_plain n.0) ms) h in
    rw (members_rest ms p.1, escape_plain m.0 p.0) (member_before (quoted_text m.0) (compact_text m.1) (rest_text (texts ms)))
  where
    member_before : (k t rest : List ℕ) → 44 ∷ (k ++ 58 ∷ (t ++ (rest ++ 125 ∷ []))) ≡ ((44 ∷ (k ++ 58 ∷ t)) ++ rest) ++ 125 ∷ []
    member_before k t rest = simp append_assoc

object_rest : (m : List ℕ × Data) (ms : List (List ℕ × Data)) → PlainNames (m ∷ ms)
    → compact_text (object (members_from (m ∷ ms))) ≡ 123 ∷ ((member_text (text_of m) ++ rest_text (texts ms)) ++ 125 ∷ [])
object_rest m ms h = ap (λ l. 123 ∷ drop 1 l) (members_rest (m ∷ ms) h)

pub object_compact : (ms : List (List ℕ × Data)) → PlainNames ms → compact_text (object (members_from ms)) ≡ object_text (map text_of ms)
object_compact [] h = refl
object_compact (m ∷ ms) h = object_rest m ms h ∙ ap (λ l. 123 ∷ (l ++ 125 ∷ [])) (sym (joined-cons (member_text (text_of m)) (texts ms)))

-- ---- the parts

abbrev pub file_members : FileEntry → List (List ℕ × Data)
file_members f = (codes "length", number (unsigned f.length)) ∷ (codes "name", string (table_name_text f.name)) ∷ (codes "sha256", string (encode_lower f.sha256)) ∷ []

abbrev pub file_data : FileEntry → Data
file_data f = object (members_from (file_members f))

abbrev pub files_data : List FileEntry → Data
files_data fs = array (items_of (map file_data fs))

abbrev pub count_pair : Count → List ℕ × Data
count_pair c = (c.uri, number (unsigned c.count))

abbrev pub counts_data : List Count → Data
counts_data cs = object (members_from (map count_pair cs))

abbrev pub header_members : List Count → List ℕ → List (List ℕ × Data)
header_members count tld = (codes "count", counts_data count) ∷ (codes "tld", string tld) ∷ []

abbrev pub header_data : List Count → List ℕ → Data
header_data count tld = object (members_from (header_members count tld))

abbrev pub uris_data : List (List ℕ) → Data
uris_data us = array (items_of (map string us))

abbrev pub menu_members : List (List ℕ) → List (List ℕ × Data)
menu_members us = (codes "objURI", uris_data us) ∷ (codes "version", string (codes "1.0")) ∷ []

abbrev pub menu_data : List (List ℕ) → Data
menu_data us = object (members_from (menu_members us))

abbrev pub watermark_data : ℕ → Data
watermark_data day = string (day_text day ++ codes "T00:00:00Z")

-- a member that is there where there is a value
abbrev pub member_if : List ℕ → Option Data → List (List ℕ × Data) → List (List ℕ × Data)
member_if name None ms = ms
member_if name (Some d) ms = (name, d) ∷ ms

-- the members of an envelope from `rdeMenu` on, from `header` on, and all, with these deletes and this id of the deposit before
abbrev pub from_menu : Env → List (List ℕ × Data)
from_menu v =
    (codes "rdeMenu", menu_data v.object_uris) ∷ (codes "resend", number (unsigned v.resend)) ∷ (codes "type", string (type_text v.kind))
    ∷ (codes "watermark", watermark_data v.watermark) ∷ []

abbrev pub from_header : Option Data → Env → List (List ℕ × Data)
from_header prev v = (codes "header", header_data v.count v.tld) ∷ (codes "id", string v.id) ∷ member_if (codes "prevId") prev (from_menu v)

abbrev pub env_members : Option Data → Option Data → Env → List (List ℕ × Data)
env_members deletes prev v = (codes "contents", files_data v.contents) ∷ member_if (codes "deletes") deletes (from_header prev v)

unfoldable pub env_with : Option Data → Option Data → Env → Data
env_with deletes prev v = object (members_from (env_members deletes prev v))

abbrev pub env_data : Env → Data
env_data v = env_with (option_map files_data v.deletes) (option_map string v.prev_id) v

-- ---- their texts

file_compact : (f : FileEntry) → IsFile f → compact_text (file_data f) ≡ file_text f
file_compact f h =
    object_compact (file_members f) refl
    ∙ rw (escape_plain (table_name_text f.name) (plain_table f.name), escape_plain (encode_lower f.sha256) (plain_hex f.sha256 h.bytes)) refl

files_compact : (fs : List FileEntry) → All IsFile fs → compact_text (files_data fs) ≡ files_text fs
files_compact = list_compact IsFile file_data file_text file_compact

count_names : (cs : List Count) → All IsCount cs → PlainNames (map count_pair cs)
count_names [] h = refl
count_names (c ∷ cs) h = and_from _ _ (plain_uri c.uri (All-head IsCount c cs h).uri) (count_names cs (All-tail IsCount c cs h))

each_count : (cs : List Count) → texts (map count_pair cs) ≡ map count_member cs
each_count [] = refl
each_count (c ∷ cs) = ap (λ ts. count_member c ∷ ts) (each_count cs)

counts_compact : (cs : List Count) → All IsCount cs → compact_text (counts_data cs) ≡ counts_text cs
counts_compact cs h = object_compact (map count_pair cs) (count_names cs h) ∙ ap (λ ts. 123 ∷ (join_with_byte 44 ts ++ 125 ∷ [])) (each_count cs)

header_compact : (cs : List Count) (tld : List ℕ) → All IsCount cs → IsTld tld → compact_text (header_data cs tld) ≡ header_text cs tld
header_compact cs tld hc ht =
    object_compact (header_members cs tld) refl
    ∙ λ i. object_text ((codes "count", counts_compact cs hc i) ∷ (codes "tld", quoted_plain tld (plain_tld tld ht) i) ∷ [])

menu_compact : (us : List (List ℕ)) → All IsUri us → compact_text (menu_data us) ≡ menu_text us
menu_compact us h =
    let uris = list_compact IsUri string quoted_text (λ u g. quoted_plain u (plain_uri u g)) us h in
    object_compact (menu_members us) refl ∙ λ i. object_text ((codes "objURI", uris i) ∷ (codes "version", quoted_plain (codes "1.0") refl i) ∷ [])

-- ---- the whole text

plain_if : (name : List ℕ) (o : Option Data) (ms : List (List ℕ × Data)) → Plain name → PlainNames ms → PlainNames (member_if name o ms)
plain_if name None ms first rest = rest
plain_if name (Some d) ms first rest = and_from _ _ first rest

rest_if : (name : List ℕ) (o : Option Data) (ms : List (List ℕ × Data)) → rest_text (texts (member_if name o ms)) ≡ later_member_if name compact_text o ++ rest_text (texts ms)
rest_if name None ms = refl
rest_if name (Some d) ms = refl

deletes_same : (o : Option (List FileEntry)) → IfSome o AreDeletes → later_member_if (codes "deletes") compact_text (option_map files_data o) ≡ later_member_if (codes "deletes") files_text o
deletes_same None h = refl
deletes_same (Some fs) h = ap (later_member (codes "deletes")) (files_compact fs h.files)

prev_same : (o : Option (List ℕ)) → IfSome o IsDepositId → later_member_if (codes "prevId") compact_text (option_map string o) ≡ later_member_if (codes "prevId") quoted_text o
prev_same None h = refl
prev_same (Some t) h = ap (later_member (codes "prevId")) (quoted_plain t (plain_id t h))

-- the texts of the members, joined as the definition joins them
regroup : (a b c d e f g h i : List ℕ) → 123 ∷ ((a ++ (b ++ (c ++ (d ++ (e ++ (f ++ (g ++ (h ++ (i ++ []))))))))) ++ 125 ∷ [])
    ≡ (123 ∷ (a ++ (b ++ (c ++ (d ++ e))))) ++ (f ++ (g ++ (h ++ (i ++ 125 ∷ []))))
regroup a b c d e f g h i = simp append_assoc

-- the envelope's text is the compact text of its value
pub env_compact : (v : Env) → IsEnvelope v → compact_text (env_data v) ≡ env_text v
unfolding env_text env_with
env_compact v h =
    let deletes = option_map files_data v.deletes in
    let prev = option_map string v.prev_id in
    let first = member_text (codes "contents", compact_text (files_data v.contents)) in
    let header = later_member (codes "header") (compact_text (header_data v.count v.tld)) in
    let id = later_member (codes "id") (compact_text (string v.id)) in
    let names = plain_if (codes "deletes") deletes (from_header prev v) refl (plain_if (codes "prevId") prev (from_menu v) refl refl) in
    object_rest (codes "contents", files_data v.contents) (member_if (codes "deletes") deletes (from_header prev v)) names
    ∙ ap (λ l. 123 ∷ ((first ++ l) ++ 125 ∷ [])) (rest_if (codes "deletes") deletes (from_header prev v)
    ∙ ap (λ l. later_member_if (codes "deletes") compact_text deletes ++ (header ++ (id ++ l))) (rest_if (codes "prevId") prev (from_menu v)))
    ∙ (λ i. regroup
    (member_text (codes "contents", files_compact v.contents h.contents i))
    (deletes_same v.deletes (deletes_in_form v.kind v.deletes h.deletes) i)
    (later_member (codes "header") (header_compact v.count v.tld h.counts h.tld i))
    (later_member (codes "id") (quoted_plain v.id (plain_id v.id h.id) i))
    (prev_same v.prev_id h.prev_id i)
    (later_member (codes "rdeMenu") (menu_compact v.object_uris h.object_uris i))
    (later_member (codes "resend") (decimal v.resend))
    (later_member (codes "type") (quoted_plain (type_text v.kind) (plain_kind v.kind) i))
    (later_member (codes "watermark") (quoted_plain (day_text v.watermark ++ codes "T00:00:00Z") (plain_watermark v.watermark h.watermark) i))
    i)
