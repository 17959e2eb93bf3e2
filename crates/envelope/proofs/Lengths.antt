-- How long the text of an envelope in form may be.
use Rattle.std.proofs.Common.{◌≡◌, ℕ, ◌+◌, ◌*◌, ◌≤◌, ◌<◌, ◌&&◌, nat_le, List, [], ◌∷◌, ◌++◌, length, map, codes, decimal, Option, Some, None, arith, length-append}
use Rattle.std.specs.Prelude.{IfSome, All}
use Rattle.std.specs.List.{join_with_byte, list_all}
use Rattle.std.proofs.lemmas.Bool.{and_parts, leb-true}
use Rattle.std.proofs.lemmas.Fmt.{length-decimal-le}
use Rattle.std.proofs.lemmas.List.Elements.{All-head, All-tail}
use Rattle.hex.specs.Hex.{encode_lower, lower_digits}
use Rattle.hex.proofs.HexLemmas.{length-encode_with}
use Rattle.schedule.specs.Text.{day_text}
use Rattle.schedule.proofs.ReadingLemmas.{length-day_text}
use Rattle.deposit_name.specs.Identifiers.{IsDepositId}
use Rattle.deposit_name.specs.Tables.{table_name_text}
use Rattle.deposit_name.specs.declared.table.TableName.{TableName}
use Rattle.deposit_name.specs.declared.table.TableName.TheVariants.{Domain, DomainContacts, DomainStatuses, DomainNameServers, Host, HostAddresses, Contact, Registrar}
use Rattle.deposit_name.specs.declared.kinds.Kind.{Kind}
use Rattle.envelope.proofs.Plain.{IsUri, deletes_in_form}
use Rattle.deposit_name.specs.declared.kinds.Kind.TheVariants.{Full, Diff, Incr}
use Rattle.envelope.specs.Uri.{is_uri_byte}
use Rattle.envelope.specs.declared.envelope.FileEntry.{FileEntry}
use Rattle.envelope.specs.declared.envelope.Count.{Count}
use Rattle.envelope.specs.Envelope.{Env, IsFile, IsCount, AreDeletes, IsEnvelope, quoted_text, member_text, object_text, array_text, file_text, count_member, counts_text, files_text, header_text, menu_text, type_text, later_member, later_member_if, env_text, text_max}

-- ---- the parts of a text

length-quoted : (s : List ℕ) → length (quoted_text s) ≡ length s + 2
length-quoted s = omega (arith, length-append s (34 ∷ []))

length-member : (m : List ℕ × List ℕ) → length (member_text m) ≡ length m.0 + length m.1 + 3
length-member m = omega (arith, length-append (quoted_text m.0) (58 ∷ m.1), length-quoted m.0)

length-later : (name text : List ℕ) → length (later_member name text) ≡ length name + length text + 4
length-later name text = omega (arith, length-member (name, text))

-- the bytes of some members with their commas
abbrev total : List (List ℕ × List ℕ) → ℕ
total [] = 0
total (m ∷ ms) = length m.0 + length m.1 + 4 + total ms

members_most : (ms : List (List ℕ × List ℕ)) → length (join_with_byte 44 (map member_text ms)) ≤ total ms
members_most [] = omega arith
members_most (m ∷ []) = omega (arith, length-member m)
members_most (m ∷ n ∷ ms) = omega (arith, length-member m, length-append (member_text m) (44 ∷ join_with_byte 44 (map member_text (n ∷ ms))), members_most (n ∷ ms))

object_most : (ms : List (List ℕ × List ℕ)) → length (object_text ms) ≤ 2 + total ms
object_most ms = omega (arith, length-append (join_with_byte 44 (map member_text ms)) (125 ∷ []), members_most ms)

-- items of less than 128 bytes with their commas
items_most : {X : Type 0} (P : X → Type 0) (text : X → List ℕ) → ((x : X) → P x → length (text x) < 128) → (xs : List X) → All P xs → length (join_with_byte 44 (map text xs)) ≤ 128 * length xs
items_most P text short [] h = omega arith
items_most P text short (x ∷ []) h = omega (arith, short x (All-head P x [] h))
items_most P text short (x ∷ y ∷ xs) h =
    omega (arith, short x (All-head P x (y ∷ xs) h), length-append (text x) (44 ∷ join_with_byte 44 (map text (y ∷ xs))), items_most P text short (y ∷ xs) (All-tail P x (y ∷ xs) h))

-- a list between two brackets
list_most : {X : Type 0} (P : X → Type 0) (text : X → List ℕ) → ((x : X) → P x → length (text x) < 128) → (xs : List X) → All P xs
    → length (join_with_byte 44 (map text xs) ++ 93 ∷ []) ≤ 1 + 128 * length xs
list_most P text short xs h = omega (arith, length-append (join_with_byte 44 (map text xs)) (93 ∷ []), items_most P text short xs h)

-- ---- the parts of an envelope

table_most : (t : TableName) → length (table_name_text t) ≤ 17
table_most Domain = omega arith
table_most DomainContacts = omega arith
table_most DomainStatuses = omega arith
table_most DomainNameServers = omega arith
table_most Host = omega arith
table_most HostAddresses = omega arith
table_most Contact = omega arith
table_most Registrar = omega arith

uri_most : (u : List ℕ) → IsUri u → length u ≤ 64
uri_most u h = leb-true (length u) 64 (and_parts (nat_le 1 (length u)) (nat_le (length u) 64) (and_parts (nat_le 1 (length u) && nat_le (length u) 64) (list_all is_uri_byte u) h).0).1

file_most : (f : FileEntry) → IsFile f → length (file_text f) < 128
file_most f h =
    let n = length-decimal-le 7 f.length (omega arith) (omega (arith, h.small)) (omega (arith, h.small)) in
    let members : List (List ℕ × List ℕ) = (codes "length", decimal f.length) ∷ (codes "name", quoted_text (table_name_text f.name)) ∷ (codes "sha256", quoted_text (encode_lower f.sha256)) ∷ [] in
    omega (arith, object_most members, n, length-quoted (table_name_text f.name), table_most f.name, length-quoted (encode_lower f.sha256), length-encode_with lower_digits f.sha256, h.digest)

files_most : (fs : List FileEntry) → All IsFile fs → length (files_text fs) ≤ 2 + 128 * length fs
files_most fs h = omega (arith, list_most IsFile file_text file_most fs h)

count_most : (c : Count) → IsCount c → length (count_member c) < 128
count_most c h =
    let n = length-decimal-le 10 c.count (omega arith) (omega (arith, h.count)) (omega (arith, h.count)) in
    omega (arith, length-member (c.uri, decimal c.count), uri_most c.uri h.uri, n)

counts_most : (cs : List Count) → All IsCount cs → length (counts_text cs) ≤ 2 + 128 * length cs
counts_most cs h = omega (arith, length-append (join_with_byte 44 (map count_member cs)) (125 ∷ []), items_most IsCount count_member count_most cs h)

uris_most : (us : List (List ℕ)) → All IsUri us → length (array_text (map quoted_text us)) ≤ 2 + 128 * length us
uris_most us h = omega (arith, list_most IsUri quoted_text (λ u g. omega (arith, length-quoted u, uri_most u g)) us h)

header_most : (cs : List Count) (tld : List ℕ) → All IsCount cs → length (header_text cs tld) ≤ 22 + 128 * length cs + length tld
header_most cs tld h = omega (arith, object_most ((codes "count", counts_text cs) ∷ (codes "tld", quoted_text tld) ∷ []), counts_most cs h, length-quoted tld)

menu_most : (us : List (List ℕ)) → All IsUri us → length (menu_text us) ≤ 32 + 128 * length us
menu_most us h = omega (arith, object_most ((codes "objURI", array_text (map quoted_text us)) ∷ (codes "version", quoted_text (codes "1.0")) ∷ []), uris_most us h)

deletes_most : (o : Option (List FileEntry)) → IfSome o AreDeletes → length (later_member_if (codes "deletes") files_text o) ≤ 600
deletes_most None h = omega arith
deletes_most (Some ds) h = omega (arith, length-later (codes "deletes") (files_text ds), files_most ds h.files, h.few)

prev_most : (o : Option (List ℕ)) → IfSome o IsDepositId → length (later_member_if (codes "prevId") quoted_text o) ≤ 30
prev_most None h = omega arith
prev_most (Some i) h = omega (arith, length-later (codes "prevId") (quoted_text i), length-quoted i, h.length_in.1)

kind_most : (k : Kind) → length (type_text k) ≤ 4
kind_most Full = omega arith
kind_most Diff = omega arith
kind_most Incr = omega arith

-- ---- the whole text

length-five : (a b c d e : List ℕ) → length (a ++ (b ++ (c ++ (d ++ e)))) ≡ length a + length b + length c + length d + length e
length-five a b c d e = omega (arith, length-append a (b ++ (c ++ (d ++ e))), length-append b (c ++ (d ++ e)), length-append c (d ++ e), length-append d e)

-- no envelope in form has a longer text
pub env_most : (v : Env) → IsEnvelope v → length (env_text v) ≤ text_max
unfolding env_text
env_most v h =
    let contents = member_text (codes "contents", files_text v.contents) in
    let deletes = later_member_if (codes "deletes") files_text v.deletes in
    let header = later_member (codes "header") (header_text v.count v.tld) in
    let id = later_member (codes "id") (quoted_text v.id) in
    let prev = later_member_if (codes "prevId") quoted_text v.prev_id in
    let menu = later_member (codes "rdeMenu") (menu_text v.object_uris) in
    let resend = later_member (codes "resend") (decimal v.resend) in
    let kind = later_member (codes "type") (quoted_text (type_text v.kind)) in
    let moment = day_text v.watermark ++ codes "T00:00:00Z" in
    let watermark = later_member (codes "watermark") (quoted_text moment) in
    let front : length (contents ++ (deletes ++ (header ++ (id ++ prev)))) ≤ 5000 = omega (
      arith,
      length-five contents deletes header id prev,
      length-member (codes "contents", files_text v.contents),
      files_most v.contents h.contents,
      h.contents_few,
      deletes_most v.deletes (deletes_in_form v.kind v.deletes h.deletes),
      length-later (codes "header") (header_text v.count v.tld),
      header_most v.count v.tld h.counts,
      h.count_few,
      h.tld.length_in.1,
      length-later (codes "id") (quoted_text v.id),
      length-quoted v.id,
      h.id.length_in.1,
      prev_most v.prev_id h.prev_id,
    ) in
    let n = length-decimal-le 2 v.resend (omega arith) (omega (arith, h.resend)) (omega (arith, h.resend)) in
    let back : length (menu ++ (resend ++ (kind ++ (watermark ++ 125 ∷ [])))) ≤ 3000 = omega (
      arith,
      length-five menu resend kind watermark (125 ∷ []),
      length-later (codes "rdeMenu") (menu_text v.object_uris),
      menu_most v.object_uris h.object_uris,
      h.object_uris_few,
      length-later (codes "resend") (decimal v.resend),
      n,
      length-later (codes "type") (quoted_text (type_text v.kind)),
      length-quoted (type_text v.kind),
      kind_most v.kind,
      length-later (codes "watermark") (quoted_text moment),
      length-quoted moment,
      length-append (day_text v.watermark) (codes "T00:00:00Z"),
      length-day_text v.watermark,
    ) in
    omega (arith, length-append (123 ∷ (contents ++ (deletes ++ (header ++ (id ++ prev))))) (menu ++ (resend ++ (kind ++ (watermark ++ 125 ∷ [])))), front, back)
