-- The row that is written for a record is read back as that record.
use Rattle.std.proofs.Common.{◌≡◌, ℕ, suc, pos, ◌+◌, ◌<◌, List, [], ◌∷◌, ◌++◌, ◌==◌, length, get_or, true, ◌&&◌, cond, Option, Some, None, refl, ◌∙◌, ap, arith, take}
use Rattle.std.specs.Prelude.{option_map, All}
use Rattle.std.specs.Str.{bytes_eq}
use Rattle.std.specs.Option.{option_and_then}
use Rattle.std.specs.Int.{w32, to_be_bytes}
use Rattle.std.proofs.lemmas.List.{take_more}
use Rattle.std.proofs.lemmas.Nat.{from_be_bytes-to_be_bytes_4}
use Rattle.deposit_name.specs.declared.kinds.Kind.{Kind}
use Rattle.deposit_name.specs.Identifiers.{IsTld}
use Rattle.deposit_name.proofs.IdentifierLemmas.{is_tld-IsTld, is_deposit_id-IsDepositId, is_reference-IsReference}
use Rattle.desk.specs.declared.checks.Check.{Check}
use Rattle.desk.specs.declared.grounds.Ground.{Ground}
use Rattle.desk.specs.declared.notices.NoticeKind.{NoticeKind}
use Rattle.desk.specs.declared.notices.NoticeKind.TheVariants.{Receipt, Failure, Absence}
use Rattle.schedule.specs.Schedule.{IsDay, day_of, year_after}
use Rattle.extent_map.specs.declared.extent.Extent.{Extent}
use Rattle.custody_records.specs.Keys.{PartKey, NoticeKey}
use Rattle.custody_records.specs.Records.{PartRecord, Notice, Release, Hold}
use Rattle.custody_records.specs.Rows.{greatest_integer}
use Rattle.custody_records.specs.Form.{is_number, blob_extents, extents_in, registry_in, is_part, part_in, notice_kind_in, notice_in, release_in, natural, is_lifting, hold_in}
use Rattle.custody_records.specs.RowsOfRecords.{row_of_registry, blob_of, HasWords, AreWritable, row_of_part, IsPart, row_of_notice, IsNoticeKind, IsNotice, row_of_release, IsRelease, row_of_hold, IsLifting, IsHold}
use Rattle.custody_records.proofs.FieldLemmas.{within_passes, number_passes, day_passes, deposit_day_passes, moment_passes, kind_in-kind_text, ground_in-ground_text, check_in-check_number, check_apart}
use Rattle.custody_records.proofs.LineLemmas.{lines_in-text_of}

-- ---- registries

pub registry_read_back : (tld : List ℕ) (first_day : ℕ) → IsTld tld → IsDay first_day → registry_in (row_of_registry tld first_day) ≡ Some (tld, first_day)
registry_read_back tld first_day text day = λ i. cond ((is_tld-IsTld tld).1 text i && day_passes first_day day i) (Some (tld, first_day)) None

-- ---- parts

pub extents_of-blob_of : (extents : List Extent) → All HasWords extents → blob_extents (blob_of extents) ≡ Some extents
extents_of-blob_of [] all = refl
extents_of-blob_of (e ∷ extents) all =
    let here : HasWords e = all 0 e (omega arith) in
    λ i. option_map (λ (rest : List Extent). record { start = from_be_bytes-to_be_bytes_4 e.start here.0 i; count = from_be_bytes-to_be_bytes_4 e.count here.1 i } ∷ rest) (extents_of-blob_of extents (λ k d lt. all (suc k) d (omega arith)) i)

-- one extent more
pub blob_of_more : (extents : List Extent) (i : ℕ) (d : Extent) → i < length extents → blob_of (take (i + 1) extents) ≡ (blob_of (take i extents) ++ to_be_bytes w32 (get_or extents i d).start) ++ to_be_bytes w32 (get_or extents i d).count
blob_of_more extents i d lt = ap blob_of (take_more extents i d lt) ∙ last (take i extents) (get_or extents i d)
  where
    last : (xs : List Extent) (e : Extent) → blob_of (xs ++ e ∷ []) ≡ (blob_of xs ++ to_be_bytes w32 e.start) ++ to_be_bytes w32 e.count
    last [] e = refl
    last (x ∷ xs) e = ap (λ (l : List ℕ). to_be_bytes w32 x.start ++ to_be_bytes w32 x.count ++ l) (last xs e)

extents_read_back : (extents : Option (List Extent)) → AreWritable extents → extents_in (option_map blob_of extents) ≡ Some extents
extents_read_back None h = refl
extents_read_back (Some []) h = absurd h
extents_read_back (Some (e ∷ extents)) h = ap (option_map Some) (extents_of-blob_of (e ∷ extents) h)

pub part_read_back : (key : PartKey) (part : PartRecord) → IsPart key part → part_in (row_of_part key part) ≡ Some (key, part)
part_read_back key part h =
    let passes : is_part (row_of_part key part) ≡ true = λ i.
    (is_tld-IsTld key.tld).1 h.tld i && (deposit_day_passes key.day h.day i && (within_passes 0 99 key.rev (omega arith) h.rev i && (within_passes 1 8 key.part h.place.0 h.place.1 i && (moment_passes part.received h.received i
    && (number_passes (year_after (day_of part.received)) i && (within_passes 1 1_048_576 part.len h.len.0 h.len.1 i && is_32 (length part.digest) h.digest i)))))) in
    λ i. cond (passes i) (option_and_then (λ (kind : Kind). option_map (λ (extents : Option (List Extent)). (key, record { kind = kind; received = part.received; len = part.len; digest = part.digest; extents = extents })) (extents_read_back part.extents h.extents i)) (kind_in-kind_text part.kind i)) None
  where
    is_32 : (n : ℕ) → n ≡ 32 → (n == 32) ≡ true
    is_32 n e = ap (λ (m : ℕ). m == 32) e

-- ---- notices

kind_read_back : (tld : List ℕ) (number day at : ℕ) (kind : NoticeKind) → IsNoticeKind kind → notice_kind_in (row_of_notice (record { tld = tld; number = number }) (record { day = day; at = at; kind = kind })) ≡ Some kind
kind_read_back tld number day at (Receipt rev id) h = λ i. cond (within_passes 0 99 rev (omega arith) h.0 i && (is_deposit_id-IsDepositId id).1 h.1 i) (Some (Receipt rev id)) None
kind_read_back tld number day at (Failure rev id check) h =
    let apart = check_apart check in
    λ i. cond (apart.0 i) (cond (is_number 0 (pos rev) && bytes_eq id []) (Some Absence) None)
    (cond (within_passes 0 99 rev (omega arith) h.0 i && (is_deposit_id-IsDepositId id).1 h.1 i) (cond (apart.1 i) (Some (Receipt rev id)) (option_map (λ (c : Check). Failure rev id c) (check_in-check_number check i))) None)
kind_read_back tld number day at Absence h = refl

pub notice_read_back : (key : NoticeKey) (notice : Notice) → IsNotice key notice → notice_in (row_of_notice key notice) ≡ Some (key, notice)
notice_read_back key notice h =
    λ i. cond ((is_tld-IsTld key.tld).1 h.tld i && (within_passes 1 greatest_integer key.number h.number.0 h.number.1 i && (day_passes notice.day h.day i && moment_passes notice.at h.at i)))
    (option_map (λ (kind : NoticeKind). (key, record { day = notice.day; at = notice.at; kind = kind })) (kind_read_back key.tld key.number notice.day notice.at notice.kind h.kind i)) None

-- ---- releases

pub release_read_back : (reference : List ℕ) (release : Release) → IsRelease reference release → release_in (row_of_release reference release) ≡ Some (reference, release)
release_read_back reference release h =
    λ i. cond ((is_reference-IsReference reference).1 h.named i && ((is_tld-IsTld release.tld).1 h.tld i && moment_passes release.at h.at i))
    (option_and_then (λ (reason : Ground). option_map (λ (names : List (List ℕ)). (reference, record { tld = release.tld; reason = reason; at = release.at; names = names })) (lines_in-text_of release.names h.names i)) (ground_in-ground_text release.reason i)) None

-- ---- holds

lifting_passes : (lifted : Option ℕ) → IsLifting lifted → is_lifting (option_map pos lifted) ≡ true
lifting_passes lifted h = grind (arith, moment_passes)

lifting_back : (lifted : Option ℕ) → option_map natural (option_map pos lifted) ≡ lifted
lifting_back lifted = grind arith

pub hold_read_back : (reference : List ℕ) (hold : Hold) → IsHold reference hold → hold_in (row_of_hold reference hold) ≡ Some (reference, hold)
hold_read_back reference hold h =
    λ i. cond ((is_reference-IsReference reference).1 h.named i && ((is_tld-IsTld hold.tld).1 h.tld i && (day_passes hold.day h.day i && (moment_passes hold.at h.at i && lifting_passes hold.lifted h.lifted i))))
    (Some (reference, record { tld = hold.tld; day = hold.day; at = hold.at; lifted = lifting_back hold.lifted i })) None
