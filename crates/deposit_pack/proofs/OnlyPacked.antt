-- Of attributes and objects no deposit passes but the one that is packed, and then they may be packed.
use Rattle.std.specs.Prelude.{IfSome, IsSome, unwrap_or}
use Rattle.std.proofs.Common.{◌≡◌, ◌≢◌, ◌↔◌, ◌<◌, ◌≤◌, ◌^◌, ◌++◌, ◌∙◌, [], ℕ, All, IsTrue, List, Option, Some, None, ap, arith, length, map, refl, subst, sym}
use Rattle.std.specs.Set.{distinct_count}
use Rattle.std.specs.Str.{bytes_eq}
use Rattle.std.proofs.lemmas.List.{get_or-map, length-map, map-append}
use Rattle.std.proofs.lemmas.List.Elements.{All-append, All-map}
use Rattle.schedule.specs.Schedule.{is_sunday}
use Rattle.deposit_name.specs.Tables.{has_deletes}
use Rattle.deposit_name.specs.declared.kinds.Kind.{Kind}
use Rattle.deposit_name.specs.declared.kinds.Kind.TheVariants.{Full, Diff, Incr}
use Rattle.deposit_name.specs.declared.table.TableName.{TableName}
use Rattle.desk.specs.declared.checks.Check.{Check}
use Rattle.desk.specs.declared.checks.Check.TheVariants as check
use Rattle.dnrd_csv.specs.Readers.{IsTableReader}
use Rattle.envelope.specs.Envelope.{Env, FitsKind, IsFile, env_text, file_length_max}
use Rattle.envelope.specs.Frame.{frame}
use Rattle.envelope.specs.declared.envelope.Count.{Count}
use Rattle.envelope.specs.declared.envelope.FileEntry.{FileEntry}
use Rattle.deposit_verify.specs.Checks.{AreKeyCounts, AreRowCounts, CheckSays, FollowsPassed, HasContents, HasTables, PassesCheck, StandInOrder, counted_tables, counted_uris}
use Rattle.deposit_verify.specs.Deposit.{AreFiles, AreTables, HasDeletes, all_entries, contents_files, deletes_files, deletes_of}
use Rattle.deposit_verify.specs.Keys.{keys_in}
use Rattle.deposit_verify.specs.Known.{Known}
use Rattle.deposit_verify.specs.Places.{all_tables}
use Rattle.deposit_verify.specs.References.{AreReferencesKept}
use Rattle.deposit_verify.specs.Rows.{rows_under}
use Rattle.deposit_verify.specs.Verdict.{deleted_keys_at, key_numbers, keys_after_files, keys_after_rows, tables_at, verdict}
use Rattle.deposit_verify.specs.declared.base.Base.{Base}
use Rattle.deposit_verify.specs.declared.verdict.Verdict.TheVariants.{Pass}
use Rattle.deposit_verify.specs.inside.Reading.{OneReading}
use Rattle.deposit_verify.proofs.CountsDecided.{key_counts_decide}
use Rattle.deposit_verify.proofs.Lifted.{holds_says}
use Rattle.deposit_verify.proofs.Uniques.{same_files}
use Rattle.deposit_pack.specs.Packable.{AreAttributes, AreTableRows, IsDepositOf, IsPackable, MayDelete, MayFollow}
use Rattle.deposit_pack.specs.Packing.{NamedRows, Objects, contents_rows, counts_with, deletes_member, packed_entry, env_counting, file_of, table_names, numbers_of, packed, packed_env, rows_of}
use Rattle.deposit_pack.specs.declared.source.Attributes.{Attributes}
use Rattle.deposit_pack.proofs.OnlyPackedFiles.{contents_entries, contents_texts, deletes_entries, deletes_texts, keys_right, rest_spelled, tables_right}
use Rattle.deposit_pack.proofs.OnlyPackedNumbers.{counts_from_test, counts_parted, keys_read, same_tables, tables_read}

-- ---- by kind

-- what follows what it has to names one before it, or none, as its kind may
may_follow : (kind : Kind) (prev_id : Option (List ℕ)) (known : Known) → FollowsPassed kind prev_id known → MayFollow kind prev_id
may_follow Full prev_id known follows = follows
may_follow Diff prev_id known follows = subst IsSome (sym follows.1) refl
may_follow Incr prev_id known follows = tt

-- the names of entries
abbrev names_in : List FileEntry → List TableName
names_in entries = map (λ f. f.name) entries

-- the deletes of an envelope in form
may_delete : (kind : Kind) (deletes : Option (List FileEntry)) (names : List TableName) → FitsKind kind deletes → StandInOrder (names_in (unwrap_or deletes [])) → names_in (unwrap_or deletes []) ≡ names → MayDelete kind names
may_delete Full None names fits order same = sym same
may_delete Full (Some ds) names fits order same = absurd fits
may_delete _ None names fits order same = absurd fits
may_delete _ (Some ds) names fits order same = (subst StandInOrder same order, subst (All (λ name. IsTrue (has_deletes name))) same (All-map (λ name. IsTrue (has_deletes name)) (λ (f : FileEntry). f.name) ds fits.named))

-- the same, as they are packed
member_is : (kind : Kind) (deletes : Option (List FileEntry)) (entries : List FileEntry) → FitsKind kind deletes → unwrap_or deletes [] ≡ entries → deletes ≡ deletes_member kind entries
member_is Full None entries fits same = refl
member_is Full (Some ds) entries fits same = absurd fits
member_is _ None entries fits same = absurd fits
member_is _ (Some ds) entries fits same = ap Some same

-- and each is in form
deletes_short : (kind : Kind) (deletes : Option (List FileEntry)) → FitsKind kind deletes → All IsFile (unwrap_or deletes [])
deletes_short Full None fits = λ k d inside. absurd (omega (arith, inside))
deletes_short Full (Some ds) fits = absurd fits
deletes_short _ None fits = absurd fits
deletes_short _ (Some ds) fits = fits.files

-- files whose entries are in form
files_short : (fs : List NamedRows) → All IsFile (map packed_entry fs) → All (λ f. length (file_of f) ≤ file_length_max) fs
files_short fs all = λ k d inside.
    (subst IsFile (get_or-map packed_entry fs k d (packed_entry d) inside) (all k (packed_entry d) (omega (arith, inside, length-map fs packed_entry)))).small

-- ---- a deposit that passes

module _ (reader : IsTableReader) (one : OneReading) (a : Attributes) (o : Objects) (before : Base) (known : Known) (joined : List ℕ) (form : AreAttributes a)
    (based : a.name.kind ≢ Full → known.base ≡ Some before) (is : IsDepositOf a o joined) (passes : (c : Check) → PassesCheck joined known c) where
  -- its envelope, and its files
  abbrev v : Env
  v = is.envelope

  abbrev files : List (List ℕ)
  files = is.files.0

  are : AreFiles (all_entries v) is.rest files
  are = is.files.1

  -- what each check says of it
  says : (c : Check) → CheckSays v is.rest known c
  says c = holds_says one joined known v is.rest is.deposit c (passes c)

  -- its entries are those of the objects, whose rows are in form
  contents_are : v.contents ≡ map packed_entry o.contents
  contents_are = contents_entries o v is.rest files are is.files.2

  deletes_are : deletes_of v ≡ map packed_entry o.deletes
  deletes_are = deletes_entries o v is.rest files are is.files.2

  rows_right : All AreTableRows o.contents
  rows_right = tables_right o v is.rest files are is.files.2

  member : v.deletes ≡ deletes_member a.name.kind (map packed_entry o.deletes)
  member = subst (λ (k : Kind). v.deletes ≡ deletes_member k (map packed_entry o.deletes)) is.name.kind (member_is v.kind v.deletes (map packed_entry o.deletes) is.deposit.in_form.deletes deletes_are)

  -- the tables are those of the kind
  has_contents : HasContents a.name.kind (table_names o.contents)
  has_contents = subst (λ (k : Kind). HasContents k (table_names o.contents)) is.name.kind (subst (HasContents v.kind) is.files.2.contents_named (says check.Menu).contents)

  -- ---- the rows of a full deposit

  -- what is said of its tables is said of the rows of the objects
  under_names : (full : a.name.kind ≡ Full) (P : (TableName → List (List (List ℕ))) → Type 0) → HasTables v is.rest P → P (contents_rows o)
  under_names full P has =
      let same = same_files (all_entries v) is.rest has.0 files has.1 are in
      let here = subst (λ (fs : List (List ℕ)). AreTables v.contents (contents_files v fs) has.2.0) same has.2.1 in
      let texts = subst (λ (fs : List (List ℕ)). AreTables v.contents fs has.2.0) (contents_texts o v is.rest files are is.files.2) here in
      let rows = subst (λ (entries : List FileEntry). AreTables entries (map file_of o.contents) has.2.0) contents_are texts in
      let whole : table_names o.contents ≡ all_tables = subst (λ (k : Kind). HasContents k (table_names o.contents)) full has_contents in
      subst P (same_tables reader has.2.0 o.contents whole rows_right rows) has.2.2

  is_full : a.name.kind ≡ Full → v.kind ≡ Full
  is_full full = is.name.kind ∙ full

  row_numbers : a.name.kind ≡ Full → map (λ c. c.count) v.count ≡ numbers_of Full a o before
  row_numbers full = under_names full (AreRowCounts v.count) ((says check.Counts).0 (is_full full))

  references : a.name.kind ≡ Full → AreReferencesKept (contents_rows o)
  references full = under_names full AreReferencesKept (says check.References (is_full full))

  -- ---- the keys after any other

  -- the rows of the objects are what is read of its files
  are_read : tables_at v.contents (contents_files v files) ≡ Some (rows_of o.contents)
  are_read = (λ i. tables_at (contents_are i) (contents_texts o v is.rest files are is.files.2 i)) ∙ tables_read reader o.contents rows_right

  are_keyed : deleted_keys_at (deletes_of v) (deletes_files v files) ≡ Some (rows_of o.deletes)
  are_keyed = (λ i. deleted_keys_at (deletes_are i) (deletes_texts o v is.rest files are is.files.2 i)) ∙ keys_read reader o.deletes (keys_right o v is.rest files are is.files.2)

  -- its counts are the numbers of these keys
  numbers_right : a.name.kind ≢ Full → map (λ c. c.count) v.count ≡ key_numbers v before (rows_of o.contents) (rows_of o.deletes)
  numbers_right partial =
      let counts = subst (λ (b : Option Base). IfSome b (λ base. HasDeletes v is.rest → AreKeyCounts v is.rest base)) (based partial) ((says check.Counts).1 (λ full. partial (sym is.name.kind ∙ full))) in
      let decided = key_counts_decide reader v is.rest files (says check.Menu) are (rows_of o.contents) (rows_of o.deletes) are_read are_keyed before in
      counts_from_test (λ name. distinct_count bytes_eq (keys_after_files v (keys_in before name) (rows_of o.contents) (rows_of o.deletes) name)) v.count counted_tables (decided.1 (counts (says check.Deletes)))

  key_numbers_are : a.name.kind ≢ Full → map (λ c. c.count) v.count ≡ key_numbers (env_counting a o []) before (rows_of o.contents) (rows_of o.deletes)
  key_numbers_are partial =
      numbers_right partial
      ∙ (λ i. map (λ name. distinct_count bytes_eq (keys_after_rows (keys_in before name) (rows_under (contents_are i) (rows_of o.contents) name) (rows_under (unwrap_or (member i) []) (rows_of o.deletes) name))) counted_tables)

  numbers_are : map (λ c. c.count) v.count ≡ numbers_of a.name.kind a o before
  numbers_are = by a.name.kind refl
    where
      by : (k : Kind) → a.name.kind ≡ k → map (λ c. c.count) v.count ≡ numbers_of k a o before
      by Full kind = row_numbers kind
      by Diff kind = key_numbers_are (λ full. let clash : Diff ≡ Full = sym kind ∙ full in cc clash)
      by Incr kind = key_numbers_are (λ full. let clash : Incr ≡ Full = sym kind ∙ full in cc clash)

  -- ---- the envelope

  counted : v.count ≡ counts_with counted_uris (numbers_of a.name.kind a o before)
  counted = counts_parted v.count ∙ (λ i. counts_with ((says check.Menu).counted i) (numbers_are i))

  envelope_is : v ≡ packed_env a o before
  envelope_is = λ i. record {
    contents = contents_are i;
    deletes = member i;
    count = counted i;
    tld = is.name.tld i;
    id = is.id i;
    prev_id = is.prev_id i;
    object_uris = (says check.Menu).objects i;
    resend = is.name.resend i;
    kind = is.name.kind i;
    watermark = is.name.day i;
  }

  joined_is : joined ≡ packed a o before
  unfolding packed
  joined_is = is.deposit.framed.1 ∙ (λ i. frame (env_text (envelope_is i)) (rest_spelled o v is.rest files are is.files.2 i))

  -- ---- what may be packed

  short : All IsFile (v.contents ++ deletes_of v)
  short = All-append IsFile v.contents (deletes_of v) is.deposit.in_form.contents (deletes_short v.kind v.deletes is.deposit.in_form.deletes)

  lengths_right : All (λ f. length (file_of f) ≤ file_length_max) (o.contents ++ o.deletes)
  lengths_right =
      files_short (o.contents ++ o.deletes)
      (subst (All IsFile) ((λ i. contents_are i ++ deletes_are i) ∙ sym (map-append packed_entry o.contents o.deletes)) short)

  counts_right : All (λ n. n < 2 ^ 32) (numbers_of a.name.kind a o before)
  counts_right = subst (All (λ n. n < 2 ^ 32)) numbers_are (All-map (λ n. n < 2 ^ 32) (λ (c : Count). c.count) v.count (λ k d inside. (is.deposit.in_form.counts k d inside).count))

  packable : IsPackable a o before
  packable = record {
    attributes = form;
    weekday = λ sunday. sym is.name.kind ∙ says check.Weekday (subst (λ (d : ℕ). IsTrue (is_sunday d)) (sym is.name.day) sunday);
    prev_id = subst (λ (k : Kind). MayFollow k a.prev_id) is.name.kind (subst (MayFollow v.kind) is.prev_id (may_follow v.kind v.prev_id known (says check.PrevId)));
    contents = has_contents;
    deletes = subst (λ (k : Kind). MayDelete k (table_names o.deletes)) is.name.kind (may_delete v.kind v.deletes (table_names o.deletes) is.deposit.in_form.deletes (says check.Menu).deletes is.files.2.deletes_named);
    tables = rows_right;
    keys = keys_right o v is.rest files are is.files.2;
    references = references;
    lengths = lengths_right;
    counts = counts_right;
  }

  passed : IsPackable a o before × (joined ≡ packed a o before)
  passed = (packable, joined_is)

-- What passes is what is packed, and it may be packed.
pub only_packed : IsTableReader → OneReading → ((joined : List ℕ) (known : Known) → (verdict joined known ≡ Pass) ↔ ((c : Check) → PassesCheck joined known c))
    → (a : Attributes) (o : Objects) (before : Base) (known : Known) (joined : List ℕ) → AreAttributes a → (a.name.kind ≢ Full → known.base ≡ Some before)
    → IsDepositOf a o joined → verdict joined known ≡ Pass → IsPackable a o before × (joined ≡ packed a o before)
only_packed reader one law a o before known joined form based is pass = passed reader one a o before known joined form based is ((law joined known).0 pass)
