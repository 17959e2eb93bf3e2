-- What an opening finds of a database and a volume.
use Rattle.std.proofs.Common.{◌≡◌, ◌⊎◌, inl, inr, ℕ, zero, suc, ℤ, pos, negsuc, ◌*◌, ◌<◌, ◌≤◌, ◌^◌, List, [], ◌∷◌, length, Option, Some, None, Result, Ok, Err, refl, sym, ◌∙◌, ap, subst, arith}
use Rattle.std.specs.Prelude.{◌||◌, codes, true, false, option_map}
use Rattle.vault_volume.specs.Image.{bytes_at, DiffersOnlyIn}
use Rattle.vault_volume.proofs.ImageLemmas.{same_in}
use Rattle.vault_volume.specs.Disk.{LeavesOnly}
use Rattle.vault_volume.specs.Head.{head_of}
use Rattle.custody_records.specs.declared.meta.Meta.{Meta}
use Rattle.custody_records.specs.Records.{Records}
use Rattle.custody_records.specs.Rows.{MetaRow, Rows, first_meta}
use Rattle.custody_records.specs.Form.{form_of, InForm, natural, has_holds, HasCurrentSchema}
use Rattle.custody_records.specs.TypedRecords as typed
use Rattle.custody_records.proofs.MetaLemmas.{number_reads}
use Rattle.custody_records.proofs.ReadLemmas.{some_same}
use Rattle.custody_machine.specs.declared.damage.Damage.{Damage}
use Rattle.custody_machine.specs.declared.damage.Damage.TheVariants as wrong
use Rattle.custody_machine.specs.Damage.{IsDamaged}
use Rattle.custody_rules.specs.Breaks.{BreaksFirst, ReportsBreak}
use Rattle.std.specs.FinMap.{get, empty, get-empty, same_map}
use Rattle.std.specs.declared.cmp.Ordering.{Ordering}
use Rattle.sqlite.specs.State.{State, HasCleanDisk}
use Rattle.custody_records.specs.Keys.{text_cmp, part_cmp, notice_cmp}
use Rattle.custody_records.specs.Records.{new_records}
use Rattle.custody_records.specs.Rows.{initial_rows}
use Rattle.custody_records.specs.RowsOfRecords.{digits_of}
use Rattle.custody_records.proofs.FormLemmas.{fresh_in_form}
use Rattle.custody_store.specs.Reading.{rows_in, has_table}
use Rattle.custody_store.specs.Schema.{meta_schema}
use Rattle.custody_store.specs.StoreState.{StoreState, store_state, as_store_state, IsAtRest, IsReady, IsBare, HasFirstTables, HasSchemaTablesFirst, HasMetaOrNone, HasKnownTables, MayLeaveRows, has_any_table, CreatesTables, ChangesNothing, SameTablesAndRows}
use Rattle.custody_store.proofs.BareLemmas.{rows_bare}
use Rattle.custody_store.proofs.ReadLemmas.{still, meta_there, meta_of_first, first_of_ready, first_of_earlier}
use Rattle.custody_machine.specs.State.{empty as nothing}
use Rattle.custody_machine.specs.StoredState.{AreWhole, AreWholeOnVolume, KeepsParts, part_of, state_in, HasDigests}
use Rattle.custody_machine.specs.Moves.{Serving, Left, MayLeave, IsBegun}
use Rattle.custody_machine.specs.Custody.{IsOnVolume, IsInStore, MayInitialise}
use Rattle.custody_machine.proofs.MapValues.{get-map_values}
use Rattle.custody_machine.proofs.Stored.{keeps_itself}
use Rattle.custody_records.specs.inside.Orders.{part_total, part_exact}
use Rattle.custody_records.proofs.FormLemmas.{InForm-injective}
use Rattle.vault_volume.specs.declared.volume.Volume as volume
use Rattle.sqlite.specs.Store.{Ghosts}
use Rattle.sqlite.specs.Held.{Held, state}
use Rattle.custody_machine.specs.declared.answers.Failure.{Failure}
use Rattle.custody_machine.specs.declared.answers.Failure.TheVariants as failure
use Rattle.custody.specs.declared.answers.InitError.{InitError}
use Rattle.custody.specs.declared.answers.InitError.TheVariants as init_error
use Rattle.custody.specs.Opening.{HasAllTables, HasAllTablesOrNone, HasNoRecord, WritesNothing, IsVolumeSize, ReadsVolume, OnlyReads}
use Rattle.custody.specs.Calls.{LeavesNone}

-- a volume with a block 0 has a block
pub has_block : (image : List ℕ) (size number : ℕ) → length image ≡ 4096 * size → bytes_at image 0 4096 ≡ head_of number → 1 ≤ size
has_block [] size number long head = cc
has_block (byte ∷ image) zero number long head = absurd (omega arith)
has_block (byte ∷ image) (suc size) number long head = omega arith

-- what is wrong among records in form
pub broken_damaged : (damage : Damage) (records : Records) (rows : Rows) (image : List ℕ) → form_of rows ≡ InForm records → BreaksFirst damage records → IsDamaged damage rows image
broken_damaged wrong.Extent records rows image is breaks = (records, is, breaks)
broken_damaged wrong.Overlap records rows image is breaks = (records, is, breaks.1)
broken_damaged wrong.Link records rows image is breaks = (records, is, breaks.2)
broken_damaged _ records rows image is breaks = absurd breaks

-- whole records break no rule
none_broken : (damage : Damage) (records : Records) → AreWhole records → BreaksFirst damage records → ⊥
none_broken wrong.Extent records whole breaks = breaks whole.extents
none_broken wrong.Overlap records whole breaks = breaks.1 whole.once
none_broken wrong.Link records whole breaks = breaks.2 whole.linked
none_broken _ records whole breaks = absurd breaks

-- so nothing is told of them but want of memory
pub only_memory : (why : Failure) (records : Records) → AreWhole records → ReportsBreak records why → why ≡ failure.NoMemory
only_memory failure.NoMemory records whole told = refl
only_memory (failure.Damaged damage) records whole told = absurd (none_broken damage records whole told)
only_memory _ records whole told = absurd told

-- a row that was found is the first
pub first_row : (first : Option MetaRow) (found : Meta) → Some found ≡ option_map typed.meta_of first → (row : MetaRow) × (first ≡ Some row) × (found ≡ typed.meta_of row)
first_row None found is = cc
first_row (Some row) found is = (row, refl, some_same _ _ is)

-- a row of meta that is of another volume
pub other_volume : (rows : Rows) (found : Meta) (number size : ℕ) (image : List ℕ) → Some found ≡ option_map typed.meta_of (first_meta rows) → number < 2 ^ 64 → length image ≡ 4096 * size → bytes_at image 0 4096 ≡ head_of number
    → ¬ ((found.number ≡ Some number) × (found.blocks ≡ pos size)) → IsDamaged wrong.Volume rows image
other_volume rows found number size image is lt long head other =
    let row = first_row (first_meta rows) found is in (
      row.0,
      number,
      lt,
      row.1,
      head,
      λ of. other (
        ap (λ (m : Meta). m.number) row.2 ∙ sym (number_reads row.0.number number lt of.number_is),
        ap (λ (m : Meta). m.blocks) row.2 ∙ same_blocks row.0.blocks (sym of.size ∙ long) (has_block image size number long head),
      ),
    )
  where
    same_blocks : (blocks : ℤ) → 4096 * natural blocks ≡ 4096 * size → 1 ≤ size → blocks ≡ pos size
    same_blocks (pos n) e le = let same : n ≡ size = omega arith in ap pos same
    same_blocks (negsuc n) e le = absurd (omega arith)

-- ---- a beginning

-- a database without tables has no record
pub bare_has_none : (s : State) → IsBare s → HasNoRecord (rows_in s.now.trees)
bare_has_none s bare = ap first_meta (rows_bare s bare)

-- nor has what a stop leaves of it
pub none_left : (s : State) → IsBare s → (rows : Rows) → MayLeaveRows s rows → HasNoRecord rows
none_left s bare rows left = ap first_meta (bare.rest.only rows left) ∙ bare_has_none s bare

-- where there is no record, what a stop leaves has none
pub still_none : (s : State) → IsAtRest s → HasNoRecord (rows_in s.now.trees) → (rows : Rows) → MayLeaveRows s rows → HasNoRecord rows
still_none s rest none rows left = ap first_meta (rest.only rows left) ∙ none

-- where meta is there, one is
any_there : (s : State) → HasFirstTables meta_schema.tables s → has_any_table (as_store_state s) ≡ true
any_there s first = ap (λ b. b || has_table (codes "registry") s.now.schema || has_table (codes "part") s.now.schema || has_table (codes "notice") s.now.schema || has_table (codes "handover") s.now.schema || has_table (codes "hold") s.now.schema) (meta_there s first)

-- a database with the tables of a schema has the five first that both have
pub first_of_all : (s : State) → HasAllTables (as_store_state s) → HasSchemaTablesFirst s
first_of_all s (inl ready) = first_of_ready s ready
first_of_all s (inr earlier) = first_of_earlier s earlier

-- so it begins with meta
pub meta_of_all : (s : State) → HasAllTables (as_store_state s) → HasFirstTables meta_schema.tables s
meta_of_all s all = meta_of_first s (first_of_all s all)

pub none_all : (s : State) → false ≡ has_any_table (as_store_state s) → HasAllTables (as_store_state s) → ⊥
none_all s none all = let some : false ≡ true = none ∙ any_there s (meta_of_all s all) in cc

-- and its tables are known
pub known_of_all : (s : State) → HasAllTables (as_store_state s) → HasKnownTables (as_store_state s)
known_of_all s all = inr (meta_of_all s all, λ _. first_of_all s all)

-- where none is there, there is no table at all
pub bare_where_none : (s : State) → false ≡ has_any_table (as_store_state s) → HasAllTablesOrNone (as_store_state s) → IsBare s
bare_where_none s none (inl all) = absurd (none_all s none all)
bare_where_none s none (inr bare) = bare

-- where its tables are known, it begins with meta, or has none
pub meta_where_known : (s : StoreState) → HasKnownTables s → HasMetaOrNone s
meta_where_known s (inl bare) = inr bare
meta_where_known s (inr known) = inl known.0

-- with the tables of a schema it is at rest
pub all_rests : (s : State) → HasAllTables (as_store_state s) → IsAtRest s
all_rests s all = (first_of_all s all).0.rest

-- and so is one without tables
pub either_rests : (s : State) → HasAllTablesOrNone (as_store_state s) → IsAtRest s
either_rests s (inl all) = all_rests s all
either_rests s (inr bare) = bare.rest

-- either is known to begin with meta, or to have no table
pub meta_or_none : (s : State) → HasAllTablesOrNone (as_store_state s) → HasMetaOrNone (as_store_state s)
meta_or_none s (inl all) = inl (meta_of_all s all)
meta_or_none s (inr bare) = inr bare

-- the same with another error
pub founds_err : {A B E F : Type 0} (old new : StoreState) (after : Rows) (e : E) (f : F) → CreatesTables {A = A} old new after (Err e) → CreatesTables {A = B} old new after (Err f)
founds_err old new after e f p = record {
  trust = p.trust;
  mode = p.mode;
  effect = λ honest bare. let did = p.effect honest bare in record { done = tt; made = tt; kept = did.kept; left = did.left };
}

-- and with another answer
pub founds_ok : {A B E F : Type 0} (old new : StoreState) (after : Rows) (x : A) (y : B) → CreatesTables {E = E} old new after (Ok x) → CreatesTables {E = F} old new after (Ok y)
founds_ok old new after x y p = record {
  trust = p.trust;
  mode = p.mode;
  effect = λ honest bare. let did = p.effect honest bare in record { done = did.done; made = did.made; kept = tt; left = did.left };
}

module _ (number blocks : ℕ) where
  none_at : {K X : Type 0} (R : K → K → Ordering) (key : K) (x : X) → get (empty {X = X} {R = R}) key ≡ Some x → ⊥
  none_at {X = X} R key x at = let none = get-empty {X = X} R key in let apart : Some x ≡ None = sym at ∙ none in cc

  -- no records are whole
  pub new_whole : AreWhole (new_records number blocks)
  new_whole = record {
    extents = λ key part at. absurd (none_at part_cmp key part at);
    once = record {
      within = λ key part at. absurd (none_at part_cmp key part at);
      between = λ j k p q b at_j at_k in_p in_q. absurd (none_at part_cmp j p at_j);
    };
    linked = record {
      part_registry = λ key part at. absurd (none_at part_cmp key part at);
      notice_registry = λ key notice at. absurd (none_at notice_cmp key notice at);
      release_registry = λ reference release at. absurd (none_at text_cmp reference release at);
      hold_registry = λ reference hold at. absurd (none_at text_cmp reference hold at);
      released = λ reference release at. absurd (none_at text_cmp reference release at);
      series = λ key part at n e. absurd (none_at part_cmp key part at);
      numbers = λ key notice at n e. absurd (none_at notice_cmp key notice at);
      verdict_parts = λ key notice rev at of. absurd (none_at notice_cmp key notice at);
      one_verdict = λ j k m n rev at_j at_k day of_m of_n. absurd (none_at notice_cmp j m at_j);
      due = λ key part at lt. absurd (none_at part_cmp key part at);
      one_receipt = λ j k m n at_j at_k day is_m is_n. absurd (none_at notice_cmp j m at_j);
      one_absence = λ j k m n at_j at_k day is_m is_n. absurd (none_at notice_cmp j m at_j);
    };
  }

  -- and stand for the empty state, whatever the image is
  pub new_empty : (image : List ℕ) → state_in (new_records number blocks) image ≡ nothing
  new_empty image = ap (λ parts. record nothing { parts = parts }) (same_map part_total part_exact _ _ (λ key. get-map_values part_cmp (part_of image) empty key ∙ ap (option_map (part_of image)) (get-empty part_cmp key) ∙ sym (get-empty part_cmp key)))

  pub new_digests : (image : List ℕ) → HasDigests image (new_records number blocks)
  new_digests image key part extents at = absurd (none_at part_cmp key part at)

  pub new_begun : (records : Records) (image : List ℕ) → records ≡ new_records number blocks → IsBegun nothing (Serving records image)
  new_begun records image is = subst (λ r. IsBegun nothing (Serving r image)) (sym is) (new_empty image, new_digests image)

  module _ (image : List ℕ) (lt : number < 2 ^ 64) (fits : IsVolumeSize blocks) (head : bytes_at image 0 4096 ≡ head_of number) (long : length image ≡ 4096 * blocks) where
    -- the rows that are made, with the volume that is begun, stand for it
    fresh_begun : IsBegun nothing (Left (initial_rows (digits_of number) (pos blocks)) image)
    fresh_begun = (
      record {
        records = new_records number blocks;
        in_form = fresh_in_form number blocks lt fits.0 fits.1;
        good = record { whole = new_whole; volume = record { head = head; size = long } };
        meaning = sym (new_empty image);
      },
      λ records is. subst (HasDigests image) (InForm-injective (new_records number blocks) records (sym (fresh_in_form number blocks lt fits.0 fits.1) ∙ is)) (new_digests image),
    )

    pub begun_left : (rows : Rows) (left : List ℕ) → rows ≡ initial_rows (digits_of number) (pos blocks) → left ≡ image → IsBegun nothing (Left rows left)
    begun_left rows left new is = subst (λ r. IsBegun nothing (Left r left)) (sym new) (subst (λ i. IsBegun nothing (Left (initial_rows (digits_of number) (pos blocks)) i)) (sym is) fresh_begun)

    -- what a stop leaves after the volume is begun
    pub may_be_begun : (s : State) → IsBare s → (rows : Rows) (left : List ℕ) → MayLeaveRows s rows ⊎ (rows ≡ initial_rows (digits_of number) (pos blocks)) → left ≡ image → MayInitialise rows left
    may_be_begun s bare rows left (inl old) is = inl (none_left s bare rows old)
    may_be_begun s bare rows left (inr new) is = inr (begun_left rows left new is)

-- ---- calls that only read

module _ {A E : Type 0} (old mid new : StoreState) (x : A) (reads : ChangesNothing {E = E} old mid (Ok x)) (is : new ≡ mid) where
  -- the tables and rows are those that were there
  pub stands_still : new.IsHonest → old.IsAtRest → SameTablesAndRows old new
  stands_still honest rest = subst (SameTablesAndRows old) (sym is) (still old mid x reads (subst (λ s. s.IsHonest) is honest) rest)

-- a database without tables is handed on without
pub bare_still : {S A E : Type 0} (database : Ghosts S) (db mid over : Held S) (x : A) → ChangesNothing {E = E} (store_state database db) (store_state database mid) (Ok x) → over ≡ mid
    → has_any_table (store_state database db) ≡ false → HasAllTablesOrNone (store_state database db) → (store_state database over).IsHonest → (store_state database over).IsBare
bare_still database db mid over x reads is none either honest =
    let bare = bare_where_none (state database db) (sym none) either in
    (stands_still (store_state database db) (store_state database mid) (store_state database over) x reads (ap (store_state database) is) honest bare.rest).bare bare

-- ---- what an opening leaves

-- rows that stand for the same records, and the same image
pub left_alike : (rows : Rows) (image : List ℕ) (r : Rows) (j : List ℕ) → ((records : Records) → form_of rows ≡ InForm records → form_of r ≡ InForm records) → j ≡ image → MayLeave (Left rows image) r j
left_alike rows image r j alike same_image records is good = record {
  records = records;
  in_form = alike records is;
  good = subst (AreWholeOnVolume records) (sym same_image) good;
  keeps = subst (KeepsParts records image records) (sym same_image) (keeps_itself records image);
  state = ap (state_in records) same_image;
}

-- the same rows and image
pub left_same : (rows : Rows) (image : List ℕ) (r : Rows) (j : List ℕ) → r ≡ rows → j ≡ image → MayLeave (Left rows image) r j
left_same rows image r j same_rows = left_alike rows image r j (λ records is. ap form_of same_rows ∙ is)

-- volume and database are only read
module _ {V S : Type 0} (device : volume.Ghosts V) (database : Ghosts S) where
  pub only_reads : {A E : Type 0} (volume : V) (db : Held S) (later : V) (then : Held S) (r : Result A E) → ReadsVolume device volume later → ChangesNothing (store_state database db) (store_state database then) r → OnlyReads device database volume db later then r
  only_reads volume db later then r image rows = record {
    image = image;
    rows = rows;
    leaves = λ tells one rest honest. let only = image.any_moment tells in record {
      within = λ s j h since. left_same (store_state database db).rows (device.image volume) s j (rest.only s h) ((one j).0 (only.since since.0 j since.1 since.2 since.3));
      at_exit = λ s j h left.
          left_same (store_state database db).rows (device.image volume) s j (rest.only s (rows.commits_nothing honest s h)) ((one j).0 (only.since (device.moment later) j only.later (omega arith) left));
    };
  }

-- ---- what a beginning leaves that makes nothing

-- what failed and wrote nothing had no memory
pub no_memory : (why : Failure) → WritesNothing (init_error.Failure why) → why ≡ failure.NoMemory
no_memory why wrote = grind arith

-- where the database was only read
pub none_made : {A E V S : Type 0} (device : volume.Ghosts V) (database : Ghosts S) (volume : V) (db : Held S) (number : ℕ) (error : InitError) (later : V) (then : Held S) (r : Result A E) → ChangesNothing (store_state database db) (store_state database then) r → (store_state database then).IsHonest
    → (HasMetaOrNone (store_state database db) → error ≡ init_error.AlreadyInitialised → ¬ HasNoRecord (store_state database db).rows) → (HasMetaOrNone (store_state database db) → error ≡ init_error.Size → HasNoRecord (store_state database db).rows)
    → LeavesNone device database volume db number error later then
none_made device database volume db number error later then r reads honest taken not_taken = record {
  taken = taken;
  not_taken = not_taken;
  untouched = λ _ rows left. reads.commits_nothing honest rows left;
  unwritten = λ _ rows left. reads.commits_nothing honest rows left;
  rows = λ either none rows left. inl (none_then either none rows left);
  fails = λ tells either none rows image left _. inl (none_then either none rows left);
}
  where
    none_then : HasAllTablesOrNone (store_state database db) → HasNoRecord (store_state database db).rows → (rows : Rows) → (store_state database then).may_leave rows → HasNoRecord rows
    none_then either none rows left = still_none (state database db) (either_rests (state database db) either) none rows (reads.commits_nothing honest rows left)

-- ---- what is kept of the volume and the rows

-- a stop leaves now what it could leave at the start
pub left_now : {V : Type 0} (moment : V → ℕ) (left_at : V → ℕ → List ℕ → Type 0) (old new : V) (P : List ℕ → Type 0) → LeavesOnly moment left_at old new P → (c : List ℕ) → left_at new (moment new) c → P c
left_now moment left_at old new P reads c left = reads.since (moment new) c reads.later (omega arith) left

-- a volume that leaves only what a read gives
pub on_volume : {V : Type 0} (image_in : V → List ℕ) (moment : V → ℕ) (left_at : V → ℕ → List ℕ → Type 0) (v w : V) → v ≡ w → (records : Records) (free : ℕ → Type 0) → bytes_at (image_in w) 0 4096 ≡ head_of records.number
    → length (image_in w) ≡ 4096 * records.blocks → ((c : List ℕ) → left_at w (moment w) c → c ≡ image_in w) → IsOnVolume records (image_in v) free (left_at v (moment v))
on_volume image_in moment left_at v w is records free head long one = subst (λ x. IsOnVolume records (image_in x) free (left_at x (moment x))) (sym is) (record {
  volume = record { head = head; size = long };
  elsewhere = λ c left. subst (DiffersOnlyIn free (image_in w)) (sym (one c left)) (same_in free (image_in w));
})

-- new rows are of schema 2
fresh_current : (number : List ℕ) (blocks : ℤ) → HasCurrentSchema (initial_rows number blocks)
fresh_current number blocks meta is = ap (λ (row : MetaRow). has_holds row.schema_no) (sym (some_same _ meta is))

-- the tables with the row of meta, which were made at once
pub fresh_in_store : {A E : Type 0} (old : StoreState) (new : State) (x : A) (number blocks : ℕ) → number < 2 ^ 64 → IsVolumeSize blocks → CreatesTables {E = E} old (as_store_state new) (initial_rows (digits_of number) (pos blocks)) (Ok x)
    → HasCleanDisk new → old.IsBare → (records : Records) → records ≡ new_records number blocks → IsInStore records (as_store_state new).rows (IsReady new) (MayLeaveRows new)
fresh_in_store old new x number blocks lt fits founds honest bare records is =
    let done = (founds.effect honest bare).done in
    record {
      ready = done.0;
      in_form = ap form_of done.1 ∙ fresh_in_form number blocks lt fits.0 fits.1 ∙ ap InForm (sym is);
      current = subst HasCurrentSchema (sym done.1) (fresh_current (digits_of number) (pos blocks));
      settled = done.0.rest.only;
    }
