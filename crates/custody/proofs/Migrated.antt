-- What an opening does with tables of schema 1: they are those of schema 2 then, and stand for the same state.
use Rattle.std.proofs.Common.{◌≡◌, ◌≢◌, inl, inr, ℕ, length, ◌++◌, List, [], ◌∷◌, Option, Some, None, Result, Ok, Err, Bool, true, false, codes, IsTrue, OnOk, OnErr, refl, sym, ◌∙◌, ap, subst, arith}
use Rattle.std.specs.Option.{option_and_then}
use Rattle.std.specs.Prelude.{slice_get, is_some, IfErr}
use Rattle.std.proofs.lemmas.Bool.{cases_Bool}
use Rattle.vault_volume.specs.declared.volume.Volume as volume
use Rattle.vault_volume.specs.Disk.{LeavesOneImage}
use Rattle.sqlite.specs.Held.{Held, state}
use Rattle.sqlite.specs.Schema.{Schema}
use Rattle.sqlite.specs.State.{State}
use Rattle.sqlite.specs.Store.{Ghosts}
use Rattle.custody_records.specs.Form.{form_of, InForm, has_holds, holds_in, HasCurrentSchema, HasEarlierSchema}
use Rattle.custody_records.specs.Records.{Records}
use Rattle.custody_records.specs.Rows.{MetaRow, HoldRow, Rows, first_meta, migrated_rows}
use Rattle.custody_records.proofs.FormLemmas.{in_form_has, migrated_in_form}
use Rattle.custody_records.proofs.ReadLemmas.{some_same}
use Rattle.custody_store.specs.Reading.{has_table, rows_in}
use Rattle.custody_store.specs.Schema.{first_schema, record_schema}
use Rattle.custody_store.specs.StoreState.{StoreState, store_state, as_store_state, has_earlier_tables, IsReady, HasSchemaAtRest, ChangesNothing, Migrates}
use Rattle.custody_store.proofs.MissingLemmas.{holds_missing, holds_there}
use Rattle.custody_store.proofs.ReadLemmas.{still, all_there, first_of_ready, first_of_earlier, reads_then, reads_fails}
use Rattle.custody_store.proofs.TableLemmas.{holds_first, rows_among}
use Rattle.custody_machine.specs.declared.answers.Failure.{Failure}
use Rattle.custody_machine.specs.declared.answers.Failure.TheVariants.{StoreFailed}
use Rattle.custody_machine.specs.Custody.{IsInStore}
use Rattle.custody_machine.specs.Moves.{Left, MayLeave}
use Rattle.custody.specs.Opening.{HasAllTables, ReadsVolume, OnlyReads, OnlyMigrates, OpensTables}
use Rattle.custody.proofs.Opened.{left_alike, left_same}

-- ---- which schema rows are of

-- the holds of rows in form, by the number of their schema
holds_by_schema : (rows : Rows) (records : Records) → form_of rows ≡ InForm records → (meta : MetaRow) → first_meta rows ≡ Some meta → holds_in (has_holds meta.schema_no) rows.holds ≡ Some records.holds
holds_by_schema rows records is meta first =
    let of = in_form_has rows records is in
    let same = some_same of.meta meta (sym (ap (option_and_then (λ (metas : List MetaRow). slice_get metas 0)) of.alone) ∙ first) in
    ap (λ (row : MetaRow). holds_in (has_holds row.schema_no) rows.holds) (sym same) ∙ of.holds

-- with a table of holds they are of schema 2
are_current : (rows : Rows) (records : Records) (holds : List HoldRow) → rows.holds ≡ Some holds → form_of rows ≡ InForm records → HasCurrentSchema rows
are_current rows records holds there is meta first = by (has_holds meta.schema_no) (ap (holds_in (has_holds meta.schema_no)) (sym there) ∙ holds_by_schema rows records is meta first)
  where
    by : (b : Bool) → holds_in b (Some holds) ≡ Some records.holds → b ≡ true
    by true found = refl
    by false found = cc

-- and without one of schema 1
are_earlier : (rows : Rows) (records : Records) → rows.holds ≡ None → form_of rows ≡ InForm records → HasEarlierSchema rows
are_earlier rows records none is meta first = by (has_holds meta.schema_no) (ap (holds_in (has_holds meta.schema_no)) (sym none) ∙ holds_by_schema rows records is meta first)
  where
    by : (b : Bool) → holds_in b None ≡ Some records.holds → b ≡ false
    by true found = cc
    by false found = refl

-- rows of schema 1 that were made those of schema 2 are of it
migrated_current : (rows : Rows) → HasCurrentSchema (migrated_rows rows)
migrated_current rows meta first = by rows.meta first
  where
    by : (metas : Option (List MetaRow)) → first_meta (migrated_rows (record rows { meta = metas })) ≡ Some meta → has_holds meta.schema_no ≡ true
    by None is = cc
    by (Some []) is = cc
    by (Some (row ∷ others)) is = ap (λ (row : MetaRow). has_holds row.schema_no) (sym (some_same _ meta is))

-- ---- which tables a database has

-- that of holds is one of schema 2
hold_there : (s : State) → IsReady s → has_table (codes "hold") s.now.schema ≡ true
hold_there s ready = sym (holds_there s (first_of_ready s ready)) ∙ ap (λ (rows : Rows). is_some rows.holds) (rows_among s.now.trees s.now.schema ready.tables.begins ready.tables.sound)

-- and of schema 1 it is not: with it there would be six
hold_missing : (s : State) → HasSchemaAtRest first_schema s → has_table (codes "hold") s.now.schema ≡ false
hold_missing s earlier = elim (cases_Bool (has_table (codes "hold") s.now.schema)) [
  | inl there ↦
      let six = ((first_of_earlier s earlier).1 there).begins in
      let long : length first_schema.tables ≡ length (record_schema.tables ++ six.0) = ap (λ (t : Schema). length t.tables) (sym earlier.tables.schema_is) ∙ ap length six.1 in
      absurd (omega arith)
  | inr none ↦ none
]

-- the tables of schema 2 are not the earlier ones, and those of schema 1 are
not_earlier : (s : State) → IsReady s → has_earlier_tables (as_store_state s) ≡ false
not_earlier s ready = rw (all_there s (first_of_ready s ready), hold_there s ready) refl

has_earlier : (s : State) → HasSchemaAtRest first_schema s → has_earlier_tables (as_store_state s) ≡ true
has_earlier s earlier = rw (all_there s (first_of_earlier s earlier), hold_missing s earlier) refl

-- rows in form in tables of schema 2 are of it
ready_current : (s : State) (records : Records) → IsReady s → form_of (rows_in s.now.trees) ≡ InForm records → HasCurrentSchema (rows_in s.now.trees)
ready_current s records ready is =
    let first = (first_of_ready s ready).1 (hold_there s ready) in
    are_current (rows_in s.now.trees) records _ (holds_first s.now.trees s.now.schema first.begins first.sound) is

-- and rows in form in those of schema 1 stand for the same records when they are those of schema 2
migrated_alike : (s : State) (records : Records) → HasSchemaAtRest first_schema s → form_of (rows_in s.now.trees) ≡ InForm records → form_of (migrated_rows (rows_in s.now.trees)) ≡ InForm records
migrated_alike s records earlier is =
    let rows = rows_in s.now.trees in
    migrated_in_form rows records is (are_earlier rows records (holds_missing s (first_of_earlier s earlier) (hold_missing s earlier)) is)

-- ---- a migration, and calls that only read

-- what a call did that read, and then another that migrated
migrates_then : {A B E F : Type 0} (s : State) (mid new : StoreState) (x : A) (r : Result B F) → ChangesNothing {E = E} (as_store_state s) mid (Ok x) → Migrates mid new r → Migrates (as_store_state s) new r
migrates_then s mid new x r reads after = record {
  trust = λ honest. reads.trust (after.trust honest);
  mode = λ closed. after.mode (reads.mode closed);
  effect = λ honest ready.
      let read = after.trust honest in
      let same = still (as_store_state s) mid x reads read ready.rest in
      let one = after.effect honest (same.earlier ready) in
      record {
        done = subst (λ rows. OnOk r (new.IsReady × (new.rows ≡ migrated_rows rows))) same.rows one.done;
        made = one.made;
        kept = subst (λ rows. OnErr r (IsTrue new.is_open → new.IsEarlier × (new.rows ≡ rows))) same.rows one.kept;
        left = λ rows h. elim (one.left rows h) [ inl before ↦ inl (reads.commits_nothing read rows before) | inr made ↦ inr (made ∙ ap migrated_rows same.rows) ];
      };
}

-- the same with another answer
pub migrates_answers : {A B E F : Type 0} (old new : StoreState) (x : A) (y : B) → Migrates {E = E} old new (Ok x) → Migrates {E = F} old new (Ok y)
migrates_answers old new x y p = record { trust = p.trust; mode = p.mode; effect = λ honest ready. let did = p.effect honest ready in record { done = did.done; made = did.made; kept = tt; left = did.left } }

-- or another error
pub migrates_fails : {A B E F : Type 0} (old new : StoreState) (e : E) (f : F) → Migrates {A = A} old new (Err e) → Migrates {A = B} old new (Err f)
migrates_fails old new e f p = record { trust = p.trust; mode = p.mode; effect = λ honest ready. let did = p.effect honest ready in record { done = tt; made = tt; kept = did.kept; left = did.left } }

-- a call that failed after it had only read
pub migrates_nothing : {A B E F : Type 0} (s : State) (new : StoreState) (r : Result A E) (f : F) → ChangesNothing (as_store_state s) new r → Migrates {A = B} (as_store_state s) new (Err f)
migrates_nothing s new r f reads = record {
  trust = reads.trust;
  mode = reads.mode;
  effect = λ honest ready. record {
    done = tt;
    made = tt;
    kept = λ is_open. let same = reads.same honest ready.rest is_open in (same.earlier ready, same.rows);
    left = λ rows h. inl (reads.commits_nothing honest rows h);
  };
}

-- ---- what an opening does to the tables

-- it failed after it had only read
pub opens_nothing : {A B E : Type 0} (s : State) (new : StoreState) (r : Result A E) (is_earlier : Bool) (f : Failure) → ChangesNothing (as_store_state s) new r → OpensTables {A = B} is_earlier (as_store_state s) new (Err f)
opens_nothing s new r is_earlier f reads = record {
  reads = λ _. reads_fails (as_store_state s) new r f reads;
  migrates = λ _. migrates_nothing s new r f reads;
  unchanged = λ _. reads_fails (as_store_state s) new r f reads;
}

-- it does so after what only read
pub opens_then : {A B E : Type 0} (s : State) (mid new : StoreState) (x : A) (r : Result B Failure) (is_earlier : Bool) → ChangesNothing {E = E} (as_store_state s) mid (Ok x) → OpensTables is_earlier mid new r → OpensTables is_earlier (as_store_state s) new r
opens_then {A} {B} {E} s mid new x r is_earlier reads opens = record {
  reads = λ current. reads_then (as_store_state s) mid new x r reads (opens.reads current);
  migrates = λ earlier. migrates_then s mid new x r reads (opens.migrates earlier);
  unchanged = by r opens.unchanged;
}
  where
    by : (q : Result B Failure) → IfErr q (λ failure. failure ≢ StoreFailed → ChangesNothing mid new q) → IfErr q (λ failure. failure ≢ StoreFailed → ChangesNothing (as_store_state s) new q)
    by (Ok y) _ = tt
    by (Err f) unchanged = λ other. reads_then (as_store_state s) mid new x (Err f) reads (unchanged other)

pub opens_trust : {A : Type 0} (is_earlier : Bool) (old new : StoreState) (r : Result A Failure) → OpensTables is_earlier old new r → new.IsHonest → old.IsHonest
opens_trust true old new r opens = (opens.migrates refl).trust
opens_trust false old new r opens = (opens.reads refl).trust

-- the same where the database is handed on
pub opens_both : {S A B E : Type 0} (database : Ghosts S) (db end : Held S) {mid over later : Held S} {x : A} {r : Result B Failure} {is_earlier : Bool} → ChangesNothing {E = E} (store_state database db) (store_state database mid) (Ok x) → over ≡ mid
    → OpensTables is_earlier (store_state database over) (store_state database later) r → end ≡ later → OpensTables is_earlier (store_state database db) (store_state database end) r
opens_both database db end {mid} {over} {later} {x} {r} {is_earlier} reads is opens at =
    subst (λ h. OpensTables is_earlier (store_state database db) (store_state database h) r) (sym at)
    (opens_then (state database db) (store_state database mid) (store_state database later) x r is_earlier reads (subst (λ h. OpensTables is_earlier (store_state database h) (store_state database later) r) is opens))

-- ---- what an opening leaves

module _ {V S : Type 0} (device : volume.Ghosts V) (database : Ghosts S) (volume : V) (db : Held S) (later : V) (then : Held S) where
  -- the volume is read, and the database goes over to schema 2
  pub only_migrates : {A E : Type 0} (r : Result A E) → ReadsVolume device volume later → Migrates (store_state database db) (store_state database then) r → OnlyMigrates device database volume db later then r
  only_migrates r image rows = record {
    image = image;
    rows = rows;
    leaves = λ tells one ready honest. let only = image.any_moment tells in record {
      within = λ r j h since. left_same (store_state database db).rows (device.image volume) r j (ready.rest.only r h) ((one j).0 (only.since since.0 j since.1 since.2 since.3));
      at_exit = λ r j h left.
          let same = (one j).0 (only.since (device.moment later) j only.later (omega arith) left) in
          elim ((rows.effect honest ready).left r h) [
            | inl before ↦ left_same (store_state database db).rows (device.image volume) r j (ready.rest.only r before) same
            | inr made ↦ left_alike (store_state database db).rows (device.image volume) r j (λ records is. ap form_of made ∙ migrated_alike (state database db) records ready is) same
          ];
    };
  }

  -- over the tables of either schema: what a stop leaves after it
  pub left_of_all : {A E : Type 0} (r : Result A E) → (has_earlier_tables (store_state database db) ≡ false → OnlyReads device database volume db later then r) → (has_earlier_tables (store_state database db) ≡ true → OnlyMigrates device database volume db later then r)
      → device.tells → LeavesOneImage (device.image volume) (device.left_at volume (device.moment volume)) → HasAllTables (store_state database db) → (store_state database then).IsHonest
      → (rows : Rows) (image : List ℕ) → (store_state database then).may_leave rows → device.left_at later (device.moment later) image → MayLeave (Left (store_state database db).rows (device.image volume)) rows image
  left_of_all r reads migrates tells one (inl ready) honest rows image h w = ((reads (not_earlier (state database db) ready)).leaves tells one ready.rest honest).at_exit rows image h w
  left_of_all r reads migrates tells one (inr earlier) honest rows image h w = ((migrates (has_earlier (state database db) earlier)).leaves tells one earlier honest).at_exit rows image h w

  -- and what an open custody keeps of the rows
  pub rows_of_all : {A : Type 0} (x : A) (is_earlier : Bool) → is_earlier ≡ has_earlier_tables (store_state database db) → OpensTables is_earlier (store_state database db) (store_state database then) (Ok x)
      → HasAllTables (store_state database db) → (store_state database then).IsHonest → (records : Records) → form_of (store_state database db).rows ≡ InForm records
      → IsInStore records (store_state database then).rows (store_state database then).IsReady (store_state database then).may_leave
  rows_of_all x is_earlier same_schema opens (inl ready) honest records is =
      let s = state database db in
      let same = still (as_store_state s) (store_state database then) x (opens.reads (same_schema ∙ not_earlier s ready)) honest ready.rest in
      record { ready = same.ready ready; in_form = ap form_of same.rows ∙ is; current = subst HasCurrentSchema (sym same.rows) (ready_current s records ready is); settled = same.rest.only }
  rows_of_all x is_earlier same_schema opens (inr earlier) honest records is =
      let s = state database db in
      let done = ((opens.migrates (same_schema ∙ has_earlier s earlier)).effect honest earlier).done in
      record { ready = done.0; in_form = ap form_of done.1 ∙ migrated_alike s records earlier is; current = subst HasCurrentSchema (sym done.1) (migrated_current (as_store_state s).rows); settled = done.0.rest.only }
