-- The transaction that makes the tables, adds that of holds, or drops bytes.
use Rattle.std.proofs.Common.{◌≡◌, ◌⊎◌, inl, inr, ℕ, pos, [], ◌∷◌, true, false, List, Ok, Err, Result, OnOk, OnErr, IsTrue, refl, sym, ap, subst, ◌∙◌}
use Rattle.sqlite.specs.Effect.{Database}
use Rattle.sqlite.specs.Schema.{Schema}
use Rattle.sqlite.specs.State.{State, HasCleanDisk}
use Rattle.sqlite.specs.Store.{Ghosts}
use Rattle.sqlite.specs.Held.{Held, state}
use Rattle.custody_store.specs.Schema.{no_schema, first_schema, record_schema}
use Rattle.custody_records.specs.Keys.{PartKey}
use Rattle.custody_records.specs.Rows.{Rows, initial_rows, migrated_rows}
use Rattle.custody_store.specs.Dropping.{rows_without_bytes}
use Rattle.custody_store.specs.Reading.{rows_in}
use Rattle.custody_store.specs.inside.Making.{IsMakingTables, HasMadeTables, HasRows, empty_trees}
use Rattle.custody_store.specs.StoreState.{HasTablesAmongOthers, IsAtRest, IsReady, HasSchemaAtRest, IsBare, SameTablesAndRows, MayLeaveRows, IsOneCommit, Commits, IsOneCreation, CreatesTables, IsOneMigration, Migrates, as_store_state, store_state}
use Rattle.custody_store.specs.Calls.{LeavesCommitted, SqlStatement, AreRun, RunsTogether}
use Rattle.custody_store.specs.Statements.{insert_meta_text, insert_meta_values, create_statements, set_schema_text, migrate_statements, drop_bytes_statements}
use Rattle.custody_store.proofs.AmongLemmas.{as_made}
use Rattle.custody_store.proofs.CommitLemmas.{at_rest, ready_at, stands_at}
use Rattle.custody_store.proofs.SchemaLemmas.{all_creations, hold_creation, makes_all, makes_hold}
use Rattle.custody_store.proofs.MakingLemmas.{makes_each, puts_meta}
use Rattle.custody_store.proofs.MigrationLemmas.{without_holds, sets_schema}
use Rattle.custody_store.proofs.DropLemmas.{drops_each}
use Rattle.custody_store.proofs.TogetherLemmas.{only_run}

-- Tables of schema 2 are there at once in this schema, with these rows, or the database stands as it stood.
pub record IsOneEnd {A E : Type 0} (old new : State) (schema : Schema) (after : Rows) (result : Result A E) : Type 0 where
  pub done : OnOk result (IsReady new × (rows_in new.now.trees ≡ after))
  pub made : OnOk result (new.now.schema ≡ schema)
  pub kept : OnErr result (IsTrue new.is_open → SameTablesAndRows (as_store_state old) (as_store_state new))
  pub left : (rows : Rows) → MayLeaveRows new rows → MayLeaveRows old rows ⊎ (rows ≡ after)

module _ {S : Type 0} (g : Ghosts S) (statements : List SqlStatement) (old new : Held S) (settled : LeavesCommitted (state g new)) (mode : old.in_transaction ≡ false → new.in_transaction ≡ false) (clean : HasCleanDisk (state g new)) (was : IsAtRest (state g old)) (schema : Schema) (after : Rows)
    (makes : (last : Held S) → AreRun g statements (record old { in_transaction = true }) last → HasRows schema after (state g last)) where
  left : {A E : Type 0} (r : Result A E) → RunsTogether g statements old new r → (rows : Rows) → MayLeaveRows (state g new) rows → MayLeaveRows (state g old) rows ⊎ (rows ≡ after)
  left r runs rows h = elim (runs.left clean h.0 h.1) [ inl before ↦ inl (h.0, before, h.2) | inr did ↦ inr (h.2 ∙ ap rows_in did.2 ∙ (makes did.0 did.1).rows_are) ]

  one_end : {A E : Type 0} (r : Result A E) → RunsTogether g statements old new r → IsOneEnd (state g old) (state g new) schema after r
  one_end (Ok x) runs =
      let did = runs.done clean in
      let made = makes did.0 did.1 in
      let shows = did.2 in
      let tables = subst (HasTablesAmongOthers record_schema.tables) (sym shows.now_is) made.tables in
      record {
        done = (ready_at (state g new) shows.is_open shows.mode (shows.committed_is ∙ sym shows.now_is) settled tables, ap (λ (d : Database). rows_in d.trees) shows.now_is ∙ made.rows_are);
        made = ap (λ (d : Database). d.schema) shows.now_is ∙ made.schema_is;
        kept = tt;
        left = left (Ok x) runs;
      }
  one_end (Err e) runs = record {
    done = tt;
    made = tt;
    kept = λ is_open. let both = runs.kept clean was.autocommit was.committed is_open in stands_at (state g old) (state g new) (at_rest (state g new) is_open (mode was.autocommit) (both.1 ∙ sym both.0) settled) both.0;
    left = left (Err e) runs;
  }

-- ---- what the transaction makes

has_rows : (rows : Rows) (first : Database) (s : State) → HasMadeTables rows first s → HasRows record_schema rows s
has_rows rows first s made = record { schema_is = made.tables.schema_is; tables = as_made s.now made.tables; rows_are = made.rows_are }

creates : {S : Type 0} (g : Ghosts S) (digits : List ℕ) (blocks : ℕ) (old last : Held S) → IsBare (state g old) → AreRun g (create_statements digits blocks) (record old { in_transaction = true }) last → HasRows record_schema (initial_rows digits (pos blocks)) (state g last)
creates g digits blocks old last bare ran =
    let first = (state g old).now in
    let begun : Held _ = record old { in_transaction = true } in
    let start : IsMakingTables no_schema first empty_trees (state g begun) = record { is_open = bare.rest.is_open; inside = refl; committed = bare.rest.committed; schema_is = bare.schema; sound = bare.sound; rows_are = tt } in
    let made = makes_each g no_schema all_creations ((insert_meta_text, insert_meta_values digits blocks) ∷ []) first empty_trees begun last makes_all start ran in
    let put = only_run g (insert_meta_text, insert_meta_values digits blocks) made.0 last made.2 in
    has_rows _ first (state g last) (puts_meta digits (pos blocks) first (state g made.0) (state g last) put.0 made.1 put.1)

adds_holds : {S : Type 0} (g : Ghosts S) (old last : Held S) → HasSchemaAtRest first_schema (state g old) → AreRun g migrate_statements (record old { in_transaction = true }) last → HasRows record_schema (migrated_rows (rows_in (state g old).now.trees)) (state g last)
adds_holds g old last ready ran =
    let first = (state g old).now in
    let begun : Held _ = record old { in_transaction = true } in
    let start : IsMakingTables first_schema first (without_holds first.trees) (state g begun) = record {
      is_open = ready.rest.is_open;
      inside = refl;
      committed = ready.rest.committed;
      schema_is = ready.tables.schema_is;
      sound = ready.tables.sound;
      rows_are = (refl, (refl, (refl, (refl, (refl, tt)))));
    } in
    let made = makes_each g first_schema hold_creation ((set_schema_text, []) ∷ []) first (without_holds first.trees) begun last (refl, makes_hold, tt) start ran in
    let set = only_run g (set_schema_text, []) made.0 last made.2 in
    has_rows _ first (state g last) (sets_schema first (state g made.0) (state g last) set.0 ready.tables made.1 set.1)

drops_bytes : {S : Type 0} (g : Ghosts S) (keys : List PartKey) (old last : Held S) → IsReady (state g old) → AreRun g (drop_bytes_statements keys) (record old { in_transaction = true }) last
    → HasRows (state g old).now.schema (rows_without_bytes keys (rows_in (state g old).now.trees)) (state g last)
drops_bytes g keys old last ready = drops_each g keys _ _ (record old { in_transaction = true }) last (record { schema_is = refl; tables = ready.tables; rows_are = refl })

-- ---- what the call is

one_founding : {A E : Type 0} (old new : State) (after : Rows) (r : Result A E) → IsBare old → IsOneEnd old new record_schema after r → IsOneCreation (as_store_state old) (as_store_state new) after r
one_founding old new after (Ok x) bare end = record { done = end.done; made = end.made; kept = tt; left = end.left }
one_founding old new after (Err e) bare end = record { done = tt; made = tt; kept = λ is_open. let still = end.kept is_open in (still.bare bare, still.rows); left = end.left }

one_migration : {A E : Type 0} (old new : State) (r : Result A E) → HasSchemaAtRest first_schema old → IsOneEnd old new record_schema (migrated_rows (rows_in old.now.trees)) r → IsOneMigration (as_store_state old) (as_store_state new) r
one_migration old new (Ok x) ready end = record { done = end.done; made = end.made; kept = tt; left = end.left }
one_migration old new (Err e) ready end = record { done = tt; made = tt; kept = λ is_open. let still = end.kept is_open in (still.earlier ready, still.rows); left = end.left }

one_drop : {A E : Type 0} (old new : State) (after : Rows) (r : Result A E) → IsReady old → new.in_transaction ≡ false → IsOneEnd old new old.now.schema after r → IsOneCommit (as_store_state old) (as_store_state new) after r
one_drop old new after (Ok x) ready ended end = record { done = end.done; kept = tt; left = end.left; schema = λ _. end.made; ended = ended }
one_drop old new after (Err e) ready ended end = record { done = tt; kept = λ is_open. let still = end.kept is_open in (still.ready ready, still.rows); left = end.left; schema = λ is_open. (end.kept is_open).schema; ended = ended }

module _ {S A E : Type 0} (g : Ghosts S) (old new : Held S) (r : Result A E) (settled : LeavesCommitted (state g new)) (trust : HasCleanDisk (state g new) → HasCleanDisk (state g old)) (mode : old.in_transaction ≡ false → new.in_transaction ≡ false) where
  pub founds : (digits : List ℕ) (blocks : ℕ) → RunsTogether g (create_statements digits blocks) old new r → CreatesTables (store_state g old) (store_state g new) (initial_rows digits (pos blocks)) r
  founds digits blocks runs = record {
    trust = trust;
    mode = mode;
    effect = λ clean bare. one_founding (state g old) (state g new) _ r bare (one_end g _ old new settled mode clean bare.rest _ _ (λ last. creates g digits blocks old last bare) r runs);
  }

  pub migrates : RunsTogether g migrate_statements old new r → Migrates (store_state g old) (store_state g new) r
  migrates runs = record {
    trust = trust;
    mode = mode;
    effect = λ clean ready. one_migration (state g old) (state g new) r ready (one_end g _ old new settled mode clean ready.rest _ _ (λ last. adds_holds g old last ready) r runs);
  }

  pub drops : (keys : List PartKey) → RunsTogether g (drop_bytes_statements keys) old new r → Commits (store_state g old) (store_state g new) (rows_without_bytes keys (rows_in (state g old).now.trees)) r
  drops keys runs = record {
    trust = trust;
    mode = λ _. mode;
    effect = λ clean ready. one_drop (state g old) (state g new) _ r ready (mode ready.rest.autocommit) (one_end g _ old new settled mode clean ready.rest _ _ (λ last. drops_bytes g keys old last ready) r runs);
  }
