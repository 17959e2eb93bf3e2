-- A statement that writes rows, alone and outside a transaction, as one change of the rows.
use Rattle.std.proofs.Common.{◌≡◌, ◌⊎◌, inl, inr, ℕ, codes, List, [], None, false, Ok, Err, Result, IsTrue, refl, sym, ap, subst, subst₂, ◌∙◌, append-nil, arith}
use Rattle.std.specs.Result.{IsErr}
use Rattle.sqlite.specs.Order.{Row}
use Rattle.sqlite.specs.Command.{Command}
use Rattle.sqlite.specs.Command.TheVariants.{Insert, Update, Commit, Release}
use Rattle.sqlite.specs.Source.{Source}
use Rattle.sqlite_schema.specs.declared.program.Program.{Program}
use Rattle.sqlite.specs.Tree.{Trees, with_tree}
use Rattle.sqlite_trees.specs.declared.store.Shape.TheVariants as shape
use Rattle.sqlite_trees.specs.View.{IsShaped}
use Rattle.sqlite.specs.declared.error.Error.{Error}
use Rattle.sqlite.specs.Effect.{Database, IsDatabase}
use Rattle.sqlite.specs.Does.{Tally, Does}
use Rattle.sqlite.specs.Listing.{understood}
use Rattle.sqlite.specs.State.{State, HasCleanDisk, Survives, Executes, CommitsBy, MayCommit, IsUnchanged, IsRolledBack, Writes, mode_of, Runs as RunsTo}
use Rattle.sqlite.proofs.Callers.{IsPlain, command_of, statement_of, runs_as}
use Rattle.sqlite.proofs.InsideLemmas.{fails_whole}
use Rattle.sqlite.specs.Table.{Table}
use Rattle.sqlite.specs.Schema.{Schema}
use Rattle.custody_store.specs.Schema.{meta_schema, first_schema, record_schema}
use Rattle.custody_records.specs.Rows.{Rows}
use Rattle.custody_store.specs.Reading.{rows_in, has_table}
use Rattle.custody_store.specs.StoreState.{StoreState, HasOnlyTables, HasTablesAmongOthers, HaveOwnTrees, HasSchemaAtRest, IsAtRest, IsReady, HasFirstTables, HasSchemaTablesFirst, SchemaBeginsWith, AreOrdered, SameTablesAndRows, as_store_state, IsOneCommit, Commits}
use Rattle.custody_store.specs.Calls.{LeavesCommitted, RunsStatement}
use Rattle.custody_store.proofs.TableLemmas.{OthersStay, held_rows, rows_among, rows_after, ordered_as, ordered_with, held_as}
use Rattle.custody_store.proofs.ModeLemmas.{ended, runs_mode}
use Rattle.custody_store.proofs.StatementLemmas.{IsMeaning, IsMeaningOver, beginning_with}

pub at_rest : (s : State) → IsTrue s.is_open → s.in_transaction ≡ false → s.committed ≡ s.now → LeavesCommitted s → IsAtRest s
at_rest s is_open autocommit committed settled = record {
  is_open = is_open;
  autocommit = autocommit;
  committed = committed;
  only = λ rows h. h.2 ∙ ap rows_in (settled h.0 is_open h.1 ∙ ap (λ (d : Database). d.trees) committed);
}

pub ready_at : (s : State) → IsTrue s.is_open → s.in_transaction ≡ false → s.committed ≡ s.now → LeavesCommitted s → HasTablesAmongOthers record_schema.tables s.now → IsReady s
ready_at s is_open autocommit committed settled tables = record { rest = at_rest s is_open autocommit committed settled; tables = tables }

first_still : (first : List Table) (old new : State) → IsAtRest new → new.now ≡ old.now → HasFirstTables first old → HasFirstTables first new
first_still first old new rest now h = record {
  rest = rest;
  begins = subst (λ (d : Database). SchemaBeginsWith first d.schema) (sym now) h.begins;
  sound = subst IsDatabase (sym now) h.sound;
  ordered = subst (λ (d : Database). AreOrdered first d.trees) (sym now) h.ordered;
}

tables_still : (old new : State) → IsAtRest new → new.now ≡ old.now → HasSchemaTablesFirst old → HasSchemaTablesFirst new
tables_still old new rest now h = (
  first_still first_schema.tables old new rest now h.0,
  λ there. first_still record_schema.tables old new rest now (h.1 (sym (ap (λ (d : Database). has_table (codes "hold") d.schema) now) ∙ there)),
)

ready_still : (old new : State) → IsAtRest new → new.now ≡ old.now → IsReady old → IsReady new
ready_still old new rest now ready = record { rest = rest; tables = subst (HasTablesAmongOthers record_schema.tables) (sym now) ready.tables }

made_still : (schema : Schema) (old new : State) → IsAtRest new → new.now ≡ old.now → HasSchemaAtRest schema old → HasSchemaAtRest schema new
made_still schema old new rest now made = record { rest = rest; tables = subst (HasOnlyTables schema) (sym now) made.tables }

-- the same database, at rest
pub stands_at : (old new : State) → IsAtRest new → new.now ≡ old.now → SameTablesAndRows (as_store_state old) (as_store_state new)
stands_at old new rest now = record {
  rows = ap (λ (d : Database). rows_in d.trees) now;
  schema = ap (λ (d : Database). d.schema) now;
  rest = rest;
  ready = ready_still old new rest now;
  earlier = made_still first_schema old new rest now;
  first_tables = tables_still old new rest now;
  first_meta = first_still meta_schema.tables old new rest now;
  bare = λ bare. record { rest = rest; schema = ap (λ (d : Database). d.schema) now ∙ bare.schema; sound = subst IsDatabase (sym now) bare.sound };
}

-- a call that changed nothing, or that rolled back
pub stands : (old new : State) → IsAtRest old → LeavesCommitted new → IsUnchanged old new ⊎ IsRolledBack old new → IsTrue new.is_open → SameTablesAndRows (as_store_state old) (as_store_state new)
stands old new was settled (inl same) is_open =
    let now = same.0.now_is in
    stands_at old new (at_rest new is_open (same.0.mode ∙ was.autocommit) (same.0.committed_is ∙ was.committed ∙ sym now) settled) now
stands old new was settled (inr undone) is_open =
    let both = undone.undone is_open in
    stands_at old new (at_rest new is_open undone.autocommit (both.1 ∙ sym both.0) settled) (both.0 ∙ was.committed)

kept : (old new : State) → IsReady old → LeavesCommitted new → IsUnchanged old new ⊎ IsRolledBack old new → IsTrue new.is_open → IsReady new × (rows_in new.now.trees ≡ rows_in old.now.trees)
kept old new ready settled either is_open = let still = stands old new ready.rest settled either is_open in (still.ready ready, still.rows)

-- honesty goes backwards
pub trusts : (old new : State) (P : Trees → Type 0) → Survives old new P → HasCleanDisk new → HasCleanDisk old
trusts old new P survives clean = omega (arith, clean, survives.clean)

-- a command that writes rows, and ends no transaction
pub record WritesRows (command : Command) : Type 1 where
  pub runs : (old new : State) (text : List ℕ) (params : Row) (count : ℕ) → RunsTo old new None command text params count → Writes old new None command text params count
  pub commits : command ≡ Commit → ⊥
  pub releases : (name : List ℕ) → command ≡ Release name → ⊥

pub insert_writes : (at : ℕ) (from : Source) → WritesRows (Insert at from)
insert_writes at from = record { runs = λ old new text params count h. h; commits = λ e. cc; releases = λ name e. cc }

pub update_writes : (at : ℕ) (q : Program) → WritesRows (Update at q)
update_writes at q = record { runs = λ old new text params count h. h; commits = λ e. cc; releases = λ name e. cc }

-- what the statement would make of the rows
abbrev pub Makes : State → List ℕ → Row → Command → Trees → Type 0
Makes s sql params command db =
    (tally : Tally) × (after : Database) × Does s.step_limit (mode_of s) params s.now (statement_of sql (understood s.now.schema sql)) None command (Ok (tally, after)) × IsDatabase after × (db ≡ after.trees)

-- the statement makes this change of the rows, and the tables stay as they are made
abbrev pub Changes : State → List ℕ → Row → Command → (Rows → Rows) → Type 0
Changes s sql params command change =
    (tally : Tally) (after : Database) → Does s.step_limit (mode_of s) params s.now (statement_of sql (understood s.now.schema sql)) None command (Ok (tally, after)) → IsDatabase after
    → (after.schema ≡ s.now.schema) × HasTablesAmongOthers record_schema.tables after × (rows_in after.trees ≡ change (rows_in s.now.trees))

-- the rows of the table in this tree changed, and nothing else
pub one_table : (s : State) → HasTablesAmongOthers record_schema.tables s.now → (after : Database) (tree : ℕ) (change : Rows → Rows) → after.schema ≡ s.now.schema → IsDatabase after → IsShaped shape.Table (after.trees tree)
    → OthersStay record_schema.tables tree s.now.trees after.trees → held_rows (with_tree s.now.trees tree (after.trees tree)) ≡ change (held_rows s.now.trees)
    → (after.schema ≡ s.now.schema) × HasTablesAmongOthers record_schema.tables after × (rows_in after.trees ≡ change (rows_in s.now.trees))
one_table s tables after tree change same sound shaped others changed =
    let trees = s.now.trees in
    let rows = with_tree trees tree (after.trees tree) in
    let begins = subst (SchemaBeginsWith record_schema.tables) (sym same) tables.begins in
    let have = rows_after record_schema.tables tree trees after.trees trees (after.trees tree) others refl (refl, (refl, (refl, (refl, (refl, (refl, tt)))))) in
    let is = rows_among after.trees after.schema begins sound ∙ held_as rows after.trees have ∙ changed ∙ sym (ap change (rows_among trees s.now.schema tables.begins tables.sound)) in (
      same,
      record {
        begins = begins;
        apart = subst (λ (t : Schema). HaveOwnTrees t.tables) (sym same) tables.apart;
        sound = sound;
        ordered = ordered_as record_schema.tables rows after.trees have (ordered_with record_schema.tables tree trees (after.trees tree) tables.ordered shaped);
      },
      is,
    )

module _ (sql : List ℕ) (params : Row) (command : Command) (means : IsMeaning record_schema.tables sql command) (writes : WritesRows command) where
  means_in : (schema : Schema) → SchemaBeginsWith record_schema.tables schema → IsMeaningOver schema sql command
  means_in schema begins =
      let is : schema ≡ beginning_with record_schema.tables begins.0 schema.indexes schema.views = ap (λ tables. record schema { tables = tables }) begins.1 in
      subst (λ t. IsMeaningOver t sql command) (sym is) (means begins.0 schema.indexes schema.views)

  commits_as : (s : State) (db : Trees) → SchemaBeginsWith record_schema.tables s.now.schema → CommitsBy sql params s db → Makes s sql params command db
  unfolding CommitsBy
  commits_as s db begins h =
      let over = means_in s.now.schema begins in
      let known = sym h.1.is in
      let bare = subst IsPlain (sym known) over.plain in
      let may = subst₂ (λ k t. MayCommit s None k t params db) (ap command_of known ∙ over.is) (ap (statement_of sql) known) (rw (bare.0, bare.1, append-nil params) at h.2) in
      elim may [
        | inl ends ↦ absurd (elim ends.0 [ inl commit ↦ writes.commits commit | inr release ↦ writes.releases release.0 release.2 ])
        | inr wrote ↦ (wrote.1, wrote.2, wrote.3, wrote.4, wrote.5)
      ]

  pub written : (old new : State) (count : ℕ) → Executes sql params old new (Ok count) → SchemaBeginsWith record_schema.tables old.now.schema → Writes old new None command (statement_of sql (understood old.now.schema sql)) params count
  written old new count h begins =
      let over = means_in old.now.schema begins in
      writes.runs old new _ params count (runs_as sql params old new old.now.schema refl command over.is over.plain count h)

  module _ (old new : State) (change : Rows → Rows) (effect : IsReady old → Changes old sql params command change) (settled : LeavesCommitted new) (survives : Survives old new (CommitsBy sql params old)) where
    left : IsReady old → HasCleanDisk new → (rows : Rows) → (as_store_state new).may_leave rows → (as_store_state old).may_leave rows ⊎ (rows ≡ change (rows_in old.now.trees))
    left ready clean rows h = elim (survives.crash clean h.0 h.1) [
      | inl before ↦ inl (h.0, before, h.2)
      | inr made ↦ let it = commits_as old h.0 ready.tables.begins made in inr (h.2 ∙ ap rows_in it.4 ∙ (effect ready it.0 it.1 it.2 it.3).2)
    ]

    wrote : {A E : Type 0} (x : A) (count : ℕ) → Executes sql params old new (Ok count) → HasCleanDisk new → IsReady old → IsOneCommit {E = E} (as_store_state old) (as_store_state new) (change (rows_in old.now.trees)) (Ok x)
    wrote x count h clean ready =
        let w = written old new count h ready.tables.begins in
        let made = effect ready w.tally new.now w.changed w.sound in
        let committed : new.committed ≡ new.now = rw ready.rest.autocommit at w.shown.committed_is in
        let autocommit = w.shown.mode ∙ ready.rest.autocommit in
        record { done = (ready_at new w.shown.is_open autocommit committed settled made.1, made.2); kept = tt; left = left ready clean; schema = λ _. made.0; ended = autocommit }

    failed : {A E : Type 0} (x : E) (e : Error) → Executes sql params old new (Err e) → HasCleanDisk new → IsReady old → IsOneCommit {A = A} (as_store_state old) (as_store_state new) (change (rows_in old.now.trees)) (Err x)
    failed x e h clean ready =
        let whole = fails_whole old new false sql params e h in
        record { done = tt; kept = kept old new ready settled whole; left = left ready clean; schema = λ is_open. (stands old new ready.rest settled whole is_open).schema; ended = ended old new ready.rest.autocommit whole }

  -- One statement that writes rows is one commit.
  pub commits_change : {A E : Type 0} (old new : State) (change : Rows → Rows) (r : Result A E) → (IsReady old → Changes old sql params command change) → RunsStatement sql params old new r → Commits (as_store_state old) (as_store_state new) (change (rows_in old.now.trees)) r
  commits_change old new change (Ok x) effect runs = record {
    trust = trusts old new _ runs.survives;
    mode = runs_mode sql params old new (Ok x) (means [] [] []).changes runs;
    effect = λ clean ready. let ran = runs.ran clean in wrote old new change effect runs.settled runs.survives x ran.0 ran.1 clean ready;
  }
  commits_change old new change (Err x) effect runs = record {
    trust = trusts old new _ runs.survives;
    mode = runs_mode sql params old new (Err x) (means [] [] []).changes runs;
    effect = λ clean ready. let ran = runs.ran clean in failed old new change effect runs.settled runs.survives x ran.0 ran.1 clean ready;
  }

-- where nothing was called
pub commits_none : {A E : Type 0} (s : State) (after : Rows) (e : E) → Commits {A = A} (as_store_state s) (as_store_state s) after (Err e)
commits_none s after e = record { trust = λ honest. honest; mode = λ _ autocommit. autocommit; effect = λ _ ready. record { done = tt; kept = λ _. (ready, refl); left = λ rows h. inl h; schema = λ _. refl; ended = ready.rest.autocommit } }

pub commits_err : {A B E F : Type 0} (old new : StoreState) (after : Rows) (x : E) (r : Result B F) → IsErr r → Commits {A = A} old new after (Err x) → Commits old new after r
commits_err old new after x (Ok y) is p = absurd (let e = is in cc)
commits_err old new after x (Err y) is p = record { trust = p.trust; mode = p.mode; effect = λ honest ready. let it = p.effect honest ready in record { done = tt; kept = it.kept; left = it.left; schema = it.schema; ended = it.ended } }

pub commits_ok : {A B E F : Type 0} (old new : StoreState) (after : Rows) (x : A) (y : B) → Commits {E = E} old new after (Ok x) → Commits {E = F} old new after (Ok y)
commits_ok old new after x y p = record { trust = p.trust; mode = p.mode; effect = λ honest ready. let it = p.effect honest ready in record { done = it.done; kept = tt; left = it.left; schema = it.schema; ended = it.ended } }

pub runs_err : {A B E F : Type 0} (sql : List ℕ) (params : Row) (old new : State) (x : E) (r : Result B F) → IsErr r → RunsStatement {A = A} sql params old new (Err x) → RunsStatement sql params old new r
runs_err sql params old new x (Ok y) is p = absurd (let e = is in cc)
runs_err sql params old new x (Err y) is p = record { settled = p.settled; survives = p.survives; ran = p.ran }

pub runs_ok : {A B E F : Type 0} (sql : List ℕ) (params : Row) (old new : State) (x : A) (y : B) → RunsStatement {E = E} sql params old new (Ok x) → RunsStatement {E = F} sql params old new (Ok y)
runs_ok sql params old new x y p = record { settled = p.settled; survives = p.survives; ran = p.ran }
