-- What SELECT answers: the rows of the table, in their order. It changes nothing.
use Rattle.std.proofs.Common.{◌≡◌, ◌⊎◌, inl, inr, ℕ, true, false, List, [], ◌∷◌, ◌++◌, map, None, Ok, Err, Result, IsTrue, Less, refl, sym, subst, ap, ◌∙◌}
use Rattle.std.specs.Result.{IsErr}
use Rattle.std.proofs.lemmas.List.Concat.{flat_map_single}
use Rattle.sqlite.specs.Order.{Row, value_cmp}
use Rattle.sqlite.specs.Term.{Term, eval_all}
use Rattle.sqlite.specs.Query.{Query, IsAnswer, output, output_cmp, Output}
use Rattle.sqlite.specs.Program.{overlay}
use Rattle.sqlite.specs.Tree.{Trees, rowid, IsTable}
use Rattle.sqlite_value.specs.declared.value.Value.TheVariants.{Null}
use Rattle.sqlite.specs.Command.TheVariants.{Select}
use Rattle.sqlite.specs.Command.{Command}
use Rattle.sqlite.specs.Clock.{timed}
use Rattle.sqlite.specs.Effect.{Answers, Database}
use Rattle.sqlite.specs.Given.{Returns, HasBegun, HasGiven}
use Rattle.sqlite.specs.Held.{Held, state}
use Rattle.sqlite.specs.Listing.{understood, reads_listing, IsSourceOf}
use Rattle.sqlite.specs.declared.error.Error.{Error}
use Rattle.sqlite.specs.State.{State, IsStatement, HasCleanDisk, Survives, Shown as Answered, ShowsRows, Begins, FailsToQuery, IsNotRun, CommitsShowing, Fails, IsUnchanged, IsRolledBack}
use Rattle.sqlite.specs.Store.{Ghosts}
use Rattle.sqlite_resolve.specs.declared.compiled.Compiled.{Compiled}
use Rattle.sqlite.proofs.StateLemmas.{survives_then, survives_weaker}
use Rattle.sqlite.proofs.Callers.{EndsIn, command_of, reads_as, begins_shown, unchanged_then}
use Rattle.sqlite_sql.proofs.QueryLemmas.{output_cmp_total}
use Rattle.sqlite_keyed.proofs.SortLemmas.{sorted_unique}
use Rattle.sqlite_keyed.proofs.ListLemmas.{ascending-map, ascending_weaker}
use Rattle.sqlite.specs.Table.{Table}
use Rattle.custody_records.specs.Rows.{Rows}
use Rattle.custody_store.specs.StoreState.{HasFirstTables, as_store_state, ChangesNothing}
use Rattle.custody_store.specs.Calls.{LeavesCommitted, RunsQuery}
use Rattle.custody_store.proofs.StatementLemmas.{in_order, IsSelection, beginning_with}
use Rattle.custody_store.proofs.CommitLemmas.{stands, trusts}
use Rattle.custody_store.proofs.QueryLemmas.{is_query_text, query_never_returns, silent_returns_none, silent_commits_nothing}

abbrev pub projected : List Term → Row → Row
projected project row = eval_all project ([] ∷ row ∷ [])

no_change : (s : State) → IsTrue s.is_open → IsUnchanged s s
no_change s is_open = (record { was_open = is_open; is_open = is_open; now_is = refl; committed_is = refl; mode = refl }, record { changes = refl; last_rowid = refl }, refl)

pub then_map : {A B C : Type 0} (f : A → B) (g : B → C) (xs : List A) → map g (map f xs) ≡ map (λ x. g (f x)) xs
then_map f g [] = refl
then_map f g (x ∷ xs) = ap (λ l. g (f x) ∷ l) (then_map f g xs)

pub answered : (tree : ℕ) (project : List Term) (trees : Trees) (rows : List Row) → IsTable (trees tree) → IsAnswer (in_order tree project) trees [] rows → rows ≡ map (projected project) (trees tree)
answered tree project trees rows up a =
    let q = in_order tree project in
    let out : Row → Output = λ row. (rowid row ∷ [], projected project row) in
    let staged : a.staged ≡ map (λ row. [] ∷ row ∷ []) (trees tree) = a.grouped ∙ flat_map_single (λ row. [] ∷ row ∷ []) (trees tree) in
    let all : a.kept ≡ map out (trees tree) = a.distinct ∙ ap (map (output q)) staged ∙ then_map (λ row. [] ∷ row ∷ []) (output q) (trees tree) in
    let rises = ascending-map (λ x y. output_cmp q x y ≡ Less) out (trees tree) (ascending_weaker (λ r s. value_cmp (rowid r) (rowid s) ≡ Less) (λ r s. output_cmp q (out r) (out s) ≡ Less) (λ r s less. rw less refl) (trees tree) up) in
    let ordered : a.ordered ≡ map out (trees tree) = sorted_unique (output_cmp q) (output_cmp_total q) (map out (trees tree)) a.ordered rises (rw all at a.same) a.sorted in
    a.shown ∙ ap (map (λ (o : Output). o.1)) ordered ∙ then_map out (λ (o : Output). o.1) (trees tree)

-- ---- a query changes nothing, whatever the tables are

module _ (sql : List ℕ) (old new : State) (silent : ¬ Returns (understood old.now.schema sql)) where
  pub fails : (e : Error) → FailsToQuery sql [] old new e → IsUnchanged old new ⊎ IsRolledBack old new
  unfolding FailsToQuery IsNotRun
  fails e (inl (inl refused)) = inl refused.1
  fails e (inl (inr failed)) = inr failed.3
  fails e (inr read) =
      let none = silent_returns_none sql old.now.schema silent read.0 read.1.is in
      inl (rw none at read.2).3

  unchanged : (rows : List Row) → Answered sql [] old new rows → IsUnchanged old new
  unfolding Answered
  unchanged rows h =
      let none = silent_returns_none sql old.now.schema silent h.0 h.1.is in
      (rw none at h.2).3

  pub survives_silent : Survives old new (CommitsShowing sql [] old) → Survives old new (λ _. ⊥)
  survives_silent = survives_weaker old new _ _ (λ _ db. silent_commits_nothing sql [] old db silent)

-- a call that commits nothing
pub left_as_before : (old new : State) → Survives old new (λ _. ⊥) → HasCleanDisk new → (rows : Rows) → (as_store_state new).may_leave rows → (as_store_state old).may_leave rows
left_as_before old new survives clean rows h = elim (survives.crash clean h.0 h.1) [
  | inl before ↦ (h.0, before, h.2)
  | inr made ↦ absurd made
]

-- A call that answers, commits nothing and leaves the database as it was.
pub answers : {A E : Type 0} (old new : State) (x : A) → LeavesCommitted new → Survives old new (λ _. ⊥) → (old.in_transaction ≡ false → new.in_transaction ≡ false) → (HasCleanDisk new → IsUnchanged old new) → ChangesNothing {E = E} (as_store_state old) (as_store_state new) (Ok x)
answers old new x settled survives mode left = record {
  trust = trusts old new _ survives;
  mode = mode;
  commits_nothing = left_as_before old new survives;
  same = λ clean rest. stands old new rest settled (inl (left clean));
  still_open = λ clean rest. (left clean).0.is_open;
}

-- One that fails may have rolled it back.
pub failed : {A E : Type 0} (old new : State) (e : E) → LeavesCommitted new → Survives old new (λ _. ⊥) → (old.in_transaction ≡ false → new.in_transaction ≡ false) → (HasCleanDisk new → IsUnchanged old new ⊎ IsRolledBack old new) → ChangesNothing {A = A} (as_store_state old) (as_store_state new) (Err e)
failed old new e settled survives mode left = record {
  trust = trusts old new _ survives;
  mode = mode;
  commits_nothing = left_as_before old new survives;
  same = λ clean rest. stands old new rest settled (left clean);
  still_open = λ clean rest. tt;
}

pub failed_so : {A E : Type 0} (old new : State) (r : Result A E) → IsErr r → LeavesCommitted new → Survives old new (λ _. ⊥) → (old.in_transaction ≡ false → new.in_transaction ≡ false) → (HasCleanDisk new → IsUnchanged old new ⊎ IsRolledBack old new) → ChangesNothing (as_store_state old) (as_store_state new) r
failed_so old new (Ok x) is settled survives mode left = absurd (let e = is in cc)
failed_so old new (Err e) is settled survives mode left = failed old new e settled survives mode left

pub reads : {A E : Type 0} (sql : List ℕ) (query : is_query_text sql ≡ true) (rows_of : A → List Row) (old new : State) (r : Result A E) → RunsQuery sql rows_of old new r → ChangesNothing (as_store_state old) (as_store_state new) r
reads sql query rows_of old new (Ok a) it =
    let silent = query_never_returns sql old.now.schema query in
    answers old new a it.settled (survives_silent sql old new silent it.survives) it.mode (λ clean. unchanged sql old new silent (rows_of a) (it.asked clean))
reads sql query rows_of old new (Err x) it =
    let silent = query_never_returns sql old.now.schema query in
    failed old new x it.settled (survives_silent sql old new silent it.survives) it.mode (λ clean. let e = it.asked clean in fails sql old new silent e.0 e.1)

-- ---- the same answer, seen from a state that is unchanged

module _ (sql : List ℕ) (old mid : State) (same : IsUnchanged old mid) where
  statement_before : (c : Compiled) → IsStatement mid sql [] c → IsStatement old sql [] c
  statement_before c it = record { is = subst (λ (d : Database). understood d.schema sql ≡ Ok c) same.0.now_is it.is; whole = it.whole; given = it.given; now = it.now }

  pub begins_before : (rows : List Row) → Begins sql [] mid rows → Begins sql [] old rows
  unfolding Begins statement_before
  begins_before rows h = (h.0, statement_before h.0 h.1, h.2, h.3, subst (λ (d : Database). IsSourceOf (reads_listing d.schema sql) d h.3) same.0.now_is h.4, h.5)

  pub shown_before : (new : State) (rows : List Row) → ¬ Returns (understood old.now.schema sql) → Answered sql [] mid new rows → Answered sql [] old new rows
  unfolding Answered statement_before
  shown_before new rows silent h =
      let c = h.0 in
      let it = statement_before c h.1 in
      let none = silent_returns_none sql old.now.schema silent c it.is in
      let full = timed [] c.formats it.now in
      let read : ShowsRows mid new sql c full rows None = subst (ShowsRows mid new sql c full rows) none h.2 in (
        c,
        it,
        subst (ShowsRows old new sql c full rows) (sym none)
            (read.0, subst (λ (d : Database). IsSourceOf (reads_listing d.schema sql) d read.0) same.0.now_is read.1, read.2, unchanged_then old mid new same read.3),
      )

-- what came after a state that is unchanged
pub still_survives : (old mid new : State) → Survives old mid (λ _. ⊥) → Survives mid new (λ _. ⊥) → Survives old new (λ _. ⊥)
still_survives old mid new = survives_then old mid new (λ _. ⊥) (λ _. ⊥) (λ _. ⊥) (λ _ db none. none) (λ _ db none. none)

back_before : (old mid new : State) → IsUnchanged old mid → IsRolledBack mid new → IsRolledBack old new
back_before old mid new same back = record {
  was_open = λ is_open. same.0.was_open;
  undone = λ is_open. let both = back.undone is_open in (both.0 ∙ same.0.committed_is, both.1 ∙ same.0.committed_is);
  autocommit = back.autocommit;
  unmarked = back.unmarked;
  counts = record { changes = back.counts.changes ∙ same.1.changes; last_rowid = back.counts.last_rowid ∙ same.1.last_rowid };
}

pub fails_after : (old mid new : State) (e : Error) → IsUnchanged old mid → Fails mid new ⊥ e ⊎ IsUnchanged mid new → IsUnchanged old new ⊎ IsRolledBack old new
fails_after old mid new e same (inl failed) = inr (back_before old mid new same failed.3)
fails_after old mid new e same (inr again) = inl (unchanged_then old mid new same again)

-- a query whose text never gives rows of a write is at its start
pub begun_silent : {S : Type 0} (g : Ghosts S) (sql : List ℕ) (old new : Held S) → ¬ Returns (understood old.schema sql) → HasBegun g sql [] old new → HasGiven g sql [] new [] × IsUnchanged (state g old) (state g new)
begun_silent g sql old new silent (inl h) = h
begun_silent g sql old new silent (inr h) = absurd (silent h.0)

-- rows that begin an answer are the first of a whole one
pub whole_answer : (sql : List ℕ) (old : State) (rows : List Row) (q : Query) (names : List (List ℕ)) → IsTrue old.is_open → command_of (understood old.now.schema sql) ≡ Select (record { lets = []; body = q }) names → Begins sql [] old rows
    → (tail : List Row) × Answered sql [] old old (rows ++ tail)
whole_answer sql old rows q names is_open is h = begins_shown sql [] old old rows h (no_change old is_open) (λ c db it source. subst (λ k. EndsIn k db (timed [] c.formats it.now)) (sym is ∙ ap command_of it.is) tt)

-- ---- what it answers, where the first tables are these

module _ (first : List Table) (sql : List ℕ) (tree : ℕ) (project : List Term) (names : List (List ℕ)) (means : IsSelection first sql tree project names) (old : State) where
  abbrev command : Command
  command = Select (record { lets = []; body = in_order tree project }) names

  beginning_of : HasFirstTables first old → (others : List Table) × (old.now.schema ≡ beginning_with first others old.now.schema.indexes old.now.schema.views)
  beginning_of at = (at.begins.0, ap (λ tables. record old.now.schema { tables = tables }) at.begins.1)

  pub selects : HasFirstTables first old → command_of (understood old.now.schema sql) ≡ command
  selects at = let b = beginning_of at in ap (λ s. command_of (understood s sql)) b.1 ∙ (means b.0 old.now.schema.indexes old.now.schema.views).is

  pub finds : (new : State) → HasFirstTables first old → overlay old.now.trees [] tree ≡ old.now.trees tree → IsTable (old.now.trees tree) → (rows : List Row) → Answered sql [] old new rows → rows ≡ map (projected project) (old.now.trees tree)
  finds new at low up rows h =
      let schema = old.now.schema in
      let b = beginning_of at in
      let over = means b.0 schema.indexes schema.views in
      let read : Answers old.now (record { lets = []; body = in_order tree project }) [] rows =
      reads_as sql [] old new (beginning_with first b.0 schema.indexes schema.views) b.1 command over.is over.plain over.unlisted rows h in
      answered tree project (overlay old.now.trees []) rows (rw low up) (read.answer Null) ∙ ap (map (projected project)) low
