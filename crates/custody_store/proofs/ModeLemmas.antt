-- A statement that changes rows opens no transaction and ends none, whatever the schema.
use Rattle.std.proofs.Common.{◌≡◌, ◌⊎◌, inl, inr, ℕ, List, [], length, Bool, true, false, cond, Option, Ok, Err, Result, refl, subst, ◌∙◌}
use Rattle.std.specs.Prelude.{◌==◌}
use Rattle.std.proofs.lemmas.Bool.{false≢true, cases_Bool}
use Rattle.sqlite.specs.Order.{Row}
use Rattle.sqlite.specs.Listing.{understood, reads_listing, if_select, is_select, listing_schema}
use Rattle.sqlite.specs.State.{State, HasCleanDisk, ExecutesIn, Runs as RunsTo, shows_rows, IsUnchanged, IsRolledBack}
use Rattle.sqlite.proofs.InsideLemmas.{fails_whole}
use Rattle.sqlite_ast.specs.declared.Expr.{Expr}
use Rattle.sqlite_ast.specs.declared.Rows.{Rows}
use Rattle.sqlite_ast.specs.declared.Upsert.{Upsert}
use Rattle.sqlite_ast.specs.declared.Statement.{Statement}
use Rattle.sqlite_ast.specs.declared.Statement.TheVariants as written
use Rattle.sqlite_ast.specs.declared.Conflict.TheVariants as conflict
use Rattle.sqlite_schema.specs.declared.schema.Schema.{Schema}
use Rattle.sqlite_schema.specs.declared.command.Conflict.{Conflict}
use Rattle.sqlite_schema.specs.declared.command.Conflict.TheVariants as how
use Rattle.sqlite_schema.specs.declared.command.Command.{Command}
use Rattle.sqlite_schema.specs.declared.command.Command.TheVariants.{Select, Insert, InsertOr, Update}
use Rattle.sqlite_schema.specs.declared.command.Returning.{Returning}
use Rattle.sqlite_syntax.specs.declared.statement.Parsed.{Parsed}
use Rattle.sqlite_resolve.specs.declared.compiled.Compiled.{Compiled}
use Rattle.sqlite_resolve.specs.declared.error.CompileError.{CompileError}
use Rattle.sqlite_resolve.specs.declared.error.CompileError.TheVariants.{NoSuchTable}
use Rattle.sqlite_resolve.specs.Scope.{Name}
use Rattle.sqlite_resolve.specs.Body.{table_at}
use Rattle.sqlite_resolve.specs.Program.{program}
use Rattle.sqlite_resolve.specs.Write.{updated}
use Rattle.sqlite_resolve.specs.Given.{upserts}
use Rattle.sqlite_resolve.specs.Lowering.{Checked, and_then}
use Rattle.sqlite_resolve.specs.Compile.{first, compiled, planned, meaning, returning, command, target, new_rows, insert, insert_or, insert_or_abort, update}
use Rattle.custody_store.specs.Calls.{RunsStatement}

abbrev is_change : Statement → Bool
is_change (written.Insert way name columns rows clauses shown) = true
is_change (written.Update name sets test shown) = true
is_change _ = false

-- the text was parsed, and its statement passes
abbrev pub of_parsed : (Statement → Bool) → Checked Parsed → Bool
of_parsed is (Ok p) = is p.statement
of_parsed is (Err e) = false

-- the text is an INSERT or an UPDATE
abbrev pub is_change_text : List ℕ → Bool
is_change_text sql = of_parsed is_change (first sql)

abbrev keeps_mode : Command → Bool
keeps_mode (Select q names) = true
keeps_mode (Insert at from) = true
keeps_mode (InsertOr at how from clauses) = true
keeps_mode (Update at q) = true
keeps_mode _ = false

abbrev pub OnChecked : {A : Type 0} → (A → Bool) → Checked A → Type 0
OnChecked test (Ok a) = test a ≡ true
OnChecked test (Err e) = Unit {0}

pub any_then : {A B : Type 0} (test : B → Bool) (r : Checked A) (f : A → Checked B) → ((a : A) → OnChecked test (f a)) → OnChecked test (and_then r f)
any_then test (Ok a) f h = h a
any_then test (Err e) f h = tt

pub such_then : {A B : Type 0} (from : A → Bool) (test : B → Bool) (r : Checked A) (f : A → Checked B) → OnChecked from r → ((a : A) → from a ≡ true → OnChecked test (f a)) → OnChecked test (and_then r f)
such_then from test (Ok a) f is h = h a is
such_then from test (Err e) f is h = tt

pub either : {A : Type 0} (test : A → Bool) (b : Bool) (x y : Checked A) → OnChecked test x → OnChecked test y → OnChecked test (cond b x y)
either test true x y hx hy = hx
either test false x y hx hy = hy

-- ---- what a text is compiled to, where a test of its statement decides one of its command and its RETURNING

module _ (is : Statement → Bool) (test : Command → Option Returning → Bool) (meant : (schema : Schema) (p : Parsed) (base : ℕ) → is p.statement ≡ true → OnChecked (λ (found : Command × Option Returning). test found.0 found.1) (meaning schema p base)) where
  abbrev passes : Compiled → Bool
  passes c = test c.command c.returning

  planned_passes : (schema : Schema) (p : Parsed) → is p.statement ≡ true → OnChecked (λ (plan : List Name × (Command × Option Returning)). test plan.1.0 plan.1.1) (planned schema p)
  unfolding planned
  planned_passes schema p h =
      such_then (λ (found : Command × Option Returning). test found.0 found.1) (λ (plan : List Name × (Command × Option Returning)). test plan.1.0 plan.1.1) (meaning schema p _) _ (meant schema p _ h) (λ found k. k)

  of_first : (r : Checked Parsed) → of_parsed is r ≡ true → OnChecked (λ p. is p.statement) r
  of_first (Ok p) h = h
  of_first (Err e) h = tt

  compiled_passes : (schema : Schema) (sql : List ℕ) → of_parsed is (first sql) ≡ true → OnChecked passes (compiled schema sql)
  unfolding compiled
  compiled_passes schema sql h =
      such_then (λ p. is p.statement) passes (first sql) _ (of_first (first sql) h) (λ p k.
      such_then (λ (plan : List Name × (Command × Option Returning)). test plan.1.0 plan.1.1) passes (planned schema p) _ (planned_passes schema p k) (λ plan j. j))

  selected : (r : Result Compiled CompileError) → OnChecked passes r → OnChecked passes (if_select r)
  selected (Ok c) h = either passes (is_select c.command) (Ok c) (Err NoSuchTable) h tt
  selected (Err e) h = tt

  pub understood_passes : (schema : Schema) (sql : List ℕ) → of_parsed is (first sql) ≡ true → OnChecked passes (understood schema sql)
  unfolding understood
  understood_passes schema sql h =
      either passes (reads_listing schema sql) (if_select (compiled listing_schema sql)) (compiled schema sql) (selected (compiled listing_schema sql) (compiled_passes listing_schema sql h)) (compiled_passes schema sql h)

-- ---- a statement that changes rows

insert_keeps : (schema : Schema) (base : ℕ) (name : Name) (columns : List Name) (rows : Rows) → OnChecked keeps_mode (insert schema base name columns rows)
unfolding insert
insert_keeps schema base name columns rows =
    any_then keeps_mode (target schema name) _ (λ at. any_then keeps_mode (table_at schema at) _ (λ table. any_then keeps_mode (new_rows schema table base columns rows) _ (λ s. refl)))

insert_or_keeps : (schema : Schema) (base : ℕ) (way : Conflict) (name : Name) (columns : List Name) (rows : Rows) (clauses : List Upsert) → OnChecked keeps_mode (insert_or schema base way name columns rows clauses)
unfolding insert_or
insert_or_keeps schema base way name columns rows clauses =
    any_then keeps_mode (target schema name) _ (λ at. any_then keeps_mode (table_at schema at) _ (λ table.
    any_then keeps_mode (new_rows schema table base columns rows) _ (λ s. any_then keeps_mode (upserts schema at table base clauses) _ (λ found. refl))))

insert_or_abort_keeps : (schema : Schema) (base : ℕ) (name : Name) (columns : List Name) (rows : Rows) (clauses : List Upsert) → OnChecked keeps_mode (insert_or_abort schema base name columns rows clauses)
unfolding insert_or_abort
insert_or_abort_keeps schema base name columns rows clauses = either keeps_mode (length clauses == 0) _ _ (insert_keeps schema base name columns rows) (insert_or_keeps schema base how.Abort name columns rows clauses)

update_keeps : (schema : Schema) (name : Name) (sets : List (Name × Expr)) (test : Option Expr) → OnChecked keeps_mode (update schema name sets test)
unfolding update
update_keeps schema name sets test =
    any_then keeps_mode (target schema name) _ (λ at. any_then keeps_mode (table_at schema at) _ (λ table.
    any_then keeps_mode (updated schema at table sets test) _ (λ d. any_then keeps_mode (program schema [] d) _ (λ p. refl))))

command_keeps : (schema : Schema) (formats : List Name) (base : ℕ) (s : Statement) → is_change s ≡ true → OnChecked keeps_mode (command schema formats base s)
unfolding command
command_keeps schema formats base (written.Insert conflict.Abort name columns rows clauses shown) is = insert_or_abort_keeps schema base name columns rows clauses
command_keeps schema formats base (written.Insert conflict.Ignore name columns rows clauses shown) is = insert_or_keeps schema base how.Ignore name columns rows clauses
command_keeps schema formats base (written.Insert conflict.Replace name columns rows clauses shown) is = insert_or_keeps schema base how.Replace name columns rows clauses
command_keeps schema formats base (written.Update name sets test shown) is = update_keeps schema name sets test
command_keeps schema formats base _ is = absurd (false≢true is)

meaning_keeps : (schema : Schema) (p : Parsed) (base : ℕ) → is_change p.statement ≡ true → OnChecked (λ (found : Command × Option Returning). keeps_mode found.0) (meaning schema p base)
unfolding meaning
meaning_keeps schema p base is =
    any_then (λ (found : Command × Option Returning). keeps_mode found.0) (returning schema base p.statement) _ (λ shown.
    such_then keeps_mode (λ (found : Command × Option Returning). keeps_mode found.0) (command schema p.formats base p.statement) _ (command_keeps schema p.formats base p.statement is) (λ c h. h))

understood_keeps : (schema : Schema) (sql : List ℕ) → is_change_text sql ≡ true → OnChecked (λ c. keeps_mode c.command) (understood schema sql)
understood_keeps = understood_passes is_change (λ command returning. keeps_mode command) meaning_keeps

-- ---- what it does

mode_of_run : (old new : State) (returning : Option Returning) (command : Command) (text : List ℕ) (params : Row) (count : ℕ) → keeps_mode command ≡ true
    → RunsTo old new returning command text params count → new.in_transaction ≡ old.in_transaction
mode_of_run old new returning (Select q names) text params count is h = absurd h
mode_of_run old new returning (Insert at from) text params count is h = h.shown.mode
mode_of_run old new returning (InsertOr at way from clauses) text params count is h = h.shown.mode
mode_of_run old new returning (Update at q) text params count is h = h.shown.mode
mode_of_run old new returning _ text params count is h = absurd (false≢true is)

-- a call that changed nothing, or that rolled back, leaves no transaction open
pub ended : (old new : State) → old.in_transaction ≡ false → IsUnchanged old new ⊎ IsRolledBack old new → new.in_transaction ≡ false
ended old new autocommit (inl same) = same.0.mode ∙ autocommit
ended old new autocommit (inr undone) = undone.autocommit

pub runs_mode : {A E : Type 0} (sql : List ℕ) (params : Row) (old new : State) (r : Result A E) → is_change_text sql ≡ true → RunsStatement sql params old new r
    → HasCleanDisk new → old.in_transaction ≡ false → new.in_transaction ≡ false
unfolding ExecutesIn
runs_mode sql params old new (Ok x) is runs clean mode =
    let h = (runs.ran clean).1 in
    let kept : keeps_mode h.0.command ≡ true = subst (λ (r : Checked Compiled). OnChecked (λ c. keeps_mode c.command) r) h.1.is (understood_keeps old.now.schema sql is) in
    elim (cases_Bool (shows_rows false h.0)) [
      | inl shows ↦ absurd (let e = (rw shows at h.2).0 in cc)
      | inr hidden ↦ mode_of_run old new _ h.0.command _ _ _ kept (rw hidden at h.2) ∙ mode
    ]
runs_mode sql params old new (Err x) is runs clean mode = let ran = runs.ran clean in ended old new mode (fails_whole old new false sql params ran.0 ran.1)
