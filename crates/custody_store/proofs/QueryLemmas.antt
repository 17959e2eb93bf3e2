-- A query commits nothing, whatever the schema.
use Rattle.std.proofs.Common.{◌≡◌, ℕ, List, Bool, true, false, Option, None, Some, Ok, Err, Result, refl, sym, subst}
use Rattle.std.specs.Prelude.{is_none, IsSome}
use Rattle.std.proofs.lemmas.Bool.{false≢true}
use Rattle.sqlite.specs.Order.{Row}
use Rattle.sqlite.specs.Given.{Returns}
use Rattle.sqlite.specs.Listing.{understood}
use Rattle.sqlite.specs.State.{State, CommitsShowing}
use Rattle.sqlite.specs.Tree.{Trees}
use Rattle.sqlite_ast.specs.declared.Statement.{Statement}
use Rattle.sqlite_ast.specs.declared.Statement.TheVariants as written
use Rattle.sqlite_schema.specs.declared.schema.Schema.{Schema}
use Rattle.sqlite_schema.specs.declared.command.Command.{Command}
use Rattle.sqlite_schema.specs.declared.command.Returning.{Returning}
use Rattle.sqlite_syntax.specs.declared.statement.Parsed.{Parsed}
use Rattle.sqlite_resolve.specs.declared.compiled.Compiled.{Compiled}
use Rattle.sqlite_resolve.specs.declared.error.CompileError.{CompileError}
use Rattle.sqlite_resolve.specs.Lowering.{Checked}
use Rattle.sqlite_resolve.specs.Compile.{first, meaning, returning, command}
use Rattle.custody_store.proofs.ModeLemmas.{OnChecked, any_then, such_then, of_parsed, understood_passes}

abbrev is_query : Statement → Bool
is_query (written.Select s) = true
is_query _ = false

-- the text is a SELECT
abbrev pub is_query_text : List ℕ → Bool
is_query_text sql = of_parsed is_query (first sql)

shows_none : (schema : Schema) (base : ℕ) (s : Statement) → is_query s ≡ true → OnChecked is_none (returning schema base s)
unfolding returning
shows_none schema base (written.Select s) is = refl
shows_none schema base _ is = absurd (false≢true is)

meaning_none : (schema : Schema) (p : Parsed) (base : ℕ) → is_query p.statement ≡ true → OnChecked (λ (found : Command × Option Returning). is_none found.1) (meaning schema p base)
unfolding meaning
meaning_none schema p base is =
    such_then is_none (λ (found : Command × Option Returning). is_none found.1) (returning schema base p.statement) _ (shows_none schema base p.statement is) (λ shown h.
    any_then (λ (found : Command × Option Returning). is_none found.1) (command schema p.formats base p.statement) _ (λ c. h))

understood_none : (schema : Schema) (sql : List ℕ) → is_query_text sql ≡ true → OnChecked (λ c. is_none c.returning) (understood schema sql)
understood_none = understood_passes is_query (λ command returning. is_none returning) meaning_none

is_none_none : {X : Type 0} (o : Option X) → is_none o ≡ true → o ≡ None
is_none_none None is = refl
is_none_none (Some x) is = absurd (false≢true is)

-- a query has no RETURNING
pub query_returns_none : (sql : List ℕ) (schema : Schema) → is_query_text sql ≡ true → (c : Compiled) → understood schema sql ≡ Ok c → c.returning ≡ None
query_returns_none sql schema is c known = is_none_none c.returning (subst (λ (r : Checked Compiled). OnChecked (λ c. is_none c.returning) r) known (understood_none schema sql is))

none_is_some : {X : Type 0} (o : Option X) → o ≡ None → IsSome o → ⊥
none_is_some None is some = absurd (false≢true some)
none_is_some (Some x) is some = absurd (let none = is in cc)

-- so it never gives rows of a write
pub query_never_returns : (sql : List ℕ) (schema : Schema) → is_query_text sql ≡ true → ¬ Returns (understood schema sql)
query_never_returns sql schema is = by (understood schema sql) refl
  where
    by : (r : Result Compiled CompileError) → understood schema sql ≡ r → ¬ Returns r
    by (Ok c) known some = none_is_some c.returning (query_returns_none sql schema is c known) some
    by (Err e) known some = some

-- ---- a text that never gives rows of a write

some_or_none : {X : Type 0} (o : Option X) → ¬ IsSome o → o ≡ None
some_or_none None silent = refl
some_or_none (Some x) silent = absurd (silent refl)

pub silent_returns_none : (sql : List ℕ) (schema : Schema) → ¬ Returns (understood schema sql) → (c : Compiled) → understood schema sql ≡ Ok c → c.returning ≡ None
silent_returns_none sql schema silent c known = some_or_none c.returning (λ some. silent (subst Returns (sym known) some))

pub silent_commits_nothing : (sql : List ℕ) (params : Row) (s : State) (db : Trees) → ¬ Returns (understood s.now.schema sql) → ¬ CommitsShowing sql params s db
unfolding CommitsShowing
silent_commits_nothing sql params s db silent h = silent (subst Returns (sym h.1.is) h.2)
