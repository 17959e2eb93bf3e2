-- What one call of the database does, whatever its error is told as.
use Rattle.std.specs.Prelude.{◌≡◌, ◌⊎◌, ℕ, List, [], ◌∷◌, Vec, true, false, Result, Ok, Err, IsTrue, MatchResult, OnOk, OnErr}
use Rattle.std.specs.declared.alloc.Global.{Global}
use Rattle.sqlite.specs.Order.{Row}
use Rattle.sqlite.specs.Tree.{Trees}
use Rattle.sqlite.specs.declared.error.Error.{Error}
use Rattle.sqlite.specs.State.{State, HasCleanDisk, Survives, Executes, ExecutesInside, CommitsBy, CommitsShowing, FailsToQuery, Shows, Shown as Answered}
use Rattle.sqlite.specs.Store.{Ghosts}
use Rattle.sqlite.specs.Held.{Held, state}

-- while a database is open a stop leaves what was committed last: a law of every store
abbrev pub LeavesCommitted : State → Type 0
LeavesCommitted s = (db : Trees) → IsTrue s.is_open → s.may_leave db → db ≡ s.committed.trees

-- one statement that is no query
pub record RunsStatement {A E : Type 0} (sql : List ℕ) (params : Row) (old new : State) (result : Result A E) : Type 0 where
  pub settled : LeavesCommitted new
  pub survives : Survives old new (CommitsBy sql params old)
  pub ran : HasCleanDisk new → MatchResult result (λ _. (count : ℕ) × Executes sql params old new (Ok count)) (λ _. (e : Error) × Executes sql params old new (Err e))

-- a statement by its text and its values
abbrev pub SqlStatement : Type 0
SqlStatement = List ℕ × Row

-- these statements ran in their turn inside a transaction
abbrev pub AreRun : {S : Type 0} → Ghosts S → List SqlStatement → Held S → Held S → Type 0
AreRun g [] old new = old ≡ new
AreRun {S = S} g (it ∷ rest) old new = (count : ℕ) × (next : Held S) × ExecutesInside 0 it.0 it.1 (state g old) (state g next) (Ok count) × AreRun g rest next new

-- One transaction of these statements, whole or not at all, over a database with no transaction open and all of it committed.
pub record RunsTogether {S A E : Type 0} (g : Ghosts S) (statements : List SqlStatement) (old new : Held S) (result : Result A E) : Type 0 where
  pub done : HasCleanDisk (state g new)
      → OnOk result ((last : Held S) × AreRun g statements (record old { in_transaction = true }) last × Shows (state g last) (state g new) (state g last).now (state g last).now false)
  pub kept : HasCleanDisk (state g new) → (state g old).in_transaction ≡ false → (state g old).committed ≡ (state g old).now
      → OnErr result (IsTrue (state g new).is_open → ((state g new).now ≡ (state g old).now) × ((state g new).committed ≡ (state g old).now))
  -- a stop leaves what it left before, or what they made
  pub left : HasCleanDisk (state g new) → (db : Trees) → (state g new).may_leave db
      → (state g old).may_leave db ⊎ ((last : Held S) × AreRun g statements (record old { in_transaction = true }) last × (db ≡ (state g last).now.trees))

-- one query without parameters, with these rows of an answer
pub record RunsQuery {A E : Type 0} (sql : List ℕ) (rows_of : A → List Row) (old new : State) (result : Result A E) : Type 0 where
  pub settled : LeavesCommitted new
  pub survives : Survives old new (CommitsShowing sql [] old)
  pub mode : old.in_transaction ≡ false → new.in_transaction ≡ false
  pub asked : HasCleanDisk new → MatchResult result (λ a. Answered sql [] old new (rows_of a)) (λ _. (e : Error) × FailsToQuery sql [] old new e)

-- the items of a vector of rows
abbrev pub row_items : Vec Row Global → List Row
row_items rows = rows.items
