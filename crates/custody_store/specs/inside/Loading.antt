-- The rows that a query answers, read as records.
use Rattle.std.specs.Prelude.{◌≡◌, ◌⊎◌, ℕ, List, [], ◌∷◌, ◌++◌, map, Option, Some, None, Result, MatchResult, Vec}
use Rattle.std.specs.declared.alloc.Global.{Global}
use Rattle.std.specs.declared.cmp.Ordering.{Ordering}
use Rattle.sqlite.specs.Order.{Row}
use Rattle.sqlite.specs.State.{State, Begins, Shown as Answered}
use Rattle.custody_records.specs.declared.damage.RowDamage.TheVariants as damage
use Rattle.custody_records.specs.declared.errors.RowError.{RowError}
use Rattle.custody_records.specs.declared.errors.RowError.TheVariants as row_error
use Rattle.custody_records.specs.Form.{gathered_table, keyed_map}
use Rattle.custody_store.specs.declared.faults.StoreFault.{StoreFault}
use Rattle.custody_store.specs.declared.faults.StoreFault.TheVariants.{Failed, Damaged}

-- the fault of a row that becomes no record
abbrev pub fault_of : RowError → StoreFault
fault_of row_error.OutOfForm = Damaged damage.Form
fault_of row_error.NoMemory = Failed

-- the call failed, or a row is out of form
abbrev pub IsFormFault : StoreFault → Type 0
IsFormFault fault = (fault ≡ Failed) ⊎ (fault ≡ Damaged damage.Form)

-- The rows of a table stand for these records, in any order; or a row is out of form.
abbrev pub ReadsTable : {T X K R : Type 0} (order : K → K → Ordering) → (X → Option (K × R)) → (T → K) → (T → R) → Option (List X) → Result (Vec T Global) StoreFault → Type 0
ReadsTable {T} {X} {K} {R} order read key value rows result = MatchResult result
    (λ list. gathered_table {X = X} {K = K} {R = R} {order = order} read rows ≡ keyed_map order key value list.items)
    (λ fault. fault ≡ Damaged damage.Form → gathered_table {X = X} {K = K} {R = R} {order = order} read rows ≡ None)

module _ {T X K R : Type 0} (read : X → Option (K × R)) (key : T → K) (value : T → R) (answered : Row → X) (sql : List ℕ) where
  -- the rows of an answer are those of these records
  abbrev pub ReadsAnswer : (old new : State) → List T → Type 0
  ReadsAnswer old new list = (rows : List Row) × Answered sql [] old new rows × (map (λ row. read (answered row)) rows ≡ map (λ it. Some (key it, value it)) list)

  -- a row among the first of an answer is out of form
  abbrev pub ReadsNoAnswer : (old : State) → Type 0
  ReadsNoAnswer old = (rows : List Row) × (row : Row) × Begins sql [] old (rows ++ row ∷ []) × (read (answered row) ≡ None)
