-- Rows in the order of their keys, seen as a finite map.
use Rattle.std.specs.Prelude.{◌<◌, List, [], ◌∷◌, Bool, true, ◌&&◌, Vec, vec_len, vec_capacity}
use Rattle.std.specs.declared.alloc.Global.{Global}
use Rattle.std.specs.Ordering.{is_lt}
use Rattle.std.specs.declared.cmp.Ordering.{Ordering}
use Rattle.std.specs.FinMap.{FinMap, from_sorted}

-- each row as its key and its value
abbrev pub row_entries : {T K X : Type 0} → (T → K) → (T → X) → List T → List (K × X)
row_entries key value [] = []
row_entries key value (row ∷ rows) = (key row, value row) ∷ row_entries key value rows

abbrev pub is_below_all : {T K : Type 0} → (K → K → Ordering) → (T → K) → K → List T → Bool
is_below_all order key low [] = true
is_below_all order key low (row ∷ rows) = is_lt (order low (key row)) && is_below_all order key low rows

-- the keys strictly rise
abbrev pub is_rising : {T K : Type 0} → (K → K → Ordering) → (T → K) → List T → Bool
is_rising order key [] = true
is_rising order key (row ∷ rows) = is_below_all order key (key row) rows && is_rising order key rows

-- the map of rows that rise
unfoldable pub table_map : {T K X : Type 0} (order : K → K → Ordering) → (T → K) → (T → X) → List T → FinMap order X
table_map order key value rows = from_sorted (row_entries key value rows)

-- room for one row more, which is taken without memory
abbrev pub HasRoom : {T : Type 0} → Vec T Global → Type 0
HasRoom rows = vec_len rows < vec_capacity rows
