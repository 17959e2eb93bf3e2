-- The places of rows that are sorted, for private clauses.
use Rattle.std.specs.Prelude.{◌<◌, ◌↔◌, Bool, ℕ, List, [], ◌∷◌, Contains, get_or}
use Rattle.std.specs.Ordering.{is_lt}
use Rattle.deposit_tables.specs.Restored.{RowsAscend, row_cmp}

-- the fields of a row, and empty ones behind them, six in all
abbrev pub six_fields : List (List ℕ) → List (List ℕ)
six_fields row = get_or row 0 [] ∷ get_or row 1 [] ∷ get_or row 2 [] ∷ get_or row 3 [] ∷ get_or row 4 [] ∷ get_or row 5 [] ∷ []

-- the row at one place is below that at another
abbrev pub is_below : List (List (List ℕ)) → ℕ → ℕ → Bool
is_below rows one other = is_lt (row_cmp (six_fields (get_or rows one [])) (six_fields (get_or rows other [])))

-- they are the places of so many rows, in any order
abbrev pub ArePlaces : ℕ → List ℕ → Type 0
ArePlaces count places = (place : ℕ) → Contains places place ↔ place < count

-- the same rows, in ascending order
pub record AreSorted (rows sorted : List (List (List ℕ))) : Type 0 where
  pub ascend : RowsAscend sorted
  pub same : (row : List (List ℕ)) → Contains sorted row ↔ Contains rows row
