-- Keys in order, for private clauses.
use Rattle.std.specs.Borrow.{Bor}
use Rattle.std.specs.Prelude.{◌≢◌, ◌↔◌, ◌++◌, ℕ, AllPairs, List, Contains, Vec, map}
use Rattle.std.specs.Cmp.Lexicographic.{slice_cmp}
use Rattle.std.specs.List.Sorted.{IsSorted}
use Rattle.std.specs.declared.alloc.Global.{Global}
use Rattle.std.specs.Ordering.{nat_cmp}
use Rattle.std.specs.declared.cmp.Ordering.{Ordering}
use Rattle.dnrd_csv.specs.inside.RowKeys.{borrowed_texts}
use Rattle.deposit_verify.specs.References.{column}

-- the order of borrowed texts
abbrev pub borrowed_text_cmp : Bor (List ℕ) → Bor (List ℕ) → Ordering
borrowed_text_cmp one other = slice_cmp nat_cmp one.now other.now

-- texts in memory of their own
abbrev pub owned_texts : List (Vec ℕ Global) → List (List ℕ)
owned_texts keys = map (λ key. key.items) keys

-- keys in order that are those of two lists
pub record AreSortedTexts (keys : List (Bor (List ℕ))) (contained deleted : List (List ℕ)) : Type 0 where
  pub sorted : IsSorted borrowed_text_cmp keys
  pub same : (text : List ℕ) → Contains (borrowed_texts keys) text ↔ Contains (contained ++ deleted) text

-- the keys of rows, in order
pub record AreSortedKeys (keys : List (Bor (List ℕ))) (rows : List (List (List ℕ))) : Type 0 where
  pub sorted : IsSorted borrowed_text_cmp keys
  pub same : (text : List ℕ) → Contains (borrowed_texts keys) text ↔ Contains (column 0 rows) text

-- keys that a deposit contains, each once, and those that it names, in order
pub record AreNamedKeys (contained named : List (Bor (List ℕ))) : Type 0 where
  pub once : AllPairs (λ one other. one ≢ other) (borrowed_texts contained)
  pub among : (text : List ℕ) → Contains (borrowed_texts contained) text → Contains (borrowed_texts named) text
  pub sorted : IsSorted borrowed_text_cmp named
