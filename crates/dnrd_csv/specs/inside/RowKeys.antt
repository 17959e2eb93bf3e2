-- Keys of rows, for private clauses.
use Rattle.std.specs.Borrow.{Bor}
use Rattle.std.specs.Prelude.{◌≡◌, ◌+◌, ◌<◌, ℕ, List, [], ◌∷◌, ◌++◌, AllPairs, get_or, length, map, take}
use Rattle.std.specs.Cmp.Lexicographic.{slice_cmp}
use Rattle.std.specs.Ordering.{nat_cmp}
use Rattle.std.specs.declared.cmp.Ordering.{Ordering}
use Rattle.std.specs.declared.cmp.Ordering.TheVariants.{Less}

-- the texts of fields that are borrowed
abbrev pub borrowed_texts : List (Bor (List ℕ)) → List (List ℕ)
borrowed_texts fields = map (λ field. field.now) fields

-- a key with empty fields after it, three in all
abbrev pub padded_key : List (List ℕ) → List (List ℕ)
padded_key key = take 3 (key ++ [] ∷ [] ∷ [])

-- the keys of rows
abbrev pub keys_of : ℕ → List (List (List ℕ)) → List (List (List ℕ))
keys_of key rows = map padded_key (map (take key) rows)

-- the order of keys
abbrev pub key_cmp : List (List ℕ) → List (List ℕ) → Ordering
key_cmp = slice_cmp (slice_cmp nat_cmp)

-- each key is below those after it
abbrev pub Ascend : List (List (List ℕ)) → Type 0
Ascend keys = AllPairs (λ one other. key_cmp one other ≡ Less) keys

-- the texts of a borrowed key that stands with the place of its row
abbrev pub key_texts : List (Bor (List ℕ)) × ℕ → List (List ℕ)
key_texts placed = borrowed_texts placed.0

-- each stands at the place that stands with it
abbrev pub AreAtTheirPlaces : List (List (Bor (List ℕ)) × ℕ) → Type 0
AreAtTheirPlaces placed = (i : ℕ) (d : List (Bor (List ℕ)) × ℕ) → i < length placed → (get_or placed i d).1 ≡ i

-- a row and an earlier one stand beside each other with one key
abbrev pub AreNeighbours : List (List (Bor (List ℕ)) × ℕ) → ℕ → ℕ → Type 0
AreNeighbours placed row earlier =
    (k : ℕ) × (k + 1 < length placed) × ((d : List (Bor (List ℕ)) × ℕ) →
    (key_texts (get_or placed k d) ≡ key_texts (get_or placed (k + 1) d)) × ((get_or placed k d).1 ≡ earlier) × ((get_or placed (k + 1) d).1 ≡ row))
