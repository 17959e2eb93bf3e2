-- Tables that are replaced one after the other.
use Rattle.std.proofs.Common.{◌≡◌, ◌⊎◌, ◌≤◌, ◌<◌, ◌+◌, ◌∙◌, [], ℕ, List, ap, arith, get_or, inl, inr, length, refl, slice_set, subst, sym}
use Rattle.std.proofs.lemmas.List.{get_or-set_other, get_or-set_same, length-set}
use Rattle.deposit_name.specs.declared.table.TableName.{TableName}
use Rattle.deposit_verify.specs.Places.{table_place}
use Rattle.deposit_verify.specs.Tables.{table_of}
use Rattle.deposit_verify.proofs.HeaderDecided.{same_place}
use Rattle.deposit_tables.proofs.Decisions.{Rows}
use Rattle.deposit_tables.proofs.TablesThen.{place_below}

-- those before a place are as is wanted, and the others as they were
pub record AreTaken (old now : List Rows) (P : TableName → Rows → Type 0) (place : ℕ) : Type 0 where
  pub count : length now ≡ 8
  pub done : (name : TableName) → table_place name < place → P name (table_of now name)
  pub rest : (name : TableName) → place ≤ table_place name → table_of now name ≡ table_of old name

pub none_taken : (old : List Rows) (P : TableName → Rows → Type 0) → length old ≡ 8 → AreTaken old old P 0
none_taken old P eight = record { count = eight; done = λ name below. absurd (omega (arith, below)); rest = λ name above. refl }

tell : (m n : ℕ) → (m < n) ⊎ ((m ≡ n) ⊎ (n < m))
tell m n = grind arith

module _ (old now : List Rows) (P : TableName → Rows → Type 0) (place : ℕ) (name : TableName) (rows : Rows) (are : AreTaken old now P place) (here : table_place name ≡ place) where
  inside : place < length now
  inside = let below = place_below name in let eight = are.count in omega (arith, below, eight, here)

  at_name : table_of (slice_set now place rows) name ≡ rows
  at_name = ap (λ (k : ℕ). get_or (slice_set now place rows) k []) here ∙ get_or-set_same now place rows [] inside

  elsewhere : (other : TableName) → (table_place other ≡ place → ⊥) → table_of (slice_set now place rows) other ≡ table_of now other
  elsewhere other apart = get_or-set_other now place (table_place other) rows [] apart

  -- the table at the place is replaced
  pub one_taken : P name rows → AreTaken old (slice_set now place rows) P (place + 1)
  one_taken holds = record {
    count = length-set now place rows ∙ are.count;
    done = λ other below. by other (tell (table_place other) place) below;
    rest = λ other above. elsewhere other (λ same. absurd (omega (arith, same, above))) ∙ are.rest other (omega (arith, above));
  }
    where
      by : (other : TableName) → (table_place other < place) ⊎ ((table_place other ≡ place) ⊎ (place < table_place other)) → table_place other < place + 1 → P other (table_of (slice_set now place rows) other)
      by other (inl before) below = subst (P other) (sym (elsewhere other (λ same. absurd (omega (arith, same, before))))) (are.done other before)
      by other (inr (inl same)) below = subst (λ (n : TableName). P n (table_of (slice_set now place rows) n)) (same_place name other (here ∙ sym same)) (subst (P name) (sym at_name) holds)
      by other (inr (inr above)) below = absurd (omega (arith, above, below))

  -- before, it is as it was
  pub as_before : table_of now name ≡ table_of old name
  as_before = are.rest name (omega (arith, here))

pub all_taken : (old now : List Rows) (P : TableName → Rows → Type 0) (place : ℕ) → AreTaken old now P place → 8 ≤ place → (name : TableName) → P name (table_of now name)
all_taken old now P place are over name = let below = place_below name in are.done name (omega (arith, below, over))
