-- Bits of a word, and bits in words of 64.
use Rattle.std.proofs.Common.{◌≡◌, ◌≢◌, inl, inr, ⊎_elim, ℕ, zero, suc, ◌+◌, ◌-◌, ◌*◌, ◌/◌, ◌%◌, ◌^◌, ◌<◌, ◌≤◌, min, List, [], ◌∷◌, length, refl, sym, ap, ap₂, subst, ◌∙◌, arith}
use Rattle.std.specs.Prelude.{slice_index, slice_set, bit_and, bit_or}
use Rattle.std.specs.Int.{bit_at, w64, trailing_zeros, leading_ones}
use Rattle.std.specs.Int.Count.{count_leading_zeros, leading_of_zero}
use Rattle.std.proofs.Math.Nat.{pow-succ'}
use Rattle.std.proofs.lemmas.Bool.{cases_lt, cases_eq}
use Rattle.std.proofs.lemmas.List.{get_or-set_same, get_or-set_other}
use Rattle.std.proofs.lemmas.Nat.{and_le_l, leading_top}
use Rattle.std.proofs.lemmas.Nat.Bits.{bit_at-suc, bit_at_lowest, bit_at-zero, bit_at_and, bit_at_not, bit_at-trailing_zeros, bit_at_set_same, bit_at_set_other, bit_at_clear_same, bit_at_clear_other, ones_shl, bit_at-lt, bit_at_mask_inside, bit_at_mask_below}
use Rattle.extent_map.specs.Words.{bit, one_count, IsOneIn}
use Rattle.extent_map.specs.Extents.{HasCount, IsFreeRun}

-- ---- one word

-- the bits of a word from a place on
abbrev pub rest_of : ℕ → ℕ → ℕ
rest_of word from = bit_and word (18446744073709551615 * 2 ^ from % 18446744073709551616)

least_one : (a b : ℕ) → a < 2 → b ≡ 1 → min a b ≡ a
least_one a b lt one = omega arith

least_none : (a b : ℕ) → b ≡ 0 → min a b ≡ 0
least_none a b none = omega arith

pub rest_in : (word from i : ℕ) → from < 64 → from ≤ i → i < 64 → bit_at (rest_of word from) i ≡ bit_at word i
rest_in word from i low le high =
    ap (λ m. bit_at (bit_and word m) i) (ones_shl 64 from (omega arith)) ∙ bit_at_and word (2 ^ 64 - 2 ^ from) i
    ∙ least_one (bit_at word i) (bit_at (2 ^ 64 - 2 ^ from) i) (bit_at-lt word i) (bit_at_mask_inside from 64 i le high)

rest_below : (word from i : ℕ) → from < 64 → i < from → bit_at (rest_of word from) i ≡ 0
rest_below word from i low lt =
    ap (λ m. bit_at (bit_and word m) i) (ones_shl 64 from (omega arith)) ∙ bit_at_and word (2 ^ 64 - 2 ^ from) i
    ∙ least_none (bit_at word i) (bit_at (2 ^ 64 - 2 ^ from) i) (bit_at_mask_below from 64 i lt)

-- the place of the lowest 1 from a place on
pub record IsLowest (word from low : ℕ) : Type 0 where
  pub range : (from ≤ low) × (low < 64)
  pub found : bit_at word low ≡ 1
  pub before : (i : ℕ) → from ≤ i → i < low → bit_at word i ≡ 0

pub lowest_is : (word from : ℕ) → from < 64 → word < 18446744073709551616 → 0 < rest_of word from → IsLowest word from (trailing_zeros w64 (rest_of word from))
lowest_is word from low fits some =
    let rest = rest_of word from in
    let small : rest < 18446744073709551616 = let le = and_le_l word (18446744073709551615 * 2 ^ from % 18446744073709551616) in omega arith in
    let it = bit_at-trailing_zeros w64 rest some small in
    let place = trailing_zeros w64 rest in
    let above : from ≤ place = ⊎_elim
    (λ (below : place < from). let clash = sym (rest_below word from place low below) ∙ it.1 in absurd (omega (arith, clash)))
    (λ (le : from ≤ place). le)
    (cases_lt place from) in
    record {
      range = (above, it.0);
      found = sym (rest_in word from place low above it.0) ∙ it.1;
      before = λ i le lt. sym (rest_in word from i low le (omega (arith, lt, it.0))) ∙ it.2 i lt;
    }

pub no_ones : (word from i : ℕ) → from < 64 → rest_of word from ≡ 0 → from ≤ i → i < 64 → bit_at word i ≡ 0
no_ones word from i low none le high = sym (rest_in word from i low le high) ∙ ap (λ n. bit_at n i) none ∙ bit_at-zero i

-- the bits of a word turned over
pub turned : (word i v : ℕ) → word < 18446744073709551616 → i < 64 → bit_at (18446744073709551615 - word) i ≡ v → bit_at word i ≡ 1 - v
turned word i v fits high is =
    let over = bit_at_not w64 word i fits high in
    let small = bit_at-lt word i in
    away (bit_at word i) v small (sym is ∙ over)
  where
    away : (a v : ℕ) → a < 2 → v ≡ 1 - a → a ≡ 1 - v
    away a v lt e = omega arith

-- the highest 1 of a number
top_bit : (j n : ℕ) → 2 ^ j ≤ n → n < 2 ^ suc j → bit_at n j ≡ 1
top_bit zero n le lt = bit_at_lowest n ∙ one n le lt
  where
    one : (n : ℕ) → 2 ^ 0 ≤ n → n < 2 ^ 1 → n % 2 ≡ 1
    one n le lt = omega arith
top_bit (suc j) n le lt = bit_at-suc n j ∙ top_bit j (n / 2) (half_le (2 ^ j) (2 ^ suc j) n (twice j) le) (half_lt (2 ^ suc j) (2 ^ suc (suc j)) n (twice (suc j)) lt)
  where
    twice : (k : ℕ) → 2 ^ suc k ≡ 2 * 2 ^ k
    twice k = pow-succ' 2 k

    half_le : (a b n : ℕ) → b ≡ 2 * a → b ≤ n → a ≤ n / 2
    half_le a b n e le = omega arith

    half_lt : (a b n : ℕ) → b ≡ 2 * a → n < b → n / 2 < a
    half_lt a b n e lt = omega arith

-- behind the highest 0 of a word
pub last_zero : (word : ℕ) → word < 18446744073709551616 → 1 ≤ 64 - leading_ones w64 word → bit_at word (64 - leading_ones w64 word - 1) ≡ 0
last_zero word fits some =
    let over = 18446744073709551615 - word in
    let left : 0 < over = ⊎_elim
    (λ (none : over < 1). let e : over ≡ zero = omega arith in let all = ap (count_leading_zeros 64) e ∙ leading_of_zero 64 in absurd (omega (arith, all, some)))
    (λ (more : 1 ≤ over). more)
    (cases_lt over 1) in
    let top = leading_top 64 over left (omega arith) in
    let place : 64 - leading_ones w64 word - 1 ≡ top.0 = let sum = top.1 in omega (arith, sum) in
    ap (bit_at word) place ∙ turned word top.0 1 fits (let sum = top.1 in omega (arith, sum)) (top_bit top.0 over top.2 top.3)

-- ---- words

pub in_word : (words : List ℕ) (w i : ℕ) → i < 64 → bit words (64 * w + i) ≡ bit_at (slice_index words w) i
in_word words w i lt =
    let quotient : (64 * w + i) / 64 ≡ w = omega arith in
    let rest : (64 * w + i) % 64 ≡ i = omega arith in
    ap₂ (λ q r. bit_at (slice_index words q) r) quotient rest

-- bits of one word that are all the same are so in the words
pub in_words : (words : List ℕ) (w low high v : ℕ) → high ≤ 64 → ((i : ℕ) → low ≤ i → i < high → bit_at (slice_index words w) i ≡ v)
    → (b : ℕ) → 64 * w + low ≤ b → b < 64 * w + high → bit words b ≡ v
in_words words w low high v fits all b from to =
    let place : b ≡ 64 * w + (b - 64 * w) = omega arith in
    ap (bit words) place ∙ in_word words w (b - 64 * w) (omega arith) ∙ all (b - 64 * w) (omega arith) (omega arith)

index_past : (words : List ℕ) (w : ℕ) → length words ≤ w → slice_index words w ≡ 0
index_past [] w le = refl
index_past (x ∷ words) zero le = absurd (omega arith)
index_past (x ∷ words) (suc w) le = index_past words w (omega arith)

-- past the last word no bit is 1
pub past_end : (words : List ℕ) (b : ℕ) → 64 * length words ≤ b → bit words b ≡ 0
past_end words b le = ap (λ n. bit_at n (b % 64)) (index_past words (b / 64) (omega arith)) ∙ bit_at-zero (b % 64)

pub never_both : {n : ℕ} → n ≡ 0 → n ≡ 1 → ⊥
never_both none one = let e = sym none ∙ one in omega (arith, e)

-- a run has no bit that is 0
pub no_run : (words : List ℕ) (start count b : ℕ) → bit words b ≡ 0 → start ≤ b → b < start + count → ¬ IsFreeRun (IsOneIn words) start count
no_run words start count b none from to run = never_both none (run b from to)

-- ---- one bit is changed

pub set_here : (words : List ℕ) (b : ℕ) → b < 64 * length words → bit (slice_set words (b / 64) (bit_or (slice_index words (b / 64)) (1 * 2 ^ (b % 64) % 18446744073709551616))) b ≡ 1
set_here words b within =
    ap (λ n. bit_at n (b % 64)) (get_or-set_same words (b / 64) _ 0 (omega arith)) ∙ bit_at_set_same w64 (slice_index words (b / 64)) (b % 64) (omega arith)

pub clear_here : (words : List ℕ) (b : ℕ) → b < 64 * length words
    → bit (slice_set words (b / 64) (bit_and (slice_index words (b / 64)) (18446744073709551615 - 1 * 2 ^ (b % 64) % 18446744073709551616))) b ≡ 0
clear_here words b within =
    ap (λ n. bit_at n (b % 64)) (get_or-set_same words (b / 64) _ 0 (omega arith)) ∙ bit_at_clear_same w64 (slice_index words (b / 64)) (b % 64) (omega arith)

-- the other bits stay, where those of the word do
elsewhere : (words : List ℕ) (b value : ℕ) → b < 64 * length words → ((i : ℕ) → i < 64 → i ≢ b % 64 → bit_at value i ≡ bit_at (slice_index words (b / 64)) i)
    → (c : ℕ) → c ≢ b → bit (slice_set words (b / 64) value) c ≡ bit words c
elsewhere words b value within kept c other = ⊎_elim
    (λ (same : c / 64 ≡ b / 64).
    let place : c % 64 ≢ b % 64 = λ e. other (omega (arith, same, e)) in
    ap (λ q. bit_at (slice_index (slice_set words (b / 64) value) q) (c % 64)) same
    ∙ ap (λ n. bit_at n (c % 64)) (get_or-set_same words (b / 64) value 0 (omega arith))
    ∙ kept (c % 64) (omega arith) place
    ∙ ap (λ q. bit_at (slice_index words q) (c % 64)) (sym same))
    (λ (apart : c / 64 ≢ b / 64). ap (λ n. bit_at n (c % 64)) (get_or-set_other words (b / 64) (c / 64) value 0 apart))
    (cases_eq (c / 64) (b / 64))

pub set_elsewhere : (words : List ℕ) (b : ℕ) → b < 64 * length words → (c : ℕ) → c ≢ b
    → bit (slice_set words (b / 64) (bit_or (slice_index words (b / 64)) (1 * 2 ^ (b % 64) % 18446744073709551616))) c ≡ bit words c
set_elsewhere words b within = elsewhere words b _ within (λ i lt other. bit_at_set_other w64 (slice_index words (b / 64)) (b % 64) (omega arith) i other)

pub clear_elsewhere : (words : List ℕ) (b : ℕ) → b < 64 * length words → (c : ℕ) → c ≢ b
    → bit (slice_set words (b / 64) (bit_and (slice_index words (b / 64)) (18446744073709551615 - 1 * 2 ^ (b % 64) % 18446744073709551616))) c ≡ bit words c
clear_elsewhere words b within = elsewhere words b _ within (λ i lt other. bit_at_clear_other w64 (slice_index words (b / 64)) (b % 64) (omega arith) i lt other)

-- ---- how many are 1

pub ones_same : (xs ys : List ℕ) (n : ℕ) → ((c : ℕ) → c < n → bit xs c ≡ bit ys c) → one_count xs n ≡ one_count ys n
ones_same xs ys zero same = refl
ones_same xs ys (suc n) same = ap₂ (λ a b. a + b) (same n (omega arith)) (ones_same xs ys n (λ c lt. same c (omega arith)))

pub ones_more : (xs ys : List ℕ) (k n : ℕ) → k < n → bit xs k ≡ 0 → bit ys k ≡ 1 → ((c : ℕ) → c ≢ k → bit ys c ≡ bit xs c) → one_count ys n ≡ one_count xs n + 1
ones_more xs ys k zero lt none one others = absurd (omega arith)
ones_more xs ys k (suc n) lt none one others = ⊎_elim
    (λ (same : k ≡ n).
    let before = ones_same ys xs n (λ c low. others c (λ e. omega (arith, e, same, low))) in
    let here : bit ys n ≡ 1 = ap (bit ys) (sym same) ∙ one in
    let was : bit xs n ≡ 0 = ap (bit xs) (sym same) ∙ none in
    sum_more (bit ys n) (one_count ys n) (bit xs n) (one_count xs n) here was before)
    (λ (apart : k ≢ n).
    let before = ones_more xs ys k n (omega (arith, lt, apart)) none one others in
    let here = others n (λ e. apart (sym e)) in
    sum_later (bit ys n) (one_count ys n) (bit xs n) (one_count xs n) here before)
    (cases_eq k n)
  where
    sum_more : (a b c d : ℕ) → a ≡ 1 → c ≡ 0 → b ≡ d → a + b ≡ c + d + 1
    sum_more a b c d p q r = omega arith

    sum_later : (a b c d : ℕ) → a ≡ c → b ≡ d + 1 → a + b ≡ c + d + 1
    sum_later a b c d p q = omega arith

pub no_ones_below : (words : List ℕ) (n : ℕ) → ((c : ℕ) → bit words c ≡ 0) → one_count words n ≡ 0
no_ones_below words zero none = refl
no_ones_below words (suc n) none = ap₂ (λ a b. a + b) (none n) (no_ones_below words n none)

pub has_count : (words : List ℕ) (n : ℕ) → HasCount (IsOneIn words) n (one_count words n)
has_count words zero = refl
has_count words (suc n) = ⊎_elim
    (λ (one : bit words n ≡ 1). inl (one, one_count words n, plus (bit words n) (one_count words n) one, has_count words n))
    (λ (other : bit words n ≢ 1).
    let none = rest (bit words n) (bit_at-lt (slice_index words (n / 64)) (n % 64)) other in
    inr (other, subst (HasCount (IsOneIn words) n) (sym (same (bit words n) (one_count words n) none)) (has_count words n)))
    (cases_eq (bit words n) 1)
  where
    plus : (a b : ℕ) → a ≡ 1 → a + b ≡ b + 1
    plus a b e = omega arith

    same : (a b : ℕ) → a ≡ 0 → a + b ≡ b
    same a b e = omega arith

    rest : (a : ℕ) → a < 2 → a ≢ 1 → a ≡ 0
    rest a lt other = omega arith

pub ones_le : (words : List ℕ) (n : ℕ) → one_count words n ≤ n
ones_le words zero = omega arith
ones_le words (suc n) = sum_le (bit words n) (one_count words n) n (bit_at-lt (slice_index words (n / 64)) (n % 64)) (ones_le words n)
  where
    sum_le : (a b n : ℕ) → a < 2 → b ≤ n → a + b ≤ suc n
    sum_le a b n lt le = omega arith

pub none_is : (words : List ℕ) (b : ℕ) → ¬ IsOneIn words b → bit words b ≡ 0
none_is words b other = rest (bit words b) (bit_at-lt (slice_index words (b / 64)) (b % 64)) other
  where
    rest : (a : ℕ) → a < 2 → (a ≡ 1 → ⊥) → a ≡ 0
    rest a lt other = ⊎_elim (λ (one : a ≡ 1). absurd (other one)) (λ (no : a ≢ 1). let e = no in omega (arith, e)) (cases_eq a 1)

-- ---- after one more bit of a run

pub run_grows : (xs ys zs : List ℕ) (start b n count : ℕ) → start ≤ b → b < n → bit ys b ≡ 0 → bit zs b ≡ 1 → ((c : ℕ) → c ≢ b → bit zs c ≡ bit ys c)
    → one_count ys n ≡ one_count xs n + (b - start) → one_count zs n ≡ one_count xs n + (b + 1 - start)
run_grows xs ys zs start b n count low lt none one others before = let more = ones_more ys zs b n lt none one others in omega arith

pub run_falls : (xs ys zs : List ℕ) (start b n count : ℕ) → start ≤ b → b < n → bit ys b ≡ 1 → bit zs b ≡ 0 → ((c : ℕ) → c ≢ b → bit zs c ≡ bit ys c)
    → one_count ys n + (b - start) ≡ one_count xs n → one_count zs n + (b + 1 - start) ≡ one_count xs n
run_falls xs ys zs start b n count low lt one none others before = let more = ones_more zs ys b n lt none one (λ c other. sym (others c other)) in omega arith
