-- Rows in order are one list.
use Rattle.std.proofs.Common.{◌≡◌, ◌↔◌, ◌<◌, ◌∷◌, ◌∙◌, [], ℕ, Contains, List, ap, arith, get_or, inl, inr, length, refl, suc, sym, zero}
use Rattle.std.specs.declared.cmp.Ordering.TheVariants.{Less}
use Rattle.std.proofs.lemmas.Cmp.{tied_itself}
use Rattle.dnrd_csv.specs.inside.RowKeys.{Ascend, key_cmp}
use Rattle.dnrd_csv.proofs.KeyLemmas.{key_order}
use Rattle.deposit_tables.specs.Restored.{AreTablesOf}
use Rattle.deposit_name.specs.declared.table.TableName.{TableName}
use Rattle.deposit_tables.proofs.Decisions.{Rows, Tables, contains_cases, contains_here, contains_later, nothing}

not_below_itself : (row : List (List ℕ)) → key_cmp row row ≡ Less → ⊥
not_below_itself row less = let tied = tied_itself key_order row in cc (less, tied)

not_both : (one other : List (List ℕ)) → key_cmp one other ≡ Less → key_cmp other one ≡ Less → ⊥
not_both one other less back = not_below_itself one (key_order.trans one other one less back)

-- the first is below each later one
first_below : (x : List (List ℕ)) (xs : Rows) → Ascend (x ∷ xs) → (q : List (List ℕ)) → Contains xs q → key_cmp x q ≡ Less
first_below x xs up q has =
    let inside : suc has.0 < length (x ∷ xs) = let h = has.1 in omega (arith, h) in
    let less : key_cmp x (get_or xs has.0 q) ≡ Less = up zero (suc has.0) q (omega arith) inside in
    ap (key_cmp x) (sym has.2) ∙ less

rest_ascends : (x : List (List ℕ)) (xs : Rows) → Ascend (x ∷ xs) → Ascend xs
rest_ascends x xs up = λ i j d below inside. up (suc i) (suc j) d (omega (arith, below)) (omega (arith, inside))

abbrev AreSame : Rows → Rows → Type 0
AreSame xs ys = (row : List (List ℕ)) → Contains xs row ↔ Contains ys row

-- rows that ascend and are the same have one first
same_first : (x y : List (List ℕ)) (xs ys : Rows) → Ascend (x ∷ xs) → Ascend (y ∷ ys) → AreSame (x ∷ xs) (y ∷ ys) → x ≡ y
same_first x y xs ys up_x up_y same = elim (contains_cases y ys x ((same x).0 (contains_here x xs))) [
  | inl is ↦ sym is
  | inr later ↦ elim (contains_cases x xs y ((same y).1 (contains_here y ys))) [
    | inl is ↦ is
    | inr other ↦ absurd (not_both x y (first_below x xs up_x y other) (first_below y ys up_y x later))
  ]
]

tail_in : (x y : List (List ℕ)) (xs ys : Rows) → x ≡ y → Ascend (x ∷ xs) → ((row : List (List ℕ)) → Contains (x ∷ xs) row → Contains (y ∷ ys) row)
    → (row : List (List ℕ)) → Contains xs row → Contains ys row
tail_in x y xs ys is up all row has = elim (contains_cases y ys row (all row (contains_later x xs row has))) [
  | inr there ↦ there
  | inl same ↦
      let less = first_below x xs up row has in
      let equal : row ≡ x = sym same ∙ sym is in
      absurd (not_below_itself x (ap (key_cmp x) (sym equal) ∙ less))
]

pub one_list : (xs ys : Rows) → Ascend xs → Ascend ys → AreSame xs ys → xs ≡ ys
one_list [] [] up_x up_y same = refl
one_list [] (y ∷ ys) up_x up_y same = absurd (nothing y ((same y).1 (contains_here y ys)))
one_list (x ∷ xs) [] up_x up_y same = absurd (nothing x ((same x).0 (contains_here x xs)))
one_list (x ∷ xs) (y ∷ ys) up_x up_y same =
    let first = same_first x y xs ys up_x up_y same in
    let rest = one_list xs ys (rest_ascends x xs up_x) (rest_ascends y ys up_y) (λ row. (
      tail_in x y xs ys first up_x (λ r has. (same r).0 has) row,
      tail_in y x ys xs (sym first) up_y (λ r has. (same r).1 has) row,
    )) in
    λ i. first i ∷ rest i

pub only_tables : (chain : List (List ℕ)) (tables others : Tables) → AreTablesOf chain tables → AreTablesOf chain others → (name : TableName) → tables name ≡ others name
only_tables chain tables others is are name =
    one_list (tables name) (others name) (is.rows name).ascend (are.rows name).ascend
    (λ row. (λ has. ((are.rows name).same row).1 (((is.rows name).same row).0 has), λ has. ((is.rows name).same row).1 (((are.rows name).same row).0 has)))
