-- The keys of the objects that a deposit renews.
use Rattle.std.proofs.Common.{◌≡◌, ◌↔◌, ◌≤◌, ◌++◌, ◌∷◌, ◌∙◌, [], ℕ, Contains, List, ap, append_assoc, arith, filter, length, not, refl, subst}
use Rattle.std.proofs.lemmas.Bool.Decides.{Decides-like, same_from_decides}
use Rattle.std.proofs.lemmas.List.Elements.{filter_agree}
use Rattle.deposit_name.specs.declared.table.TableName.{TableName}
use Rattle.deposit_name.specs.declared.table.TableName.TheVariants.{Domain}
use Rattle.dnrd_csv.specs.Table.{columns_of}
use Rattle.deposit_verify.specs.References.{column}
use Rattle.deposit_verify.proofs.KeyCounts.{member_decides}
use Rattle.deposit_tables.specs.Owners.{owner_key}
use Rattle.deposit_tables.specs.RowsAfter.{is_kept, rows_after}
use Rattle.std.specs.Borrow.{Bor}
use Rattle.std.specs.List.Sorted.{IsPermutation}
use Rattle.std.proofs.lemmas.List.{map-append}
use Rattle.dnrd_csv.specs.inside.RowKeys.{borrowed_texts}
use Rattle.deposit_verify.proofs.Searches.{permuted_texts}
use Rattle.deposit_tables.proofs.Decisions.{Rows}

-- no keys are those of no rows
pub nil_column : (rows : Rows) → [] ≡ column 0 rows → rows ≡ []
nil_column [] e = refl
nil_column (row ∷ rows) e = cc e

pub two_columns : (name : TableName) → 2 ≤ length (columns_of name)
two_columns Domain = omega arith
two_columns _ = omega arith

abbrev AreSameKeys : List (List ℕ) → List (List ℕ) → Type 0
AreSameKeys one other = (key : List ℕ) → Contains one key ↔ Contains other key

-- the same objects renew the same rows
pub after_same : (before contained other : Rows) (a b : List (List ℕ)) → contained ≡ other → AreSameKeys a b → rows_after before contained a ≡ rows_after before other b
after_same before contained other a b is same =
    ap (λ (xs : Rows). xs ++ contained) (filter_agree (is_kept a) (is_kept b) (λ row.
    ap not (same_from_decides _ _ (member_decides a (owner_key row)) (Decides-like _ (λ has. (same (owner_key row)).1 has) (λ has. (same (owner_key row)).0 has) (member_decides b (owner_key row))))) before)
    ∙ ap (λ (xs : Rows). filter (is_kept b) before ++ xs) is

-- three lists of keys in one, in another order
pub renewed_sorted : (own contained gone all sorted : List (Bor (List ℕ))) (a b g : List (List ℕ)) → all ≡ (own ++ contained) ++ gone → IsPermutation all sorted → borrowed_texts own ≡ a → borrowed_texts contained ≡ b → borrowed_texts gone ≡ g
    → AreSameKeys (borrowed_texts sorted) (a ++ (b ++ g))
renewed_sorted own contained gone all sorted a b g is moved own_is contained_is gone_is =
    let texts : borrowed_texts all ≡ a ++ (b ++ g) =
    ap borrowed_texts is ∙ map-append (λ (t : Bor (List ℕ)). t.now) (own ++ contained) gone ∙ ap (λ (ts : List (List ℕ)). ts ++ borrowed_texts gone) (map-append (λ (t : Bor (List ℕ)). t.now) own contained)
    ∙ append_assoc (borrowed_texts own) (borrowed_texts contained) (borrowed_texts gone) ∙ (λ i. own_is i ++ (contained_is i ++ gone_is i)) in
    subst (AreSameKeys (borrowed_texts sorted)) texts (permuted_texts all sorted moved)
