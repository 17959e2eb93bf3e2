-- What the tests of a WHERE say of the values that they read.
use Rattle.std.proofs.Common.{◌≡◌, inl, inr, ℕ, ℤ, Bool, true, false, List, [], ◌∷◌, map, Some, refl, ap, ◌∙◌, arith}
use Rattle.std.specs.Str.{bytes_eq}
use Rattle.std.specs.Ordering.{is_eq, int_cmp}
use Rattle.std.proofs.lemmas.Int.{ints}
use Rattle.std.proofs.lemmas.Map.Text.{is_eq-slice_cmp}
use Rattle.sqlite_value.proofs.OrderLemmas.{value_cmp-Int, value_cmp-Text}
use Rattle.sqlite.specs.declared.types.Value.TheVariants.{Int, Text}
use Rattle.sqlite.specs.Order.{value_cmp}
use Rattle.sqlite.specs.Ops.{binary, is_true, from_truth}
use Rattle.sqlite_sql.specs.declared.ops.BinaryOp.TheVariants.{Compare}
use Rattle.sqlite_sql.specs.declared.ops.CompareOp.TheVariants.{Eq}
use Rattle.sqlite.specs.Collation.TheVariants.{Binary}
use Rattle.sqlite_rules.specs.Lists.{Has}
use Rattle.custody_store.specs.Dropping.{is_same_number}

true_back : (b : Bool) → is_true (from_truth (Some b)) ≡ b
true_back true = refl
true_back false = refl

-- k = d, of numbers
pub is_number : (k d : ℤ) → is_true (binary (Compare Eq Binary) (Int k) (Int d)) ≡ is_same_number k d
unfolding binary
is_number k d =
    let test : is_eq (int_cmp k d) ≡ is_same_number k d = grind (arith, ints) in
    true_back (is_eq (value_cmp (Int k) (Int d))) ∙ ap is_eq (value_cmp-Int k d) ∙ test

-- s = t, of texts
pub is_text : (s t : List ℕ) → is_true (binary (Compare Eq Binary) (Text s) (Text t)) ≡ bytes_eq s t
unfolding binary
is_text s t = true_back (is_eq (value_cmp (Text s) (Text t))) ∙ ap is_eq (value_cmp-Text s t) ∙ is_eq-slice_cmp s t

-- ---- the rows of a table, as they are and as they are read

pub map_has : {X Y : Type 0} (f g : X → Y) (xs : List X) → ((x : X) → Has xs x → f x ≡ g x) → map f xs ≡ map g xs
map_has f g [] h = refl
map_has f g (x ∷ xs) h = rw (h x (inl refl), map_has f g xs (λ y k. h y (inr k))) refl
