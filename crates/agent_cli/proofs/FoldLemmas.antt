-- What folds over one element more.
use Rattle.std.proofs.Common.{◌≡◌, ◌<◌, ◌+◌, ◌++◌, ℕ, List, [], ◌∷◌, length, fold, map, take, get_or, refl, ◌∙◌, ap}
use Rattle.std.proofs.lemmas.List.{take_more}

fold_one_more : {A B X : Type 0} (f : A → B → A) (g : X → B) (first : A) (xs : List X) (x : X) → fold f first (map g (xs ++ x ∷ [])) ≡ f (fold f first (map g xs)) (g x)
fold_one_more f g first [] x = refl
fold_one_more f g first (y ∷ xs) x = fold_one_more f g (f first (g y)) xs x

pub fold_more : {A B X : Type 0} (f : A → B → A) (g : X → B) (first : A) (xs : List X) (i : ℕ) (d : X) → i < length xs → fold f first (map g (take (i + 1) xs)) ≡ f (fold f first (map g (take i xs))) (g (get_or xs i d))
fold_more f g first xs i d lt = ap (λ l. fold f first (map g l)) (take_more xs i d lt) ∙ fold_one_more f g first (take i xs) (get_or xs i d)
