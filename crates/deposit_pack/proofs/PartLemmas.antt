-- Pieces of a deposit, of which each but the last is as long as a part may be.
use Rattle.std.proofs.Common.{◌≡◌, ◌<◌, ◌≤◌, ◌+◌, ◌*◌, ◌++◌, ◌∷◌, ◌∙◌, ◌⊎◌, [], List, ℕ, Some, ap, arith, drop, inl, inr, length, refl, subst, suc, sym, take, zero, append-nil, length-append, length-drop, length-take, lt_of_mul-lt-mul_right, mul-le-mul_right, take-add, take_all}
use Rattle.std.specs.Int.{IsInRange, div_ceil}
use Rattle.std.specs.List.{All, concat, slice_get}
use Rattle.std.proofs.lemmas.Grind.{div_ceil_times}
use Rattle.std.proofs.lemmas.List.{map-append}
use Rattle.std.proofs.lemmas.List.Elements.{All-push}
use Rattle.std.proofs.lemmas.List.Folds.{concat-append}
use Rattle.deposit_name.specs.Name.{Name}
use Rattle.deposit_pack.specs.Parts.{ArePartsOf, FitsInParts, bytes_in_parts, part_length_max, part_name}
use Rattle.deposit_pack.specs.declared.splitting.Part.{Part}

-- the first parts of a deposit: so many, each of them full where it is not the last
pub record AreFirstParts (most : ℕ) (name : Name) (deposit : List ℕ) (parts : List Part) (count : ℕ) : Type 0 where
  pub counted : length parts ≡ count
  pub joined : concat (bytes_in_parts parts) ≡ take (count * most) deposit
  pub each : All (λ piece. IsInRange 1 most (length piece)) (bytes_in_parts parts)
  pub named : (place : ℕ) (part : Part) → slice_get parts place ≡ Some part → part.name ≡ part_name name place

-- pieces of at most so many bytes have, joined, no more than so many times that
pub concat_length : (most : ℕ) (pieces : List (List ℕ)) → All (λ piece. IsInRange 1 most (length piece)) pieces
    → length (concat pieces) ≤ length pieces * most
concat_length most [] each = omega arith
concat_length most (piece ∷ pieces) each =
    let here = (each zero piece (omega arith)).1 in
    let below = concat_length most pieces (λ k d inside. each (suc k) d (omega arith)) in
    omega (arith, length-append piece (concat pieces), here, below)

-- so there are as many as the length asks for, rounded up
pub pieces_enough : (most : ℕ) (deposit : List ℕ) (pieces : List (List ℕ)) → 0 < most → concat pieces ≡ deposit
    → All (λ piece. IsInRange 1 most (length piece)) pieces → div_ceil (length deposit) most ≤ length pieces
pieces_enough most deposit pieces positive joined each =
    let rounded = div_ceil_times (length deposit) most positive in
    let held : length deposit ≤ length pieces * most = subst (λ bytes. length bytes ≤ length pieces * most) joined (concat_length most pieces each) in
    below_next (div_ceil (length deposit) most) (length pieces) most (omega (arith, rounded.1, held))
  where
    below_next : (m n k : ℕ) → m * k < n * k + k → m ≤ n
    below_next m n k less =
        let more : m * k < suc n * k = omega arith in
        let below : m < suc n = lt_of_mul-lt-mul_right k more in omega arith

-- each of that many begins inside
pub place_inside : (most whole count place : ℕ) → 0 < most → count ≡ div_ceil whole most → place < count → place * most < whole
place_inside most whole count place positive is below =
    let rounded = (div_ceil_times whole most positive).1 in
    let short : count * most < whole + most = subst (λ n. n * most < whole + most) (sym is) rounded in
    let next : suc place * most ≤ count * most = mul-le-mul_right most below in
    omega (arith, short, next)

-- an element of a list with one more at its end
pub get_pushed : {X : Type 0} (xs : List X) (x y : X) (place : ℕ) → slice_get (xs ++ x ∷ []) place ≡ Some y
    → (slice_get xs place ≡ Some y) ⊎ ((place ≡ length xs) × (x ≡ y))
get_pushed [] x y zero is = inr (refl, cc)
get_pushed [] x y (suc place) is = cc
get_pushed (z ∷ xs) x y zero is = inl is
get_pushed (z ∷ xs) x y (suc place) is = elim (get_pushed xs x y place is) [
  | inl before ↦ inl before
  | inr here ↦ inr (ap suc here.0, here.1)
]

pub first_none : (most : ℕ) (name : Name) (deposit : List ℕ) → AreFirstParts most name deposit [] 0
first_none most name deposit = record {
  counted = refl;
  joined = let none : 0 * most ≡ 0 = omega arith in ap (λ n. take n deposit) (sym none);
  each = λ k d inside. absurd (omega arith);
  named = λ place part is. cc is;
}

pub first_more : (most : ℕ) (name : Name) (deposit : List ℕ) (parts : List Part) (count : ℕ) (part : Part)
    → AreFirstParts most name deposit parts count → 0 < most → count * most < length deposit
    → part.name ≡ part_name name count → part.bytes.now ≡ take most (drop (count * most) deposit)
    → AreFirstParts most name deposit (parts ++ part ∷ []) (count + 1)
first_more most name deposit parts count part before positive more name_is bytes_is = record {
  counted = omega (arith, length-append parts (part ∷ []), before.counted);
  joined =
      let next : (count + 1) * most ≡ count * most + most = omega arith in
      ap concat bytes ∙ concat-append (bytes_in_parts parts) (part.bytes.now ∷ []) ∙ ap (λ xs. concat (bytes_in_parts parts) ++ xs) (append-nil part.bytes.now)
      ∙ ap (λ xs. xs ++ part.bytes.now) before.joined ∙ ap (λ xs. take (count * most) deposit ++ xs) bytes_is
      ∙ sym (take-add (count * most) most deposit) ∙ ap (λ n. take n deposit) (sym next);
  each = subst (λ pieces. All (λ piece. IsInRange 1 most (length piece)) pieces) (sym bytes)
      (All-push (λ piece. IsInRange 1 most (length piece)) (bytes_in_parts parts) part.bytes.now before.each in_range);
  named = λ place other is. elim (get_pushed parts part other place is) [
    | inl old ↦ before.named place other old
    | inr new ↦
        let at : place ≡ count = new.0 ∙ before.counted in
        subst (λ p. p.name ≡ part_name name place) new.1 (name_is ∙ ap (part_name name) (sym at))
  ];
}
  where
    bytes : bytes_in_parts (parts ++ part ∷ []) ≡ bytes_in_parts parts ++ part.bytes.now ∷ []
    bytes = map-append (λ (p : Part). p.bytes.now) parts (part ∷ [])

    in_range : IsInRange 1 most (length part.bytes.now)
    in_range = rw bytes_is (omega (arith, length-take most (drop (count * most) deposit), length-drop (count * most) deposit), omega (arith, length-take most (drop (count * most) deposit)))

-- all of them
pub first_all : (name : Name) (deposit : List ℕ) (parts : List Part) (count : ℕ) → count ≡ div_ceil (length deposit) part_length_max
    → AreFirstParts part_length_max name deposit parts count → count ≤ 8 → ArePartsOf name deposit parts
first_all name deposit parts count is first few = record {
  pieces = record {
    joined = first.joined ∙ take_all (count * part_length_max) deposit (subst (λ n. length deposit ≤ n * part_length_max) (sym is) (div_ceil_times (length deposit) part_length_max (omega arith)).0);
    each = first.each;
  };
  fewest = λ others pieces.
      let enough = pieces_enough part_length_max deposit others (omega arith) pieces.joined pieces.each in
      subst (λ n. n ≤ length others) (sym (first.counted ∙ is)) enough;
  most = subst (λ n. n ≤ 8) (sym first.counted) few;
  named = first.named;
}

pub too_long : (deposit : List ℕ) (count : ℕ) → count ≡ div_ceil (length deposit) part_length_max → 8 < count → FitsInParts deposit → ⊥
too_long deposit count is many fits =
    let enough = pieces_enough part_length_max deposit fits.0 (omega arith) fits.1.joined fits.1.each in
    let few : count ≤ length fits.0 = subst (λ n. n ≤ length fits.0) (sym is) enough in
    omega (arith, few, fits.2)
