-- The steps along a chain of deposits, and the last of its ids.
use Rattle.std.proofs.Common.{◌≡◌, ◌+◌, ◌-◌, ◌<◌, ◌++◌, ◌∷◌, ◌∙◌, [], ℕ, suc, List, Some, None, ap, arith, get_or, length, option_and_then, refl, sym, take}
use Rattle.std.specs.List.{AllZip}
use Rattle.std.specs.Prelude.{slice_get}
use Rattle.std.proofs.Math.ListN.{get_or-map}
use Rattle.std.proofs.lemmas.List.{length-map, take_more}
use Rattle.std.proofs.lemmas.Option.{slice_get-get_or}
use Rattle.std.proofs.lemmas.List.Sums.{fold-append}
use Rattle.deposit_verify.specs.declared.base.Base.{Base}
use Rattle.deposit_verify.specs.Bases.{all_then, base_at, base_of_first, base_then}
use Rattle.deposit_pack.specs.Chains.{BreaksAt, HasId, IsMisnamed, joined_of, last_id}
use Rattle.deposit_pack.specs.declared.chains.NamedDeposit.{NamedDeposit}

last_at : (id : List ℕ) (ids : List (List ℕ)) → slice_get (id ∷ ids) (length ids) ≡ last_id (id ∷ ids)
last_at id [] = refl
last_at id (next ∷ ids) = last_at next ids

-- the last id as a slice has it
pub last_is : (ids : List (List ℕ)) → slice_get ids (length ids - 1) ≡ last_id ids
last_is [] = refl
last_is (id ∷ ids) = let e : length (id ∷ ids) - 1 ≡ length ids = omega arith in rw e (last_at id ids)

-- the first deposit is none of a chain
pub breaks_first : (first : List ℕ) (later : List (List ℕ)) → base_at (first ∷ []) ≡ None → BreaksAt (first ∷ later) 0
breaks_first first later none = record { inside = omega arith; broken = none; before = λ some. absurd (omega (arith, some)) }

-- the keys of a chain of one
pub keys_first : (first : List ℕ) (base : Base) → Some base ≡ base_at (first ∷ []) → base_of_first first ≡ Some base
unfolding base_at
keys_first first base e = sym e

-- ids of deposits, with one more of each
pub zip_push : (ds : List NamedDeposit) (ids : List (List ℕ)) (d : NamedDeposit) (id : List ℕ) → AllZip HasId ds ids → HasId d id → AllZip HasId (ds ++ d ∷ []) (ids ++ id ∷ [])
zip_push [] [] d id each one = (one, tt)
zip_push [] (_ ∷ ids) d id each one = absurd each
zip_push (_ ∷ ds) [] d id each one = absurd each
zip_push (_ ∷ ds) (_ ∷ ids) d id each one = (each.0, zip_push ds ids d id each.1 one)

module _ (first : NamedDeposit) (later : List NamedDeposit) (i : ℕ) (d : NamedDeposit) (base : Base) (inside : i < length later)
    (keys : all_then (base_of_first first.joined.now) (take i (joined_of later)) ≡ Some base) where
  -- the later deposits
  abbrev texts : List (List ℕ)
  texts = joined_of later

  -- one deposit more
  texts_more : take (i + 1) texts ≡ take i texts ++ (get_or later i d).joined.now ∷ []
  texts_more =
      let there : i < length texts = rw length-map inside in
      take_more texts i d.joined.now there ∙ ap (λ (joined : List ℕ). take i texts ++ joined ∷ []) (get_or-map (λ (r : NamedDeposit). r.joined.now) later i d)

  -- the keys after it
  pub keys_more : all_then (base_of_first first.joined.now) (take (i + 1) texts) ≡ base_then base (get_or later i d).joined.now
  keys_more = rw (texts_more, fold-append) (ap (option_and_then (λ (b : Base). base_then b (get_or later i d).joined.now)) keys)

  -- the chain ends before it, where it has none
  pub breaks : base_then base (get_or later i d).joined.now ≡ None → BreaksAt (first.joined.now ∷ texts) (i + 1)
  unfolding base_at
  breaks none =
      let next : i + 1 + 1 ≡ suc (i + 1) = omega arith in
      let here : i + 1 ≡ suc i = omega arith in
      record {
        inside = rw length-map (omega arith);
        broken = rw next (keys_more ∙ none);
        before = λ _ gone. let there = rw here at gone in cc (keys, there);
      }

  -- it is not the one that its name tells
  pub misnamed : ((id : List ℕ) → ¬ HasId (get_or later i d) id) → IsMisnamed (first ∷ later) (i + 1)
  misnamed none = let next : i + 1 ≡ suc i = omega arith in rw (next, slice_get-get_or later i d inside) none

  -- the deposits up to it
  deposits_more : take (i + 1) later ≡ take i later ++ get_or later i d ∷ []
  deposits_more = take_more later i d inside

  -- the ids up to it
  pub ids_more : (ids : List (List ℕ)) (id : List ℕ) → HasId (get_or later i d) id → AllZip HasId (first ∷ take i later) ids → AllZip HasId (first ∷ take (i + 1) later) (ids ++ id ∷ [])
  ids_more ids id one each = rw deposits_more (zip_push (first ∷ take i later) ids (get_or later i d) id each one)

-- the keys after one deposit more
pub keys_then : (chain : List (List ℕ)) (joined : List ℕ) (base : Base) → base_at chain ≡ Some base → base_at (chain ++ joined ∷ []) ≡ base_then base joined
unfolding base_at
keys_then [] joined base keys = cc keys
keys_then (first ∷ later) joined base keys =
    let whole : all_then (base_of_first first) (later ++ joined ∷ []) ≡ base_then base joined = rw fold-append (ap (option_and_then (λ (b : Base). base_then b joined)) keys) in whole
