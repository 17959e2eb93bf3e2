-- The keys of a chain, one deposit after the other.
use Rattle.std.proofs.Common.{◌≡◌, ◌⊎◌, ◌++◌, ◌∷◌, ◌∙◌, [], ℕ, All, List, ap, append_assoc, inl, inr, refl, subst, sym}
use Rattle.std.proofs.lemmas.List.Elements.{All-cons, All-head, All-nil, All-push, All-tail}
use Rattle.deposit_name.specs.declared.table.TableName.{TableName}
use Rattle.deposit_verify.specs.Chain.{AreChainKeys, DepositContains, IsKeyOf, DepositNames}

pub all_front : (P : List ℕ → Type 0) (xs : List (List ℕ)) (y : List ℕ) → All P (xs ++ y ∷ []) → All P xs
all_front P [] y all = All-nil P
all_front P (x ∷ xs) y all = All-cons P x xs (All-head P x (xs ++ y ∷ []) all) (all_front P xs y (All-tail P x (xs ++ y ∷ []) all))

pub all_last : (P : List ℕ → Type 0) (xs : List (List ℕ)) (y : List ℕ) → All P (xs ++ y ∷ []) → P y
all_last P [] y all = All-head P y [] all
all_last P (x ∷ xs) y all = all_last P xs y (All-tail P x (xs ++ y ∷ []) all)

not_empty : (xs : List (List ℕ)) (y : List ℕ) (ys : List (List ℕ)) → [] ≡ xs ++ y ∷ ys → ⊥
not_empty [] y ys e = cc e
not_empty (x ∷ xs) y ys e = cc e

-- a place in a chain with one deposit more: it is the last one, or a place in the chain
ends : (chain before after : List (List ℕ)) (joined last : List ℕ) → chain ++ joined ∷ [] ≡ before ++ last ∷ after
    → ((last ≡ joined) × (after ≡ [])) ⊎ ((more : List (List ℕ)) × (chain ≡ before ++ last ∷ more) × (after ≡ more ++ joined ∷ []))
ends [] [] after joined last e =
    let head : joined ≡ last = cc e in
    let tail : [] ≡ after = cc e in
    inl (sym head, sym tail)
ends [] (b ∷ bs) after joined last e = let tail : [] ≡ bs ++ last ∷ after = cc e in absurd (not_empty bs last after tail)
ends (c ∷ cs) [] after joined last e =
    let head : c ≡ last = cc e in
    let tail : cs ++ joined ∷ [] ≡ after = cc e in
    inr (cs, ap (λ (x : List ℕ). x ∷ cs) head, sym tail)
ends (c ∷ cs) (b ∷ bs) after joined last e =
    let head : c ≡ b = cc e in
    let tail : cs ++ joined ∷ [] ≡ bs ++ last ∷ after = cc e in
    elim (ends cs bs after joined last tail) [
      | inl h ↦ inl h
      | inr h ↦ inr (h.0, ap (λ (x : List ℕ). x ∷ cs) head ∙ ap (λ (xs : List (List ℕ)). b ∷ xs) h.1, h.2)
    ]

module _ (name : TableName) (key : List ℕ) where
  one_there : (joined : List ℕ) → IsKeyOf (joined ∷ []) name key → DepositContains joined name key
  one_there joined h = elim (ends [] h.0 h.2 joined h.1 h.3) [
    | inl same ↦ subst (λ (d : List ℕ). DepositContains d name key) same.0 h.4
    | inr later ↦ absurd (not_empty h.0 h.1 later.0 later.1)
  ]

  one_back : (joined : List ℕ) → DepositContains joined name key → IsKeyOf (joined ∷ []) name key
  one_back joined has = ([], joined, [], refl, has, All-nil (λ d. ¬ DepositNames d name key))

  more_there : (chain : List (List ℕ)) (joined : List ℕ) → IsKeyOf (chain ++ joined ∷ []) name key → DepositContains joined name key ⊎ (IsKeyOf chain name key × ¬ DepositNames joined name key)
  more_there chain joined h = elim (ends chain h.0 h.2 joined h.1 h.3) [
    | inl same ↦ inl (subst (λ (d : List ℕ). DepositContains d name key) same.0 h.4)
    | inr later ↦
        let all = subst (λ (after : List (List ℕ)). All (λ d. ¬ DepositNames d name key) after) later.2 h.5 in
        inr ((h.0, h.1, later.0, later.1, h.4, all_front (λ d. ¬ DepositNames d name key) later.0 joined all), all_last (λ d. ¬ DepositNames d name key) later.0 joined all)
  ]

  more_back : (chain : List (List ℕ)) (joined : List ℕ) → DepositContains joined name key ⊎ (IsKeyOf chain name key × ¬ DepositNames joined name key) → IsKeyOf (chain ++ joined ∷ []) name key
  more_back chain joined (inl has) = (chain, joined, [], refl, has, All-nil (λ d. ¬ DepositNames d name key))
  more_back chain joined (inr h) =
      let k = h.0 in
      (k.0, k.1, k.2 ++ joined ∷ [], ap (λ (xs : List (List ℕ)). xs ++ joined ∷ []) k.3 ∙ append_assoc k.0 (k.1 ∷ k.2) (joined ∷ []), k.4, All-push (λ d. ¬ DepositNames d name key) k.2 joined k.5 h.1)

  names : (joined : List ℕ) → DepositContains joined name key → DepositNames joined name key
  names joined has = (has.0, has.1, has.2, inl has.3)

  same_there : (chain : List (List ℕ)) (joined : List ℕ) → (¬ DepositNames joined name key) → DepositContains joined name key ⊎ (IsKeyOf chain name key × ¬ DepositNames joined name key) → IsKeyOf chain name key
  same_there chain joined none (inl has) = absurd (none (names joined has))
  same_there chain joined none (inr h) = h.0

pub chain_keys : AreChainKeys
chain_keys = record {
  one = λ joined name key. (one_there name key joined, one_back name key joined);
  more = λ chain joined name key. (more_there name key chain joined, more_back name key chain joined);
  same = λ chain joined name none key. (
    λ h. same_there name key chain joined (none key) (more_there name key chain joined h),
    λ h. more_back name key chain joined (inr (h, none key)),
  );
}
