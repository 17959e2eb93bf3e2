-- A loop that changes each item of a list in its turn.
use Rattle.std.proofs.Common.{◌≡◌, ◌+◌, ◌<◌, ℕ, List, [], ◌∷◌, ◌++◌, length, take, drop, set, get_or, map, sym, ◌∙◌, ap, ap₂, arith}
use Rattle.std.proofs.lemmas.List.{map-append, take_more, take_more_set, drop-set-lt, drop_more}

-- The items behind the loop's place are as they were.
module _ {X E : Type 0} (entry_of : X → E) (after : E → E) (old items : List X) (i : ℕ) (new d : X) (lt : i < length items) (same : length items ≡ length old) (rest : drop i items ≡ drop i old) where
  within : i < length old
  within = omega arith

  unfolded : get_or items i d ∷ drop (i + 1) items ≡ get_or old i d ∷ drop (i + 1) old
  unfolded = sym (drop_more items i d lt) ∙ rest ∙ drop_more old i d within

  pub rest_next : drop (i + 1) (set items i new) ≡ drop (i + 1) old
  rest_next = drop-set-lt (i + 1) items i new (omega arith) ∙ cc unfolded

  -- The entries so far are changed, and that of the new item is too.
  pub done_next : map entry_of (take i items) ≡ map after (map entry_of (take i old)) → entry_of new ≡ after (entry_of (get_or items i d))
      → map entry_of (take (i + 1) (set items i new)) ≡ map after (map entry_of (take (i + 1) old))
  done_next done value =
      let item_same : get_or items i d ≡ get_or old i d = cc unfolded in
      ap (map entry_of) (take_more_set items i new lt) ∙ map-append entry_of (take i items) (new ∷ [])
      ∙ ap₂ (λ (es : List E) (e : E). es ++ e ∷ []) done (value ∙ ap (λ (x : X). after (entry_of x)) item_same)
      ∙ sym (map-append after (map entry_of (take i old)) (entry_of (get_or old i d) ∷ []))
      ∙ ap (map after) (sym (map-append entry_of (take i old) (get_or old i d ∷ [])) ∙ ap (map entry_of) (sym (take_more old i d within)))
