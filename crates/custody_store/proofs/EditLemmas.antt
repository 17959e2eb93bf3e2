-- An edit that takes rows out and puts each back with other columns changes them where they stand.
use Rattle.std.proofs.Common.{◌≡◌, inl, inr, ℤ, Bool, true, cond, List, [], ◌∷◌, map, Less, Equal, is_eq, refl, sym, ap, ap₂, subst, ◌∙◌}
use Rattle.std.specs.List.{AllByRecursion}
use Rattle.std.specs.Ordering.{ordering_reverse}
use Rattle.std.proofs.lemmas.Bool.{cases_Bool, and_parts}
use Rattle.std.proofs.lemmas.Cmp.{tied_itself}
use Rattle.sqlite_value.specs.Order.{Row, value_cmp}
use Rattle.sqlite_value.specs.declared.value.Value.TheVariants.{Int}
use Rattle.sqlite_value.proofs.OrderLemmas.{value_cmp_total}
use Rattle.sqlite_trees.specs.Tree.{rowid, IsTable, has_rowid}
use Rattle.sqlite_trees.specs.View.{IsShaped, is_int}
use Rattle.sqlite_trees.specs.declared.store.Shape.TheVariants.{Table}
use Rattle.sqlite_trees.proofs.TreeLemmas.{IsShaped-filter, IsShaped-put_row}
use Rattle.sqlite_rules.specs.Lists.{Has}
use Rattle.sqlite_rules.specs.Edit.{id_in, row_at, without_all, put_all, are_fresh, have_rowids}
use Rattle.sqlite_rules.proofs.ListLemmas.{all_has, all_from}
use Rattle.sqlite_rules.proofs.ProbeLemmas.{has_mapped, mapped_has}
use Rattle.sqlite_rules.proofs.PlaceLemmas.{tied_same, row_at_is, left_or_taken}
use Rattle.sqlite_rules.proofs.TableLemmas.{int_is, put_all_has, put_all_keeps, put_all_adds, without_all_has}

never_both : (a b : Row) → value_cmp (rowid a) (rowid b) ≡ Less → value_cmp (rowid b) (rowid a) ≡ Less → ⊥
never_both a b p q = let e = value_cmp_total.antisymm (rowid a) (rowid b) ∙ ap ordering_reverse q in cc

-- two tables with the same rows are one
pub same_rows : (xs ys : List Row) → IsTable xs → IsTable ys → ((r : Row) → Has xs r → Has ys r) → ((r : Row) → Has ys r → Has xs r) → xs ≡ ys
same_rows [] [] p q a b = refl
same_rows [] (y ∷ ys) p q a b = absurd (b y (inl refl))
same_rows (x ∷ xs) [] p q a b = absurd (a x (inl refl))
same_rows (x ∷ xs) (y ∷ ys) p q a b =
    let first : x ≡ y = elim (a x (inl refl)) [
      | inl e ↦ e
      | inr later ↦ elim (b y (inl refl)) [ inl e ↦ sym e | inr also ↦ absurd (never_both x y (all_has _ xs y p.0 also) (all_has _ ys x q.0 later)) ]
    ] in
    let past = λ (z : Row) (zs : List Row) (up : AllByRecursion (λ r. value_cmp (rowid z) (rowid r) ≡ Less) zs) (r : Row) (h : Has zs r) (e : r ≡ z).
    let lower = rw e at (all_has _ zs r up h) in never_both z z lower lower in
    ap₂ ◌∷◌ first (same_rows xs ys p.1 q.1
    (λ r h. elim (a r (inr h)) [ inl e ↦ absurd (past x xs p.0 r h (e ∙ sym first)) | inr k ↦ k ])
    (λ r h. elim (b r (inr h)) [ inl e ↦ absurd (past y ys q.0 r h (e ∙ first)) | inr k ↦ k ]))

shaped_without : (ids : List ℤ) (rows : List Row) → IsShaped Table rows → IsShaped Table (without_all rows ids)
shaped_without [] rows h = h
shaped_without (id ∷ ids) rows h = shaped_without ids _ (IsShaped-filter Table _ rows h)

shaped_put : (news rows : List Row) → have_rowids news ≡ true → IsShaped Table rows → IsShaped Table (put_all rows news)
shaped_put [] rows ints h = h
shaped_put (n ∷ news) rows ints h = let both = and_parts _ _ ints in shaped_put news _ both.1 (IsShaped-put_row n rows both.0 h)

has_id : (id : ℤ) (s : Row) → is_int (rowid s) ≡ true → id ≡ id_in (rowid s) → has_rowid id s ≡ true
has_id id s int is =
    let same : rowid s ≡ Int id = int_is (rowid s) int ∙ ap Int (sym is) in
    let tie : value_cmp (rowid s) (Int id) ≡ Equal = ap (value_cmp (rowid s)) (sym same) ∙ tied_itself value_cmp_total (rowid s) in
    ap is_eq tie

-- the rows, with this change of those that pass the test
abbrev pub changed_where : (Row → Bool) → (Row → Row) → List Row → List Row
changed_where p f = map (λ r. cond (p r) (f r) r)

module _ (rows : List Row) (p : Row → Bool) (f : Row → Row) (shaped : IsShaped Table rows) (same : (r : Row) → Has rows r → rowid (f r) ≡ rowid r) where
  abbrev put : Row → Row
  put r = cond (p r) (f r) r

  put_same : (r : Row) → Has rows r → rowid (put r) ≡ rowid r
  put_same r h = elim (cases_Bool (p r)) [ inl is ↦ rw is (same r h) | inr other ↦ rw other refl ]

  rises : (xs : List Row) → ((r : Row) → Has xs r → Has rows r) → IsTable xs → IsTable (map put xs)
  rises [] among up = tt
  rises (x ∷ xs) among up = (
    all_from _ (map put xs) (λ y h.
        let r = has_mapped put xs y h in
        rw (r.2, put_same x (among x (inl refl)), put_same r.0 (among r.0 (inr r.1))) (all_has _ xs r.0 up.0 r.1)),
    rises xs (λ r h. among r (inr h)) up.1,
  )

  pub changed_shaped : IsShaped Table (changed_where p f rows)
  changed_shaped = (
    rises rows (λ r h. h) shaped.0,
    all_from _ (map put rows) (λ y h.
        let r = has_mapped put rows y h in
        rw (r.2, put_same r.0 r.1) (all_has _ rows r.0 shaped.1 r.1)),
  )

  module _ (ids : List ℤ) (news : List Row)
      (ids_from : (id : ℤ) → Has ids id → (s : Row) × Has rows s × (p s ≡ true) × (id ≡ id_in (rowid s)))
      (news_from : (n : Row) → Has news n → (s : Row) × Has rows s × (p s ≡ true) × (n ≡ f s))
      (news_has : (s : Row) → Has rows s → p s ≡ true → Has news (f s))
      (ints : have_rowids news ≡ true) (fresh : are_fresh (without_all rows ids) news ≡ true) where
    abbrev left : List Row
    left = without_all rows ids

    abbrev after : List Row
    after = put_all left news

    after_shaped : IsShaped Table after
    after_shaped = shaped_put news left ints (shaped_without ids rows shaped)

    put_has : (r x : Row) → Has rows r → x ≡ put r → Has (map put rows) x
    put_has r x h is = subst (Has (map put rows)) (sym is) (mapped_has put rows r h)

    -- a row that was left and is to be changed stands beside itself as it is changed, and so is that
    left_is : (x : Row) → Has left x → p x ≡ true → x ≡ f x
    left_is x h is =
        let was = without_all_has ids rows x h in
        let tie : value_cmp (rowid x) (rowid (f x)) ≡ Equal = rw (same x was) (tied_itself value_cmp_total (rowid x)) in
        tied_same after x (f x) after_shaped.0 (put_all_keeps news left x fresh h) (put_all_adds news left (f x) fresh (news_has x was is)) tie

    there : (x : Row) → Has after x → Has (map put rows) x
    there x h = elim (put_all_has news left x h) [
      | inl new ↦ let s = news_from x new in put_has s.0 x s.1 (rw s.2 s.3)
      | inr old ↦ let was = without_all_has ids rows x old in elim (cases_Bool (p x)) [ inl is ↦ put_has x x was (rw is (left_is x old is)) | inr other ↦ put_has x x was (rw other refl) ]
    ]

    taken_due : (r : Row) → Has rows r → Has (map (row_at rows) ids) r → p r ≡ true
    taken_due r h k =
        let id = has_mapped (row_at rows) ids r k in
        let s = ids_from id.0 id.1 in
        let is : r ≡ s.0 = id.2 ∙ row_at_is rows id.0 s.0 shaped.0 s.1 (has_id id.0 s.0 (all_has _ rows s.0 shaped.1 s.1) s.3) in
        rw is s.2

    back : (x : Row) → Has (map put rows) x → Has after x
    back x h =
        let r = has_mapped put rows x h in
        elim (cases_Bool (p r.0)) [
          | inl is ↦ subst (Has after) (sym (rw is at r.2)) (put_all_adds news left (f r.0) fresh (news_has r.0 r.1 is))
          | inr other ↦ subst (Has after) (sym (rw other at r.2)) (elim (left_or_taken rows ids r.0 shaped.0 r.1) [
            | inl stayed ↦ put_all_keeps news left r.0 fresh stayed
            | inr taken ↦ absurd (let both = taken_due r.0 r.1 taken in cc)
          ])
        ]

    -- The edit is the change of each row where it stands.
    pub edited_is : put_all left news ≡ changed_where p f rows
    edited_is = same_rows after (map put rows) after_shaped.0 changed_shaped.0 there back
