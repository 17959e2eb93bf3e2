-- Parts that are looked at one after the other, and the names of those that are picked.
use Rattle.std.proofs.Common.{◌≡◌, ◌⊎◌, inl, inr, ℕ, zero, suc, ◌<◌, List, [], ◌∷◌, ◌++◌, length, map, get_or, Bor, Contains, Option, Some, None, Bool, true, false, ◌&&◌, refl, sym, ◌∙◌, ap, subst, arith}
use Rattle.std.specs.Prelude.{IsSome}
use Rattle.std.specs.FinMap.{get}
use Rattle.std.specs.Ordering.{is_lt}
use Rattle.std.proofs.lemmas.Bool.{and_parts}
use Rattle.std.proofs.lemmas.List.{map-append}
use Rattle.std.proofs.lemmas.Slice.Eq.{bytes_eq-Decides}
use Rattle.deposit_name.specs.Name.{Name}
use Rattle.extent_map.specs.declared.extent.Extent.{Extent}
use Rattle.custody_records.specs.Keys.{PartKey, part_cmp}
use Rattle.custody_records.specs.Records.{PartRecord, Records, key_of, name_of}
use Rattle.custody_records.specs.Tables.{is_below_all, is_rising, table_map}
use Rattle.custody_records.specs.TypedRecords.{key_of_part, part_value}
use Rattle.custody_records.specs.declared.parts.Part.{Part}
use Rattle.custody_machine.specs.StoredState.{HasDigestAt}
use Rattle.custody_rules.proofs.PartBlocks.{row_of, has_row}
use Rattle.custody.specs.Auditing.{IsHeldPartOf, IsDamagedUnder, AreHeld, AreDamaged, is_intact, has_digest}
use Rattle.custody.proofs.RevisionLemmas.{held_sound, held_broken, dropped_sound}

both : (a b : Bool) → a ≡ true → b ≡ true → (a && b) ≡ true
both a b e f = cc

-- ---- names that are picked

module _ (P Q : Part → Type 0) where
  -- the names of some of the rows, in their order: each row that is picked has P, and each that is passed has Q
  abbrev pub IsPicked : List Part → List Name → Type 0
  IsPicked [] names = names ≡ []
  IsPicked (row ∷ rows) names = (Q row × IsPicked rows names) ⊎ ((rest : List Name) × (names ≡ row.name ∷ rest) × P row × IsPicked rows rest)

  pub passed : (rows : List Part) (names : List Name) (row : Part) → Q row → IsPicked rows names → IsPicked (rows ++ row ∷ []) names
  passed [] names row q none = inl (q, none)
  passed (first ∷ rows) names row q (inl h) = inl (h.0, passed rows names row q h.1)
  passed (first ∷ rows) names row q (inr h) = inr (h.0, h.1, h.2, passed rows h.0 row q h.3)

  pub picked : (rows : List Part) (names : List Name) (row : Part) → P row → IsPicked rows names → IsPicked (rows ++ row ∷ []) (names ++ row.name ∷ [])
  picked [] names row p none = inr ([], ap (λ l. l ++ row.name ∷ []) none, p, refl)
  picked (first ∷ rows) names row p (inl h) = inl (h.0, picked rows names row p h.1)
  picked (first ∷ rows) names row p (inr h) = inr (h.0 ++ row.name ∷ [], ap (λ l. l ++ row.name ∷ []) h.1, h.2, picked rows h.0 row p h.3)

  -- one row more is looked at
  module _ (seen : List (Bor Part)) (part : Bor Part) (names : List Name) where
    one_more : map (λ p. p.now) (seen ++ part ∷ []) ≡ map (λ p. p.now) seen ++ part.now ∷ []
    one_more = map-append (λ (p : Bor Part). p.now) seen (part ∷ [])

    pub passed_on : Q part.now → IsPicked (map (λ p. p.now) seen) names → IsPicked (map (λ p. p.now) (seen ++ part ∷ [])) names
    passed_on q h = subst (λ l. IsPicked l names) (sym one_more) (passed (map (λ p. p.now) seen) names part.now q h)

    pub picked_on : P part.now → IsPicked (map (λ p. p.now) seen) names → IsPicked (map (λ p. p.now) (seen ++ part ∷ [])) (names ++ part.now.name ∷ [])
    picked_on p h = subst (λ l. IsPicked l (names ++ part.now.name ∷ [])) (sym one_more) (picked (map (λ p. p.now) seen) names part.now p h)

  -- they are in the order of the rows
  below : (low : PartKey) (rows : List Part) (names : List Name) → is_below_all part_cmp key_of_part low rows ≡ true → IsPicked rows names → is_below_all part_cmp key_of low names ≡ true
  below low [] names is none = ap (is_below_all part_cmp key_of low) none
  below low (row ∷ rows) names is (inl h) = below low rows names (and_parts (is_lt (part_cmp low (key_of_part row))) _ is).1 h.1
  below low (row ∷ rows) names is (inr h) =
      subst (λ (l : List Name). is_below_all part_cmp key_of low l ≡ true) (sym h.1)
      (both (is_lt (part_cmp low (key_of_part row))) _ (and_parts (is_lt (part_cmp low (key_of_part row))) _ is).0 (below low rows h.0 (and_parts (is_lt (part_cmp low (key_of_part row))) _ is).1 h.3))

  pub in_order : (rows : List Part) (names : List Name) → is_rising part_cmp key_of_part rows ≡ true → IsPicked rows names → is_rising part_cmp key_of names ≡ true
  in_order [] names is none = ap (is_rising part_cmp key_of) none
  in_order (row ∷ rows) names is (inl h) = in_order rows names (and_parts (is_below_all part_cmp key_of_part (key_of_part row) rows) _ is).1 h.1
  in_order (row ∷ rows) names is (inr h) =
      subst (λ (l : List Name). is_rising part_cmp key_of l ≡ true) (sym h.1)
      (both (is_below_all part_cmp key_of (key_of row.name) h.0) _ (below (key_of_part row) rows h.0 (and_parts (is_below_all part_cmp key_of_part (key_of_part row) rows) _ is).0 h.3)
      (in_order rows h.0 (and_parts (is_below_all part_cmp key_of_part (key_of_part row) rows) _ is).1 h.3))

  -- a name is that of a row that was picked
  pub row_picked : (rows : List Part) (names : List Name) (name : Name) → IsPicked rows names → Contains names name → (i : ℕ) × (row : Part) × (i < length rows) × ((d : Part) → get_or rows i d ≡ row) × (row.name ≡ name) × P row
  row_picked [] names name none has = absurd (let low = (subst (λ (l : List Name). Contains l name) none has).1 in omega (arith, low))
  row_picked (row ∷ rows) names name (inl h) has = let found = row_picked rows names name h.1 has in let low = found.2 in (suc found.0, found.1, omega (arith, low), λ d. found.3 d, found.4, found.5)
  row_picked (row ∷ rows) names name (inr h) has = by (subst (λ (l : List Name). Contains l name) h.1 has) (row_picked rows h.0 name h.3)
    where
      by : Contains (row.name ∷ h.0) name → (Contains h.0 name → (i : ℕ) × (found : Part) × (i < length rows) × ((d : Part) → get_or rows i d ≡ found) × (found.name ≡ name) × P found)
          → (i : ℕ) × (found : Part) × (i < length (row ∷ rows)) × ((d : Part) → get_or (row ∷ rows) i d ≡ found) × (found.name ≡ name) × P found
      by (zero, low, is) rest = (0, row, omega arith, λ d. refl, is, h.2)
      by (suc i, low, is) rest = let found = rest (i, omega (arith, low), is) in let lower = found.2 in (suc found.0, found.1, omega (arith, lower), λ d. found.3 d, found.4, found.5)

  -- and a row that may not be passed was picked
  pub name_picked : (rows : List Part) (names : List Name) (i : ℕ) (row : Part) → IsPicked rows names → i < length rows → ((d : Part) → get_or rows i d ≡ row) → (¬ Q row) → Contains names row.name
  name_picked [] names i row h low at not = absurd (omega (arith, low))
  name_picked (first ∷ rows) names zero row (inl h) low at not = absurd (not (subst Q (at first) h.0))
  name_picked (first ∷ rows) names zero row (inr h) low at not =
      subst (λ (l : List Name). Contains l row.name) (sym h.1) (subst (λ (n : Name). Contains (n ∷ h.0) row.name) (ap (λ (p : Part). p.name) (sym (at first))) (0, omega arith, refl))
  name_picked (first ∷ rows) names (suc i) row (inl h) low at not = name_picked rows names i row h.1 (omega (arith, low)) (λ d. at d) not
  name_picked (first ∷ rows) names (suc i) row (inr h) low at not =
      let rest = name_picked rows h.0 i row h.3 (omega (arith, low)) (λ d. at d) not in let lower = rest.1 in
      subst (λ (l : List Name). Contains l row.name) (sym h.1) (suc rest.0, omega (arith, lower), rest.2)

-- ---- parts that have their digest, and parts that have not

module _ (tells : Type 0) (image : List ℕ) where
  -- a part may be named where it is held; and it has not its digest
  abbrev pub IsPicking : Part → Type 0
  IsPicking part = IsSome (part_value part).extents × (tells → has_digest image part ≡ false)

  -- it may be passed where it has
  abbrev pub IsPassing : Part → Type 0
  IsPassing part = tells → has_digest image part ≡ true

module _ (records : Records) (rows : List Part) (all : records.parts ≡ table_map part_cmp key_of_part part_value rows) (rising : is_rising part_cmp key_of_part rows ≡ true)
    (tells : Type 0) (image : List ℕ) (names : List Name) (done : IsPicked (IsPicking tells image) (IsPassing tells image) rows names) where
  -- what is recorded of a row
  recorded_row : (i : ℕ) (row : Part) → i < length rows → ((d : Part) → get_or rows i d ≡ row) → get records.parts (key_of_part row) ≡ Some (part_value row)
  recorded_row i row low at = subst (λ (p : Part). get records.parts (key_of_part p) ≡ Some (part_value p)) (at row) (has_row records rows all rising i row low)

  held_row : (row : Part) → get records.parts (key_of_part row) ≡ Some (part_value row) → IsSome (part_value row).extents → IsHeldPartOf records row.name
  held_row row is some = by (part_value row).extents refl some
    where
      by : (o : Option (List Extent)) → (part_value row).extents ≡ o → IsSome o → IsHeldPartOf records row.name
      by None at none = absurd (let e = none in cc)
      by (Some extents) at there = record { part = part_value row; extents = extents; recorded = is; kind = refl; held = at }

  pub are_held : AreHeld records names
  are_held = record {
    order = in_order (IsPicking tells image) (IsPassing tells image) rows names rising done;
    each = λ name has.
        let found = row_picked (IsPicking tells image) (IsPassing tells image) rows names name done has in
        subst (IsHeldPartOf records) found.4 (held_row found.1 (recorded_row found.0 found.1 found.2 found.3) found.5.0);
  }

  -- the test is that of the digest
  module _ (key : PartKey) (part : PartRecord) (at : get records.parts key ≡ Some part) where
    sound : (o : Option (List Extent)) → part.extents ≡ o → is_intact image part.len part.digest o ≡ true → HasDigestAt image records key
    sound None held is = dropped_sound image records key part at held
    sound (Some extents) held is = held_sound image records key part extents at held ((bytes_eq-Decides _ _).0 is)

    broken : (o : Option (List Extent)) → part.extents ≡ o → is_intact image part.len part.digest o ≡ false → ¬ HasDigestAt image records key
    broken None held is = absurd (let e = is in cc)
    broken (Some extents) held is = held_broken image records key part extents at held (λ same. let e = (bytes_eq-Decides _ _).1 same in let f = is in cc)

  damaged_row : tells → (name : Name) → Contains names name → IsDamagedUnder records image name
  damaged_row told name has =
      let found = row_picked (IsPicking tells image) (IsPassing tells image) rows names name done has in
      let at = recorded_row found.0 found.1 found.2 found.3 in
      subst (IsDamagedUnder records image) found.4 (held_row found.1 at found.5.0, broken (key_of_part found.1) (part_value found.1) at (part_value found.1).extents refl (found.5.1 told))

  named_row : tells → (name : Name) → IsDamagedUnder records image name → Contains names name
  named_row told name damaged =
      let held = damaged.0 in
      let row = row_of records rows all rising (key_of name) held.part held.recorded in
      let same : row.row.name ≡ name = λ i. name_of (row.key_is i) ((ap (λ (p : PartRecord). p.kind) row.value_is ∙ held.kind) i) in
      let not : ¬ IsPassing tells image row.row = λ passing.
      damaged.1 (subst (HasDigestAt image records) row.key_is
      (sound (key_of_part row.row) (part_value row.row) (recorded_row row.place row.row row.within row.at) (part_value row.row).extents refl (passing told))) in
      subst (Contains names) same (name_picked (IsPicking tells image) (IsPassing tells image) rows names row.place row.row done row.within row.at not)

  pub are_damaged : tells → AreDamaged records image names
  are_damaged told = record {
    order = in_order (IsPicking tells image) (IsPassing tells image) rows names rising done;
    exact = λ name. (damaged_row told name, named_row told name);
  }
