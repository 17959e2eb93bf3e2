-- The parts of a revision, place by place; and a volume that is read again.
use Rattle.std.proofs.Common.{◌≡◌, ℕ, suc, ◌+◌, ◌-◌, ◌<◌, ◌≤◌, List, [], ◌∷◌, ◌++◌, map, Option, Some, None, Bool, true, false, is_some, cond, refl, sym, ◌∙◌, ap, subst, arith, take, get_or, Contains, ◌⊎◌, inl, inr}
use Rattle.std.proofs.lemmas.Bool.{cases_lt}
use Rattle.std.proofs.lemmas.List.{flat_map_more, take_more, take_all}
use Rattle.std.specs.Prelude.{option_map, ◌==◌, ◌||◌, Result, Ok, Err, IfOk}
use Rattle.std.specs.List.{flat_map, filter, list_any}
use Rattle.std.specs.FinMap.{get}
use Rattle.std.proofs.lemmas.List.Elements.{Contains-append_right, All-contains, All-filter, All-from_recursion, All-map}
use Rattle.std.proofs.lemmas.Bool.Decides.{Decides-eqb}
use Rattle.sha2.specs.Sha256.{sha256}
use Rattle.deposit_name.specs.Name.{Name}
use Rattle.vault_volume.specs.declared.vault.Vault.{Vault}
use Rattle.vault_volume.specs.declared.volume.Volume as volume
use Rattle.vault_volume.specs.Extents.{part_bytes}
use Rattle.vault_volume.specs.Vault.{volume_of}
use Rattle.vault_volume.proofs.Moments.{at_end, chained, nothing_yet}
use Rattle.extent_map.specs.declared.extent.Extent.{Extent}
use Rattle.custody_records.specs.Keys.{PartKey, part_cmp}
use Rattle.custody_records.specs.Records.{PartRecord, Records, key_of}
use Rattle.custody_machine.specs.Machine.{bytes_held, joined_bytes, part_keys, revision_part}
use Rattle.custody_machine.specs.State.{part_numbers, key_with_part}
use Rattle.custody_machine.specs.StoredState.{part_of, state_in, HasDigestAt, HaveExtentsInRange, AreExtents, ForExtents}
use Rattle.custody_machine.proofs.MapValues.{get-map_values}
use Rattle.custody_machine.proofs.Series.{at_below, is_place}
use Rattle.custody.specs.Reading.{ReadsVault, bytes_under}

-- ---- keys of places

module _ (p : ℕ → Bool) (f : ℕ → PartKey) where
  key_in : (n : ℕ) → p n ≡ true → (xs : List ℕ) → list_any (λ m. m == n) xs ≡ true → Contains (map f (filter p xs)) (f n)
  key_in n passes [] h = cc
  key_in n passes (x ∷ xs) h = by (x == n) refl h (key_in n passes xs)
    where
      also : (b : Bool) → Contains (map f (filter p xs)) (f n) → Contains (map f (cond b (x ∷ filter p xs) (filter p xs))) (f n)
      also true rest = Contains-append_right (f x ∷ []) (map f (filter p xs)) (f n) rest
      also false rest = rest

      by : (b : Bool) → (x == n) ≡ b → (b || list_any (λ m. m == n) xs) ≡ true → (list_any (λ m. m == n) xs ≡ true → Contains (map f (filter p xs)) (f n)) → Contains (map f (filter p (x ∷ xs))) (f n)
      by true is h rest =
          let same : x ≡ n = (Decides-eqb x n).0 is in
          let kept : p x ≡ true = ap p same ∙ passes in
          subst (λ b. Contains (map f (cond b (x ∷ filter p xs) (filter p xs))) (f n)) (sym kept) (subst (λ m. Contains (f x ∷ map f (filter p xs)) (f m)) same (0, omega arith, refl))
      by false is h rest = also (p x) (rest h)

-- ---- a revision

module _ (records : Records) (image : List ℕ) (name : Name) where
  abbrev pub key_at : ℕ → PartKey
  key_at place = key_with_part (key_of name) place

  place_is : (place : ℕ) → revision_part (state_in records image) name place ≡ option_map (part_of image) (get records.parts (key_at place))
  place_is place = get-map_values part_cmp (part_of image) records.parts (key_at place)

  pub joined_is : flat_map (λ place. bytes_under image records (key_at place)) part_numbers ≡ joined_bytes (state_in records image) name
  joined_is = λ i. flat_map (λ place. bytes_held (sym (place_is place) i)) part_numbers

  -- where the part at each place has its digest, each that is read has
  pub all_sound : ((k : ℕ) → k < 8 → HasDigestAt image records (key_at (suc k))) → (key : PartKey) → Contains (part_keys (state_in records image) name) key → HasDigestAt image records key
  all_sound sound key within =
      All-contains (HasDigestAt image records) _ key
      (All-map (HasDigestAt image records) key_at _ (All-filter (λ place. is_some (revision_part (state_in records image) name place)) (λ place. HasDigestAt image records (key_at place)) part_numbers
      (All-from_recursion (λ place. HasDigestAt image records (key_at place)) part_numbers
      (sound 0 (omega arith), (sound 1 (omega arith), (sound 2 (omega arith), (sound 3 (omega arith), (sound 4 (omega arith), (sound 5 (omega arith), (sound 6 (omega arith), (sound 7 (omega arith), tt)))))))))))
      within

  -- and one that has not is read
  pub broken_read : (k : ℕ) → k < 8 → (¬ HasDigestAt image records (key_at (suc k))) → Contains (part_keys (state_in records image) name) (key_at (suc k))
  broken_read k lt broken = key_in (λ place. is_some (revision_part (state_in records image) name place)) key_at (suc k) (by (get records.parts (key_at (suc k))) refl) part_numbers (is_place k lt)
    where
      by : (o : Option PartRecord) → get records.parts (key_at (suc k)) ≡ o → is_some (revision_part (state_in records image) name (suc k)) ≡ true
      by None at = absurd (broken (λ part extents there held. cc))
      by (Some part) at = ap is_some (place_is (suc k)) ∙ ap (λ o. is_some (option_map (part_of image) o)) at

  -- ---- one place more

  abbrev bytes_at : ℕ → List ℕ
  bytes_at place = bytes_under image records (key_at place)

  place_at : (n : ℕ) → n < 8 → get_or part_numbers n 0 ≡ suc n
  place_at = at_below 8 (λ n. get_or part_numbers n 0 ≡ suc n) (refl, (refl, (refl, (refl, (refl, (refl, (refl, (refl, tt))))))))

  front_more : (n : ℕ) → n < 8 → flat_map bytes_at (take n part_numbers) ++ bytes_at (suc n) ≡ flat_map bytes_at (take (n + 1) part_numbers)
  front_more n lt = flat_map_more bytes_at [] (take n part_numbers) (suc n) ∙ ap (λ m. flat_map bytes_at (take n part_numbers ++ m ∷ [])) (sym (place_at n lt)) ∙ ap (flat_map bytes_at) (sym (take_more part_numbers n 0 lt))

  module _ (place : ℕ) (low : 1 ≤ place) (high : place ≤ 8) (seen : List ℕ) (same : seen ≡ image) (key : PartKey) (is : key ≡ key_at place) where
    before : ℕ
    before = place - 1

    next : suc (place - 1) ≡ place
    next = omega (arith, low)

    here : key ≡ key_at (suc (place - 1))
    here = is ∙ ap key_at (sym next)

    pub bytes_more : (front items : List ℕ) → front ≡ flat_map bytes_at (take (place - 1) part_numbers) → items ≡ front ++ bytes_under seen records key → items ≡ flat_map bytes_at (take (place + 1 - 1) part_numbers)
    bytes_more front items was added =
        let count : place - 1 + 1 ≡ place + 1 - 1 = omega (arith, low) in
        added ∙ (λ i. was i ++ bytes_under (same i) records (here i)) ∙ front_more (place - 1) (omega (arith, low, high)) ∙ ap (λ n. flat_map bytes_at (take n part_numbers)) count

    pub sound_more : ((k : ℕ) → suc k < place → HasDigestAt image records (key_at (suc k))) → HasDigestAt seen records key → (k : ℕ) → suc k < place + 1 → HasDigestAt image records (key_at (suc k))
    sound_more each last k lt = by (cases_lt (suc k) place)
      where
        by : (suc k < place) ⊎ (place ≤ suc k) → HasDigestAt image records (key_at (suc k))
        by (inl less) = each k less
        by (inr most) = let at : place ≡ suc k = omega (arith, lt, most) in subst (HasDigestAt image records) (is ∙ ap key_at at) (subst (λ j. HasDigestAt j records key) same last)

    pub broken_at : (¬ HasDigestAt seen records key) → Contains (part_keys (state_in records image) name) key × (¬ HasDigestAt image records key)
    broken_at broken =
        (subst (λ k. (¬ HasDigestAt image records k) → Contains (part_keys (state_in records image) name) k) (sym here) (broken_read (place - 1) (omega (arith, low, high))) still, still)
      where
        still : ¬ HasDigestAt image records key
        still has = broken (subst (λ j. HasDigestAt j records key) (sym same) has)

  pub whole_read : (place : ℕ) → 9 ≤ place → (items : List ℕ) → items ≡ flat_map bytes_at (take (place - 1) part_numbers) → ((k : ℕ) → suc k < place → HasDigestAt image records (key_at (suc k)))
      → (items ≡ joined_bytes (state_in records image) name) × ((key : PartKey) → Contains (part_keys (state_in records image) name) key → HasDigestAt image records key)
  whole_read place most items is sound = (is ∙ ap (flat_map bytes_at) (take_all (place - 1) part_numbers (omega (arith, most))) ∙ joined_is, all_sound (λ k lt. sound k (omega (arith, lt, most))))

-- ---- the part with a key

pub in_range : (records : Records) (key : PartKey) (kept : PartRecord) (extents : List Extent) (blocks : ℕ) → HaveExtentsInRange records → get records.parts key ≡ Some kept → kept.extents ≡ Some extents → blocks ≡ records.blocks → AreExtents blocks kept.len extents
in_range records key kept extents blocks all at held same = subst (λ b. AreExtents b kept.len extents) (sym same) (subst (λ o. ForExtents o (AreExtents records.blocks kept.len)) held (all key kept at))

pub if_ok_then : {T E : Type 0} (P Q : T → Type 0) (r : Result T E) → ((x : T) → P x → Q x) → IfOk r P → IfOk r Q
if_ok_then P Q (Ok x) f h = f x h
if_ok_then P Q (Err e) f h = tt

pub dropped_sound : (image : List ℕ) (records : Records) (key : PartKey) (kept : PartRecord) → get records.parts key ≡ Some kept → kept.extents ≡ None → HasDigestAt image records key
dropped_sound image records key kept at dropped part extents there held = cc

module _ (image : List ℕ) (records : Records) (key : PartKey) (kept : PartRecord) (extents : List Extent) (at : get records.parts key ≡ Some kept) (held : kept.extents ≡ Some extents) where
  pub held_sound : sha256 (part_bytes image extents kept.len) ≡ kept.digest → HasDigestAt image records key
  held_sound is p es there within =
      let one : kept ≡ p = cc in
      let all : extents ≡ es = cc in
      subst (λ q. sha256 (part_bytes image es q.len) ≡ q.digest) one (subst (λ l. sha256 (part_bytes image l kept.len) ≡ kept.digest) all is)

  pub held_broken : (¬ (sha256 (part_bytes image extents kept.len) ≡ kept.digest)) → ¬ HasDigestAt image records key
  held_broken broken has = broken (has kept extents at held)

-- ---- a volume that is read again

module _ {V : Type 0} {g : volume.Ghosts V} where
  pub not_read : (vault : Vault V g) → ReadsVault vault vault
  not_read vault = record {
    free = λ b. (λ f. f, λ f. f);
    size = refl;
    image = λ _. refl;
    any_moment = λ _. nothing_yet g.moment g.left_at (volume_of vault) _ (λ c w. w);
  }

  pub read_again : (first mid last : Vault V g) → ReadsVault first mid → ReadsVault mid last → ReadsVault first last
  read_again first mid last a b = record {
    free = λ n. (λ f. (a.free n).0 ((b.free n).0 f), λ f. (b.free n).1 ((a.free n).1 f));
    size = b.size ∙ a.size;
    image = λ tells. b.image tells ∙ a.image tells;
    any_moment = λ tells. let read = a.any_moment tells in
        chained g.moment g.left_at (volume_of first) (volume_of mid) (volume_of last) _ _ read (b.any_moment tells)
        (at_end g.moment g.left_at (volume_of first) (volume_of mid) _ read);
  }
