-- The deposits of a chain, read one after the other: the keys after them, and the digests of their parts.
use Rattle.std.proofs.Common.{◌≡◌, ℕ, zero, suc, ◌+◌, ◌-◌, ◌<◌, ◌≤◌, List, [], ◌∷◌, ◌++◌, map, length, get_or, take, drop, Option, None, refl, sym, ◌∙◌, ap, subst, arith, Contains, ⊎_elim}
use Rattle.std.specs.Prelude.{option_and_then, IfSome}
use Rattle.std.specs.List.{flat_map}
use Rattle.std.proofs.lemmas.List.{flat_map_more, map_more, nil_from_length, take_all, take_more}
use Rattle.std.proofs.lemmas.List.Elements.{Contains-append_left, Contains-append_right, Contains-append_cases}
use Rattle.std.proofs.lemmas.List.Sums.{fold-append}
use Rattle.deposit_name.specs.Name.{Name}
use Rattle.deposit_verify.specs.declared.base.Base.{Base}
use Rattle.deposit_verify.specs.declared.reason.Reason.{Reason}
use Rattle.deposit_verify.specs.declared.verdict.Verdict.{Verdict}
use Rattle.deposit_verify.specs.Bases.{all_then, base_at, base_of_first, base_then}
use Rattle.deposit_verify.specs.Known.{Known}
use Rattle.deposit_verify.specs.Reasons.{IsReason}
use Rattle.deposit_verify.specs.Verdict.{verdict}
use Rattle.custody_records.specs.Keys.{PartKey}
use Rattle.custody_records.specs.Records.{Records}
use Rattle.custody_machine.specs.declared.command.Statement as statement
use Rattle.custody_machine.specs.Machine.{base_of, first_part, held_chain, joined_bytes, known_of, part_keys, verdict_keys, verdict_on}
use Rattle.custody_machine.specs.StoredState.{state_in, HasDigestAt}
use Rattle.custody.specs.inside.Verifying.{chain_keys}

-- ---- the keys after a chain

-- after no deposit there are none
none_at : base_at [] ≡ None
unfolding base_at
none_at = refl

-- after a first one and later ones there are those of the first, brought on by the later ones
some_at : (first : List ℕ) (later : List (List ℕ)) → base_at (first ∷ later) ≡ all_then (base_of_first first) later
unfolding base_at
some_at first later = refl

-- one later deposit more
then_more : (start : Option Base) (later : List (List ℕ)) (next : List ℕ) → all_then start (later ++ next ∷ []) ≡ option_and_then (λ (base : Base). base_then base next) (all_then start later)
then_more start later next = fold-append (λ (found : Option Base) (bytes : List ℕ). option_and_then (λ (base : Base). base_then base bytes) found) start later (next ∷ [])

-- ---- what the deposits of a list give

module _ {X A : Type 0} (f : X → List A) (a : A) where
  -- what one gives is among what all give
  in_all : (xs : List X) (i : ℕ) (x : X) → i < length xs → x ≡ get_or xs i x → Contains (f x) a → Contains (flat_map f xs) a
  in_all [] i x lt is within = absurd (omega (arith, lt))
  in_all (y ∷ xs) zero x lt is within = Contains-append_left (f y) (flat_map f xs) a (subst (λ z. Contains (f z) a) is within)
  in_all (y ∷ xs) (suc i) x lt is within = Contains-append_right (f y) (flat_map f xs) a (in_all xs i x (omega (arith, lt)) is within)

-- ---- digests

-- each of these parts has its digest
abbrev pub AreSound : Records → List ℕ → List PartKey → Type 0
AreSound records image keys = (key : PartKey) → Contains keys key → HasDigestAt image records key

-- one of them has not
abbrev pub IsBroken : Records → List ℕ → List PartKey → Type 0
IsBroken records image keys = (key : PartKey) × Contains keys key × (¬ HasDigestAt image records key)

-- where these and those have their digests, all have
both_sound : (records : Records) (image : List ℕ) (these those : List PartKey) → AreSound records image these → AreSound records image those → AreSound records image (these ++ those)
both_sound records image these those here there key within = ⊎_elim (here key) (there key) (Contains-append_cases these those key within)

-- the places of the parts of deposits
abbrev pub keys_of : Records → List ℕ → List Name → List PartKey
keys_of records image names = flat_map (part_keys (state_in records image)) names

-- the deposits after the first
abbrev pub later_of : List Name → List Name
later_of names = take (length names - 1) (drop 1 names)

module _ (records : Records) (image : List ℕ) (seen : List ℕ) (same : seen ≡ image) (later : List Name) (i : ℕ) (name : Name) (lt : i < length later) (is : name ≡ get_or later i name) where
  -- one later deposit more is read
  pub base_more : (start found next : Option Base) (bytes : List ℕ) → bytes ≡ joined_bytes (state_in records seen) name → next ≡ option_and_then (λ (base : Base). base_then base bytes) found
      → found ≡ all_then start (map (joined_bytes (state_in records image)) (take i later)) → next ≡ all_then start (map (joined_bytes (state_in records image)) (take (i + 1) later))
  base_more start found next bytes read after before =
      let f = joined_bytes (state_in records image) in
      after
      ∙ ap (λ (b : List ℕ). option_and_then (λ (base : Base). base_then base b) found) (read ∙ ap (λ j. joined_bytes (state_in records j) name) same)
      ∙ ap (option_and_then (λ (base : Base). base_then base (f name))) before
      ∙ sym (then_more start (map f (take i later)) (f name))
      ∙ ap (all_then start) (sym (map_more f later i name lt ∙ ap (λ x. map f (take i later) ++ f x ∷ []) (sym is)))

  -- and its parts have their digests
  pub sound_more : AreSound records seen (part_keys (state_in records seen) name) → AreSound records image (keys_of records image (take i later)) → AreSound records image (keys_of records image (take (i + 1) later))
  sound_more here before =
      let keys = part_keys (state_in records image) in
      subst (AreSound records image)
      (flat_map_more keys [] (take i later) name ∙ ap (keys_of records image) (sym (take_more later i name lt ∙ ap (λ x. take i later ++ x ∷ []) (sym is))))
      (both_sound records image (keys_of records image (take i later)) (keys name) before (subst (λ j. AreSound records j (part_keys (state_in records j) name)) same here))

-- no deposit is read yet
pub sound_first : (records : Records) (image : List ℕ) → AreSound records image (keys_of records image [])
sound_first records image key within = absurd (omega (arith, within.1))

-- ---- the chain of a stated deposit

module _ (records : Records) (image : List ℕ) (stated : statement.Statement) (names : List Name) (chain : names ≡ held_chain (state_in records image) stated) where
  -- it follows none
  is_empty : length names < 1 → [] ≡ held_chain (state_in records image) stated
  is_empty few = sym (nil_from_length names (omega (arith, few))) ∙ chain

  -- so there are no keys
  pub none_base : length names < 1 → None ≡ base_of (state_in records image) stated
  none_base few = sym none_at ∙ ap (λ l. base_at (map (joined_bytes (state_in records image)) l)) (is_empty few)

  -- and no parts
  pub none_sound : length names < 1 → AreSound records image (chain_keys records image stated)
  none_sound few = subst (λ l. AreSound records image (keys_of records image l)) (is_empty few) (sound_first records image)

  module _ (first : Name) (low : 1 ≤ length names) (is : first ≡ get_or names 0 first) where
    whole : first ∷ later_of names ≡ held_chain (state_in records image) stated
    whole = by names low is ∙ chain
      where
        by : (xs : List Name) → 1 ≤ length xs → first ≡ get_or xs 0 first → first ∷ later_of xs ≡ xs
        by [] least at = absurd (omega (arith, least))
        by (x ∷ xs) least at = λ j. at j ∷ take_all (length (x ∷ xs) - 1) xs (omega arith) j

    -- where all are read, the keys are those after the chain
    pub base_whole : (bytes : List ℕ) (start found : Option Base) → bytes ≡ joined_bytes (state_in records image) first → start ≡ base_at (bytes ∷ []) → (i : ℕ) → length (later_of names) ≤ i
        → found ≡ all_then start (map (joined_bytes (state_in records image)) (take i (later_of names))) → found ≡ base_of (state_in records image) stated
    base_whole bytes start found read at i end all =
        let f = joined_bytes (state_in records image) in
        all
        ∙ ap (λ l. all_then start (map f l)) (take_all i (later_of names) end)
        ∙ ap (λ o. all_then o (map f (later_of names))) (at ∙ some_at bytes [] ∙ ap base_of_first read)
        ∙ sym (some_at (f first) (map f (later_of names)))
        ∙ ap (λ l. base_at (map f l)) whole

    -- and their parts have their digests
    pub sound_whole : AreSound records image (part_keys (state_in records image) first) → (i : ℕ) → length (later_of names) ≤ i → AreSound records image (keys_of records image (take i (later_of names)))
        → AreSound records image (chain_keys records image stated)
    sound_whole here i end behind =
        let all = keys_of records image (later_of names) in
        subst (λ l. AreSound records image (keys_of records image l)) whole
        (both_sound records image (part_keys (state_in records image) first) all here (subst (λ l. AreSound records image (keys_of records image l)) (take_all i (later_of names) end) behind))

    -- a part of the first deposit that has not its digest is one of the chain
    pub broken_first : IsBroken records image (part_keys (state_in records image) first) → IsBroken records image (chain_keys records image stated)
    broken_first broken =
        (broken.0, subst (λ l. Contains (keys_of records image l) broken.0) whole (in_all (part_keys (state_in records image)) broken.0 (first ∷ later_of names) 0 first (omega arith) refl broken.1), broken.2)

    -- and so is one of a later deposit
    pub broken_later : (seen : List ℕ) → seen ≡ image → (i : ℕ) (name : Name) → i < length (later_of names) → name ≡ get_or (later_of names) i name
        → IsBroken records seen (part_keys (state_in records seen) name) → IsBroken records image (chain_keys records image stated)
    broken_later seen same i name lt at there =
        let broken = subst (λ j. IsBroken records j (part_keys (state_in records j) name)) same there in
        (broken.0, subst (λ l. Contains (keys_of records image l) broken.0) whole (in_all (part_keys (state_in records image)) broken.0 (first ∷ later_of names) (suc i) name (omega (arith, lt)) at broken.1), broken.2)

-- ---- the stated deposit behind its chain

module _ (records : Records) (image : List ℕ) (stated : statement.Statement) where
  -- a part of the chain that has not its digest is one that the verdict hangs on
  pub broken_chain : IsBroken records image (chain_keys records image stated) → IsBroken records image (verdict_keys (state_in records image) stated)
  broken_chain broken = (broken.0, Contains-append_right (part_keys (state_in records image) (first_part stated)) (chain_keys records image stated) broken.0 broken.1, broken.2)

  module _ (seen : List ℕ) (same : seen ≡ image) (name : Name) (is : name ≡ first_part stated) where
    -- and so is one of the stated deposit
    pub broken_stated : IsBroken records seen (part_keys (state_in records seen) name) → IsBroken records image (verdict_keys (state_in records image) stated)
    broken_stated there =
        let broken = subst (λ n. IsBroken records image (part_keys (state_in records image) n)) is (subst (λ j. IsBroken records j (part_keys (state_in records j) name)) same there) in
        (broken.0, Contains-append_left (part_keys (state_in records image) (first_part stated)) (chain_keys records image stated) broken.0 broken.1, broken.2)

    -- where those of both have their digests, all have
    pub sound_both : AreSound records image (chain_keys records image stated) → AreSound records seen (part_keys (state_in records seen) name) → AreSound records image (verdict_keys (state_in records image) stated)
    sound_both chain there =
        both_sound records image (part_keys (state_in records image) (first_part stated)) (chain_keys records image stated)
        (subst (λ n. AreSound records image (part_keys (state_in records image) n)) is (subst (λ j. AreSound records j (part_keys (state_in records j) name)) same there)) chain

    -- the bytes that were read are those of the stated parts
    pub bytes_are : (bytes : List ℕ) → bytes ≡ joined_bytes (state_in records seen) name → bytes ≡ joined_bytes (state_in records image) (first_part stated)
    bytes_are bytes read = read ∙ (λ i. joined_bytes (state_in records (same i)) (is i))

  -- with the keys after its chain all is known of it
  pub known_is : (about : Known) (base : Option Base) → about ≡ record (known_of (state_in records image) stated) { base = base } → base ≡ base_of (state_in records image) stated → about ≡ known_of (state_in records image) stated
  known_is about base knows at = knows ∙ ap (λ b. record (known_of (state_in records image) stated) { base = b }) at

  -- the verdict on what was read, with what is known of it
  pub verdict_is : (found : Verdict) (bytes : List ℕ) (about : Known) → found ≡ verdict bytes about → bytes ≡ joined_bytes (state_in records image) (first_part stated) → about ≡ known_of (state_in records image) stated
      → found ≡ verdict_on (state_in records image) stated
  verdict_is found bytes about told read known = told ∙ (λ i. verdict (read i) (known i))

  -- and the reason
  pub reason_is : (found : Option Reason) (bytes : List ℕ) (about : Known) → bytes ≡ joined_bytes (state_in records image) (first_part stated) → about ≡ known_of (state_in records image) stated
      → IfSome found (IsReason bytes about) → IfSome found (IsReason (joined_bytes (state_in records image) (first_part stated)) (known_of (state_in records image) stated))
  reason_is found bytes about read known told = subst (λ k. IfSome found (IsReason (joined_bytes (state_in records image) (first_part stated)) k)) known (subst (λ b. IfSome found (IsReason b about)) read told)
