-- What holds of an open custody after the bytes of parts were dropped and their blocks given back.
use Rattle.std.proofs.Common.{◌≡◌, ◌⊎◌, inl, inr, ⊎_elim, ℕ, suc, ◌+◌, ◌<◌, ◌≤◌, ◌&&◌, List, [], ◌∷◌, Option, Some, None, is_some, Bool, true, false, cond, Result, Ok, Err, refl, sym, ◌∙◌, ap, subst, arith}
use Rattle.std.specs.Prelude.{All, ◌*◌, length, nat_lt, not, count_by, bytes_eq}
use Rattle.std.specs.FinMap.{FinMap, entries, same_map}
use Rattle.std.proofs.lemmas.List.{length-take-le}
use Rattle.std.specs.List.{fold, list_all}
use Rattle.std.specs.Option.{option_map}
use Rattle.std.specs.FinMap.{get}
use Rattle.std.proofs.lemmas.Option.{same_Some}
use Rattle.deposit_name.specs.declared.kinds.Kind.{Kind}
use Rattle.deposit_name.specs.declared.errors.NameError.{NameError}
use Rattle.deposit_name.specs.Name.{Name}
use Rattle.extent_map.specs.declared.extent.Extent.{Extent}
use Rattle.extent_map.proofs.SetLemmas.{in_or_not}
use Rattle.sha2.specs.Sha256.{sha256}
use Rattle.schedule.specs.Schedule.{day_of, year_after}
use Rattle.vault_volume.proofs.ExtentLemmas.{length-bytes_of}
use Rattle.custody_records.specs.inside.Orders.{part_total, part_exact}
use Rattle.vault_volume.specs.Extents.{IsExtentOf, IsIn, IsInAny, AreApart, GivesBack, bytes_of, part_bytes}
use Rattle.custody_records.specs.Keys.{text_cmp, PartKey, part_cmp}
use Rattle.custody_records.specs.Records.{Hold, PartRecord, Records, key_of}
use Rattle.custody_machine.specs.NameReading.{read_name}
use Rattle.custody_machine.specs.State.{State, Part, Dropped}
use Rattle.custody_machine.specs.StoredState.{ForExtents, HaveBlock, IsPartBlock, AreExtents, AreWhole, content_of, part_of, is_part_of, is_name_of_part, AreWholeOnVolume, SameOrDropped, KeepsParts, state_in}
use Rattle.custody_machine.specs.Custody.{IsPlaceable, IsInOrder}
use Rattle.custody_records.specs.Purge.{is_on_hold, is_due, dropped_if_due}
use Rattle.custody_machine.specs.Machine as machine
use Rattle.custody_machine.specs.Machine.{Purge, OfPurge, Accept, step}
use Rattle.custody_machine.specs.Rulings.{DropsBytes, GoRuling, Decides}
use Rattle.custody_machine.specs.Purge.{records_without_due, count_due_records, IsDueBlock}
use Rattle.custody_machine.specs.MapValues.{map_entries, map_keyed}
use Rattle.custody_machine.proofs.Options.{mapped}
use Rattle.custody_machine.proofs.MapValues.{get-map_values, entries-map_values, get-map_keyed}
use Rattle.vault_volume.proofs.ImageLemmas.{same_in}
use Rattle.custody_machine.proofs.Composed.{IsChange, named_used, head_used}

-- ---- blocks in extents, or not

in_any_or_not : (es : List Extent) (b : ℕ) → IsInAny es b ⊎ (IsInAny es b → ⊥)
in_any_or_not [] b = inr (λ none. none)
in_any_or_not (e ∷ es) b = ⊎_elim
    (λ (here : IsIn e b). inl (inl here))
    (λ (out : IsIn e b → ⊥). ⊎_elim
    (λ (there : IsInAny es b). inl (inr there))
    (λ (none : IsInAny es b → ⊥). inr (λ h. ⊎_elim out none h))
    (in_any_or_not es b))
    (in_or_not e b)

-- a block of extents that lie in a volume lies in it, and is not block 0
in_volume : (blocks : ℕ) (es : List Extent) (b : ℕ) → All (IsExtentOf blocks) es → IsInAny es b → (1 ≤ b) × (b < blocks)
in_volume blocks [] b each none = absurd none
in_volume blocks (e ∷ es) b each (inl here) =
    let within = each 0 e (omega arith) in
    let first = within.0 in
    let last = within.2 in
    let low = here.0 in
    let high = here.1 in
    (omega arith, omega arith)
in_volume blocks (e ∷ es) b each (inr there) = in_volume blocks es b (λ k d lt. each (suc k) d (omega (arith, lt))) there

-- ---- one part

kind_kept : (holds : FinMap text_cmp Hold) (today : ℕ) (key : PartKey) (part : PartRecord) → (dropped_if_due holds today key part).kind ≡ part.kind
kind_kept holds today key part = elim (is_due holds today key part) as (λ b. (cond b (record part { extents = None }) part).kind ≡ part.kind) [ true ↦ refl | false ↦ refl ]

-- what a part names then it named before, and is not due
still_names : (holds : FinMap text_cmp Hold) (today : ℕ) (key : PartKey) (part : PartRecord) (b : ℕ) → HaveBlock (dropped_if_due holds today key part).extents b → (is_due holds today key part ≡ false) × HaveBlock part.extents b
still_names holds today key part b names = by (is_due holds today key part) refl names
  where
    by : (d : Bool) → is_due holds today key part ≡ d → HaveBlock (cond d (record part { extents = None }) part).extents b → (is_due holds today key part ≡ false) × HaveBlock part.extents b
    by true is none = absurd none
    by false is names = (is, names)

names_still : (holds : FinMap text_cmp Hold) (today : ℕ) (key : PartKey) (part : PartRecord) (b : ℕ) → is_due holds today key part ≡ false → HaveBlock part.extents b → HaveBlock (dropped_if_due holds today key part).extents b
names_still holds today key part b not_due names = subst (λ d. HaveBlock (cond d (record part { extents = None }) part).extents b) (sym not_due) names

for_kept : (holds : FinMap text_cmp Hold) (today : ℕ) (key : PartKey) (part : PartRecord) (P : List Extent → Type 0) → ForExtents part.extents P → ForExtents (dropped_if_due holds today key part).extents P
for_kept holds today key part P h = elim (is_due holds today key part) as (λ d. ForExtents (cond d (record part { extents = None }) part).extents P) [ true ↦ tt | false ↦ h ]

len_kept : (holds : FinMap text_cmp Hold) (today : ℕ) (key : PartKey) (part : PartRecord) → (dropped_if_due holds today key part).len ≡ part.len
len_kept holds today key part = elim (is_due holds today key part) as (λ b. (cond b (record part { extents = None }) part).len ≡ part.len) [ true ↦ refl | false ↦ refl ]

-- ---- all parts

module _ (today : ℕ) (records : Records) where
  abbrev then : Records
  then = records_without_due today records

  got : (key : PartKey) → get then.parts key ≡ option_map (dropped_if_due records.holds today key) (get records.parts key)
  got key = get-map_keyed part_cmp part_exact (dropped_if_due records.holds today) records.parts key

  -- each part then is one from before
  was : (key : PartKey) (part : PartRecord) → get then.parts key ≡ Some part → (old : PartRecord) × (get records.parts key ≡ Some old) × (part ≡ dropped_if_due records.holds today key old)
  was key part has = let old = mapped (dropped_if_due records.holds today key) (get records.parts key) part (sym (got key) ∙ has) in (old.0, old.1, sym old.2)

  now : (key : PartKey) (old : PartRecord) → get records.parts key ≡ Some old → get then.parts key ≡ Some (dropped_if_due records.holds today key old)
  now key old has = got key ∙ ap (option_map (dropped_if_due records.holds today key)) has

  kind_same : (kind : Kind) (key : PartKey) → is_part_of kind (get then.parts key) ≡ is_part_of kind (get records.parts key)
  kind_same kind key = ap (is_part_of kind) (got key) ∙ by (get records.parts key)
    where
      by : (o : Option PartRecord) → is_part_of kind (option_map (dropped_if_due records.holds today key) o) ≡ is_part_of kind o
      by None = refl
      by (Some part) = ap (λ k. Rattle.deposit_name.specs.Name.is_same_kind k kind) (kind_kept records.holds today key part)

  some_still : (key : PartKey) → is_some (get then.parts key) ≡ is_some (get records.parts key)
  some_still key = ap is_some (got key) ∙ by (get records.parts key)
    where
      by : (o : Option PartRecord) → is_some (option_map (dropped_if_due records.holds today key) o) ≡ is_some o
      by None = refl
      by (Some part) = refl

  names_same : (tld : List ℕ) (r : Result Name NameError) → is_name_of_part then tld r ≡ is_name_of_part records tld r
  names_same tld (Err fault) = refl
  names_same tld (Ok name) = ap (λ b. bytes_eq name.tld tld && b) (kind_same name.kind (key_of name))

  -- the records stay whole
  pub whole-without_due : AreWhole records → AreWhole then
  whole-without_due whole = record {
    extents = λ key part has.
        let old = was key part has in
        subst (λ (p : PartRecord). ForExtents p.extents (AreExtents records.blocks p.len)) (sym old.2)
        (subst (λ n. ForExtents (dropped_if_due records.holds today key old.0).extents (AreExtents records.blocks n)) (sym (len_kept records.holds today key old.0))
        (for_kept records.holds today key old.0 (AreExtents records.blocks old.0.len) (whole.extents key old.0 old.1)));
    once = record {
      within = λ key part has. let old = was key part has in subst (λ (p : PartRecord). ForExtents p.extents AreApart) (sym old.2) (for_kept records.holds today key old.0 AreApart (whole.once.within key old.0 old.1));
      between = λ j k p q b has has_too here there.
          let first = was j p has in
          let second = was k q has_too in
          whole.once.between j k first.0 second.0 b first.1 second.1
          (still_names records.holds today j first.0 b (subst (λ (r : PartRecord). HaveBlock r.extents b) first.2 here)).1
          (still_names records.holds today k second.0 b (subst (λ (r : PartRecord). HaveBlock r.extents b) second.2 there)).1;
    };
    linked = record {
      part_registry = λ key part has. let old = was key part has in whole.linked.part_registry key old.0 old.1;
      notice_registry = whole.linked.notice_registry;
      release_registry = whole.linked.release_registry;
      hold_registry = whole.linked.hold_registry;
      released = λ reference release has. (λ i. list_all (λ text. names_same release.tld (read_name text) i) release.names) ∙ whole.linked.released reference release has;
      series = λ key part has n is.
          let old = was key part has in
          kind_same part.kind _ ∙ ap (λ (p : PartRecord). is_part_of p.kind (get records.parts (Rattle.custody_machine.specs.State.key_with_part key (suc n)))) old.2
          ∙ ap (λ k. is_part_of k (get records.parts (Rattle.custody_machine.specs.State.key_with_part key (suc n)))) (kind_kept records.holds today key old.0) ∙ whole.linked.series key old.0 old.1 n is;
      numbers = whole.linked.numbers;
      verdict_parts = λ key notice rev has is. some_still _ ∙ whole.linked.verdict_parts key notice rev has is;
      one_verdict = whole.linked.one_verdict;
      due = λ key part has. let old = was key part has in whole.linked.due key old.0 old.1;
      one_receipt = whole.linked.one_receipt;
      one_absence = whole.linked.one_absence;
    };
  }

  -- ---- free blocks: those that were free, and those of the parts that were due

  named_before : (b : ℕ) → IsPartBlock then b → IsPartBlock records b
  named_before b named =
      let old = was named.0 named.1 named.2 in
      (named.0, old.0, old.1, (still_names records.holds today named.0 old.0 b (subst (λ (p : PartRecord). HaveBlock p.extents b) old.2 named.3)).1)

  -- a block of a part that is due is named by no part then
  due_unnamed : AreWhole records → (b : ℕ) → IsDueBlock today records b → ¬ IsPartBlock then b
  due_unnamed whole b due named =
      let old = was named.0 named.1 named.2 in
      let kept = still_names records.holds today named.0 old.0 b (subst (λ (p : PartRecord). HaveBlock p.extents b) old.2 named.3) in
      let one = whole.once.between due.0 named.0 due.1 old.0 b due.2 old.1 due.4 kept.1 in
      let same : due.1 ≡ old.0 = same_Some due.1 old.0 (sym due.2 ∙ ap (get records.parts) one ∙ old.1) in
      let clash : true ≡ false = sym due.3 ∙ (λ i. is_due records.holds today (one i) (same i)) ∙ kept.0 in
      cc

  due_in_volume : AreWhole records → (b : ℕ) → IsDueBlock today records b → (1 ≤ b) × (b < records.blocks)
  due_in_volume whole b due = by due.1.extents (whole.extents due.0 due.1 due.2) due.4
    where
      by : (o : Option (List Extent)) → ForExtents o (AreExtents records.blocks due.1.len) → HaveBlock o b → (1 ≤ b) × (b < records.blocks)
      by None range none = absurd none
      by (Some es) range there = in_volume records.blocks es b range.each there

  module _ (size failures : ℕ) (free : ℕ → Type 0) (order : IsInOrder records size failures free) (es : List Extent) (exact : (b : ℕ) → (IsInAny es b → IsDueBlock today records b) × (IsDueBlock today records b → IsInAny es b)) where
    -- the blocks of the parts that are due are not free
    pub due_used : (b : ℕ) → IsInAny es b → ¬ free b
    due_used b there is = let due = (exact b).0 there in ((order.placeable b).0 is).2 (due.0, due.1, due.2, due.4)

    -- what is known in memory goes on, where just these blocks were given back
    pub purged_in_order : (later : ℕ → Type 0) → GivesBack free es later → IsInOrder then size failures later
    purged_in_order later gives = record {
      whole = whole-without_due order.whole;
      blocks = order.blocks;
      placeable = λ b. (to b, from b);
      count = order.count;
    }
      where
        to : (b : ℕ) → later b → IsPlaceable then b
        to b is = ⊎_elim
            (λ (before : free b). let p = (order.placeable b).0 before in (p.0, p.1, λ named. p.2 (named_before b named)))
            (λ (there : IsInAny es b).
            let due = (exact b).0 there in
            let in_range = due_in_volume order.whole b due in
            (in_range.0, in_range.1, due_unnamed order.whole b due))
            ((gives b).0 is)

        unnamed : (b : ℕ) → IsPlaceable then b → (IsInAny es b → ⊥) → (named : IsPartBlock records b) (d : Bool) → is_due records.holds today named.0 named.1 ≡ d → ⊥
        unnamed b p out named true is = out ((exact b).1 (named.0, named.1, named.2, is, named.3))
        unnamed b p out named false is = p.2 (named.0, dropped_if_due records.holds today named.0 named.1, now named.0 named.1 named.2, names_still records.holds today named.0 named.1 b is named.3)

        from : (b : ℕ) → IsPlaceable then b → later b
        from b p = ⊎_elim
            (λ (there : IsInAny es b). (gives b).1 (inr there))
            (λ (out : IsInAny es b → ⊥). (gives b).1 (inl ((order.placeable b).1 (p.0, p.1, λ named. unnamed b p out named (is_due records.holds today named.0 named.1) refl))))
            (in_any_or_not es b)

-- ---- what a stop leaves of it

is_kept : (holds : FinMap text_cmp Hold) (today : ℕ) (key : PartKey) (part : PartRecord) → SameOrDropped part (dropped_if_due holds today key part)
is_kept holds today key part = elim (is_due holds today key part) as (λ d. SameOrDropped part (cond d (record part { extents = None }) part)) [ true ↦ inr refl | false ↦ inl refl ]

-- a part that is held then was held before, as it is
still_held : (holds : FinMap text_cmp Hold) (today : ℕ) (key : PartKey) (part : PartRecord) (extents : List Extent) → (dropped_if_due holds today key part).extents ≡ Some extents → dropped_if_due holds today key part ≡ part
still_held holds today key part extents held = by (is_due holds today key part) refl held
  where
    by : (d : Bool) → is_due holds today key part ≡ d → (cond d (record part { extents = None }) part).extents ≡ Some extents → dropped_if_due holds today key part ≡ part
    by true is e = absurd (let clash = e in cc)
    by false is e = ap (λ d. cond d (record part { extents = None }) part) is

-- no part's record is lost or changed but by dropping its bytes
pub keeps-without_due : (today : ℕ) (records : Records) (image : List ℕ) → KeepsParts records image (records_without_due today records) image
keeps-without_due today records image = record {
  kept = λ key part at. (dropped_if_due records.holds today key part, now today records key part at, is_kept records.holds today key part);
  digests = λ key has part extents at held.
      let old = was today records key part at in
      let same : part ≡ old.0 = old.2 ∙ still_held records.holds today key old.0 extents (ap (λ (p : PartRecord). p.extents) (sym old.2) ∙ held) in
      subst (λ (p : PartRecord). sha256 (part_bytes image extents p.len) ≡ p.digest) (sym same) (has old.0 extents old.1 (ap (λ (p : PartRecord). p.extents) (sym same) ∙ held));
}

-- ---- the state after it

-- as many bytes are at a part's extents as its record says
length-content : (blocks : ℕ) (i : List ℕ) → length i ≡ 4096 * blocks → (len : ℕ) (o : Option (List Extent)) → ForExtents o (AreExtents blocks len) → machine.content_len (content_of i len o) ≡ len
length-content blocks i long len None range = refl
length-content blocks i long len (Some es) range =
    let whole = length-bytes_of i blocks es long (λ k d lt. (range.each k d lt).2) in
    let counts = range.counts in
    length-take-le len (bytes_of i es) (omega (arith, whole, counts))

due_same : (i : List ℕ) (holds : FinMap text_cmp Hold) (today : ℕ) (key : PartKey) (part : PartRecord) → machine.is_due_part holds today key (part_of i part) ≡ is_due holds today key part
due_same i holds today key part = by part.extents
  where
    by : (o : Option (List Extent)) → (not (machine.are_bytes_dropped (content_of i part.len o)) && (nat_lt (year_after (day_of part.received)) today && not (is_on_hold holds key))) ≡ (is_some o && (nat_lt (year_after (day_of part.received)) today && not (is_on_hold holds key)))
    by None = refl
    by (Some es) = refl

dropped_same : (i : List ℕ) (holds : FinMap text_cmp Hold) (today : ℕ) (key : PartKey) (part : PartRecord) → machine.content_len (content_of i part.len part.extents) ≡ part.len → machine.part_dropped_if_due holds today key (part_of i part) ≡ part_of i (dropped_if_due holds today key part)
dropped_same i holds today key part long = ap (λ b. cond b (machine.without_bytes (part_of i part)) (part_of i part)) (due_same i holds today key part) ∙ by (is_due holds today key part)
  where
    by : (b : Bool) → cond b (machine.without_bytes (part_of i part)) (part_of i part) ≡ part_of i (cond b (record part { extents = None }) part)
    by true = ap (λ n. record { kind = part.kind; received = part.received; content = Dropped n }) long
    by false = refl

module _ (records : Records) (i : List ℕ) (good : AreWholeOnVolume records i) (today : ℕ) where
  parts_then : map_keyed (machine.part_dropped_if_due records.holds today) (state_in records i).parts ≡ (state_in (records_without_due today records) i).parts
  parts_then = same_map part_total part_exact _ _ (λ key.
      get-map_keyed part_cmp part_exact (machine.part_dropped_if_due records.holds today) (state_in records i).parts key
      ∙ ap (option_map (machine.part_dropped_if_due records.holds today key)) (get-map_values part_cmp (part_of i) records.parts key)
      ∙ by key (get records.parts key) refl
      ∙ sym (get-map_values part_cmp (part_of i) (records_without_due today records).parts key ∙ ap (option_map (part_of i)) (got today records key)))
    where
      by : (key : PartKey) (o : Option PartRecord) → get records.parts key ≡ o → option_map (machine.part_dropped_if_due records.holds today key) (option_map (part_of i) o) ≡ option_map (part_of i) (option_map (dropped_if_due records.holds today key) o)
      by key None at = refl
      by key (Some part) at = ap Some (dropped_same i records.holds today key part (length-content records.blocks i good.volume.size part.len part.extents (good.whole.extents key part at)))

  pub state_then : machine.state_without_due (state_in records i) today ≡ state_in (records_without_due today records) i
  state_then = ap (λ parts. record (state_in records i) { parts = parts }) parts_then

  pub count_then : machine.count_due (state_in records i) today ≡ count_due_records today records
  count_then = ap (count_by (λ (e : PartKey × Part). machine.is_due_part records.holds today e.0 e.1)) (entries-map_values part_cmp (part_of i) records.parts) ∙ by 0 (entries records.parts)
    where
      by : (n : ℕ) (es : List (PartKey × PartRecord)) → fold (λ k (e : PartKey × Part). k + cond (machine.is_due_part records.holds today e.0 e.1) 1 0) n (map_entries (part_of i) es) ≡ fold (λ k (e : PartKey × PartRecord). k + cond (is_due records.holds today e.0 e.1) 1 0) n es
      by n [] = refl
      by n (e ∷ es) = ap (λ b. fold (λ k (x : PartKey × Part). k + cond (machine.is_due_part records.holds today x.0 x.1) 1 0) (n + cond b 1 0) (map_entries (part_of i) es)) (due_same i records.holds today e.0 e.1) ∙ by (n + cond (is_due records.holds today e.0 e.1) 1 0) es

module _ (records : Records) (i : List ℕ) (good : AreWholeOnVolume records i) (now : ℕ) (d : Decides (GoRuling DropsBytes) records Purge now) where
  abbrev after : Records
  after = records_without_due (day_of now) records

  pub purge_accepted : step (state_in records i) Purge now ≡ Accept (record { entry = OfPurge (count_due_records (day_of now) records); is_repeat = false }) (state_in after i)
  purge_accepted = d.1 i ∙ (λ j. Accept (record { entry = OfPurge (count_then records i good (day_of now) j); is_repeat = false }) (state_then records i good (day_of now) j))

  -- Until blocks are given back, those that were free are all that a stop may have changed.
  pub purge_changes : (size failures : ℕ) (free : ℕ → Type 0) → IsInOrder records size failures free → IsChange records i free after i free
  purge_changes size failures free order = record {
    good = record { whole = whole-without_due (day_of now) records order.whole; volume = record { head = good.volume.head; size = good.volume.size } };
    keeps = keeps-without_due (day_of now) records i;
    unnamed = λ b named. named_used records size failures free order b (named_before (day_of now) records b named);
    head = head_used records size failures free order;
    fewer = λ b f. f;
    moved = same_in free i;
  }
