-- What rows and image stand for, and how it changes with them.
use Rattle.std.proofs.Common.{◌≡◌, inl, inr, ℕ, suc, ◌-◌, ◌<◌, List, [], ◌∷◌, Option, Some, None, Bool, true, false, ◌&&◌, refl, sym, ◌∙◌, ap, subst, is_some, arith, Ok, Err, Result}
use Rattle.std.specs.Prelude.{option_map, bytes_eq}
use Rattle.std.specs.List.{list_all}
use Rattle.std.specs.FinMap.{FinMap, get, insert, same_map}
use Rattle.std.proofs.lemmas.Option.{same_Some}
use Rattle.sha2.specs.Sha256.{sha256}
use Rattle.deposit_name.specs.declared.kinds.Kind.{Kind}
use Rattle.deposit_name.specs.declared.errors.NameError.{NameError}
use Rattle.deposit_name.specs.Name.{Name}
use Rattle.extent_map.specs.declared.extent.Extent.{Extent}
use Rattle.vault_volume.specs.Image.{DiffersOnlyIn}
use Rattle.vault_volume.specs.Extents.{AreApart, IsInAny, part_bytes}
use Rattle.vault_volume.proofs.ImageLemmas.{bytes_at-same, part_bytes-same}
use Rattle.custody_records.specs.Keys.{PartKey, part_cmp, text_cmp}
use Rattle.custody_records.specs.Records.{PartRecord, Records, key_of}
use Rattle.custody_records.specs.Records as recorded
use Rattle.custody_records.specs.Rows.{Rows}
use Rattle.custody_machine.specs.NameReading.{read_name}
use Rattle.custody_machine.specs.State.{State, Held, key_with_part, has_notice}
use Rattle.custody_machine.specs.Machine.{is_failure_of, state_with_part}
use Rattle.custody_machine.specs.StoredState.{ForExtents, HaveBlock, IsPartBlock, AreExtents, is_part_of, is_name_of_part, AreWhole, AreWholeOnVolume, content_of, part_of, state_in, StandsFor, HasDigestAt, HasDigests, IsSound, SameOrDropped, KeepsParts, OpensFrom}
use Rattle.custody_machine.specs.Releases.{AreRecordedNames}
use Rattle.custody_machine.proofs.MapValues.{get-map_values, map_values-insert}
use Rattle.custody_records.specs.inside.Orders.{text_total, part_total, part_exact}
use Rattle.custody_machine.proofs.Accepting.{insert_new, inserted, some_still}
use Rattle.custody_records.proofs.FormLemmas.{InForm-injective}

-- rows and image determine the state
pub stands_for_one : (rows : Rows) (image : List ℕ) (a b : State) → StandsFor rows image a → StandsFor rows image b → a ≡ b
stands_for_one rows image a b s t = s.meaning ∙ ap (λ r. state_in r image) (InForm-injective s.records t.records (sym s.in_form ∙ t.in_form)) ∙ sym t.meaning

-- ---- blocks that no part names

module _ (free : ℕ → Type 0) (records : Records) (old new : List ℕ) (differs : DiffersOnlyIn free old new) (unnamed : (b : ℕ) → IsPartBlock records b → ¬ free b) where
  same_bytes : (key : PartKey) (part : PartRecord) (extents : List Extent) → get records.parts key ≡ Some part → part.extents ≡ Some extents → part_bytes old extents part.len ≡ part_bytes new extents part.len
  same_bytes key part extents at is = part_bytes-same free old new extents part.len differs (λ b within. unnamed b (key, part, at, subst (λ o. HaveBlock o b) (sym is) within))

  same_part : (key : PartKey) (part : PartRecord) → get records.parts key ≡ Some part → part_of new part ≡ part_of old part
  same_part key part at = ap (λ c. record { kind = part.kind; received = part.received; content = c }) (by part.extents refl)
    where
      by : (o : Option (List Extent)) → part.extents ≡ o → content_of new part.len o ≡ content_of old part.len o
      by None is = refl
      by (Some extents) is = ap Held (sym (same_bytes key part extents at is))

  pub state_in-elsewhere : state_in records new ≡ state_in records old
  state_in-elsewhere =
      ap (λ ps. record { registries = records.registries; parts = ps; notices = records.notices; releases = records.releases; holds = records.holds })
      (same_map part_total part_exact _ _ (λ q. get-map_values part_cmp (part_of new) records.parts q ∙ by q (get records.parts q) refl ∙ sym (get-map_values part_cmp (part_of old) records.parts q)))
    where
      by : (q : PartKey) (o : Option PartRecord) → get records.parts q ≡ o → option_map (part_of new) o ≡ option_map (part_of old) o
      by q None at = refl
      by q (Some part) at = ap Some (same_part q part at)

  pub digest-elsewhere : (key : PartKey) → HasDigestAt old records key → HasDigestAt new records key
  digest-elsewhere key has part extents at is = ap sha256 (sym (same_bytes key part extents at is)) ∙ has part extents at is

  pub good-elsewhere : ¬ free 0 → AreWholeOnVolume records old → AreWholeOnVolume records new
  good-elsewhere head g = record {
    whole = g.whole;
    volume = record {
      head = sym (bytes_at-same free old new (record { start = 0; count = 1 }) differs (λ b within f. let low = within.0 in let high = within.1 in let here : b ≡ 0 = omega arith in head (subst free here f))) ∙ g.volume.head;
      size = differs.same_length ∙ g.volume.size;
    };
  }

pub keeps_same : (records : Records) (old new : List ℕ) → ((key : PartKey) → HasDigestAt old records key → HasDigestAt new records key) → KeepsParts records old records new
keeps_same records old new digests = record { kept = λ key part at. (part, at, inl refl); digests = digests }

pub keeps_itself : (records : Records) (image : List ℕ) → KeepsParts records image records image
keeps_itself records image = keeps_same records image image (λ key has. has)

-- one after the other
pub keeps_on : (a b c : Records) (i j k : List ℕ) → KeepsParts a i b j → KeepsParts b j c k → KeepsParts a i c k
keeps_on a b c i j k p q = record {
  kept = λ key part at. let one = p.kept key part at in let two = q.kept key one.0 one.1 in (two.0, two.1, still part one.0 two.0 one.2 two.2);
  digests = λ key has. q.digests key (p.digests key has);
}
  where
    still : (part one two : PartRecord) → SameOrDropped part one → SameOrDropped one two → SameOrDropped part two
    still part one two (inl x) (inl y) = inl (y ∙ x)
    still part one two (inl x) (inr y) = inr (y ∙ ap (λ (r : PartRecord). record r { extents = None }) x)
    still part one two (inr x) (inl y) = inr (y ∙ x)
    still part one two (inr x) (inr y) = inr (y ∙ ap (λ (r : PartRecord). record r { extents = None }) x)

-- intact parts stay intact
pub sound_from : (a b : Records) (i j : List ℕ) → KeepsParts a i b j → HasDigests i a → HasDigests j b
sound_from a b i j keeps has key = keeps.digests key (has key)

-- what opens so stands for its state, soundly if it was intact
pub stands_of : (old : Records) (image : List ℕ) (P : State → Type 0) (rows : Rows) (left : List ℕ) (o : OpensFrom old image P rows left) → StandsFor rows left (state_in o.records left)
stands_of old image P rows left o = record { records = o.records; in_form = o.in_form; good = o.good; meaning = refl }

pub sound_of : (old : Records) (image : List ℕ) (P : State → Type 0) (rows : Rows) (left : List ℕ) → OpensFrom old image P rows left → HasDigests image old → IsSound rows left
sound_of old image P rows left o has records e = subst (HasDigests left) (InForm-injective o.records records (sym o.in_form ∙ e)) (sound_from old o.records image left o.keeps has)

-- ---- records with the same parts and notices

module _ (records : Records) (registries : FinMap text_cmp ℕ) (releases : FinMap text_cmp recorded.Release) (holds : FinMap text_cmp recorded.Hold) where
  pub whole-beside : AreWhole records → ((tld : List ℕ) → is_some (get records.registries tld) ≡ true → is_some (get registries tld) ≡ true)
      → ((reference : List ℕ) (release : recorded.Release) → get releases reference ≡ Some release → (is_some (get registries release.tld) ≡ true) × AreRecordedNames records release.tld release.names)
      → ((reference : List ℕ) (hold : recorded.Hold) → get holds reference ≡ Some hold → is_some (get registries hold.tld) ≡ true)
      → AreWhole (record records { registries = registries; releases = releases; holds = holds })
  whole-beside whole known released held = let l = whole.linked in record {
    extents = whole.extents;
    once = record { within = whole.once.within; between = whole.once.between };
    linked = record {
      part_registry = λ key part at. known key.tld (l.part_registry key part at);
      notice_registry = λ key notice at. known key.tld (l.notice_registry key notice at);
      release_registry = λ reference release at. (released reference release at).0;
      hold_registry = held;
      released = λ reference release at. (released reference release at).1;
      series = l.series;
      numbers = l.numbers;
      verdict_parts = l.verdict_parts;
      one_verdict = l.one_verdict;
      due = l.due;
      one_receipt = l.one_receipt;
      one_absence = l.one_absence;
    };
  }

-- one registry more
pub whole-with_registry : (records : Records) (tld : List ℕ) (day : ℕ) → AreWhole records → AreWhole (recorded.with_registry records tld day)
whole-with_registry records tld day whole = let l = whole.linked in
    let known : (q : List ℕ) → is_some (get records.registries q) ≡ true → is_some (get (insert records.registries tld day) q) ≡ true = some_still text_total records.registries tld day in
    whole-beside records (insert records.registries tld day) records.releases records.holds whole known
    (λ reference release at. (known release.tld (l.release_registry reference release at), l.released reference release at)) (λ reference hold at. known hold.tld (l.hold_registry reference hold at))

-- ---- a new part

pub state_in-with_part : (records : Records) (image : List ℕ) (key : PartKey) (part : PartRecord) → state_in (recorded.with_part records key part) image ≡ state_with_part (state_in records image) key (part_of image part)
state_in-with_part records image key part =
    ap (λ ps. record { registries = records.registries; parts = ps; notices = records.notices; releases = records.releases; holds = records.holds })
    (map_values-insert part_cmp (part_of image) part_total part_exact records.parts key part)

module _ (m : FinMap part_cmp PartRecord) (k : PartKey) (part : PartRecord) (new : get m k ≡ None) where
  pub part_still : (q : PartKey) (p : PartRecord) → get m q ≡ Some p → get (insert m k part) q ≡ Some p
  part_still q p at = insert_new part_total m k part q p new at

  pub kind_still : (kind : Kind) (q : PartKey) → is_part_of kind (get m q) ≡ true → is_part_of kind (get (insert m k part) q) ≡ true
  kind_still kind q h = by (get m q) refl h
    where
      by : (o : Option PartRecord) → get m q ≡ o → is_part_of kind o ≡ true → is_part_of kind (get (insert m k part) q) ≡ true
      by None at h = cc
      by (Some p) at h = ap (is_part_of kind) (part_still q p at) ∙ h

names_still : (records : Records) (key : PartKey) (part : PartRecord) → get records.parts key ≡ None → (tld : List ℕ) (r : Result Name NameError) → is_name_of_part records tld r ≡ true → is_name_of_part (recorded.with_part records key part) tld r ≡ true
names_still records key part new tld (Err fault) h = h
names_still records key part new tld (Ok name) h = by (bytes_eq name.tld tld) h
  where
    by : (b : Bool) → (b && is_part_of name.kind (get records.parts (key_of name))) ≡ true → (b && is_part_of name.kind (get (insert records.parts key part) (key_of name))) ≡ true
    by true h = kind_still records.parts key part new name.kind (key_of name) h
    by false h = cc

pub all_still : {X : Type 0} (p q : X → Bool) → ((x : X) → p x ≡ true → q x ≡ true) → (xs : List X) → list_all p xs ≡ true → list_all q xs ≡ true
all_still p q still [] h = refl
all_still p q still (x ∷ xs) h = by (p x) refl h (all_still p q still xs)
  where
    by : (b : Bool) → p x ≡ b → (b && list_all p xs) ≡ true → (list_all p xs ≡ true → list_all q xs ≡ true) → (q x && list_all q xs) ≡ true
    by true is h rest = rw (still x is, rest h) refl
    by false is h rest = cc

-- a new part's record is in place: its extents, its registry, its place in the series, and its revision
pub record IsInPlace (records : Records) (key : PartKey) (part : PartRecord) (extents : List Extent) : Type 0 where
  pub held : part.extents ≡ Some extents
  pub range : AreExtents records.blocks part.len extents
  pub apart : AreApart extents
  pub unnamed : (b : ℕ) → IsInAny extents b → ¬ IsPartBlock records b
  pub registry : is_some (get records.registries key.tld) ≡ true
  pub fresh : get records.parts key ≡ None
  pub series : (n : ℕ) → key.part ≡ suc (suc n) → is_part_of part.kind (get records.parts (key_with_part key (suc n))) ≡ true
  pub due : 0 < key.rev → has_notice records.notices key.tld key.day (is_failure_of (key.rev - 1)) ≡ true

pub whole-with_part : (records : Records) (key : PartKey) (part : PartRecord) (extents : List Extent) → IsInPlace records key part extents → AreWhole records → AreWhole (recorded.with_part records key part)
whole-with_part records key part extents p whole = let l = whole.linked in record {
  extents = inserted part_total part_exact records.parts key part (λ q r. ForExtents r.extents (AreExtents records.blocks r.len)) (subst (λ o. ForExtents o (AreExtents records.blocks part.len)) (sym p.held) p.range) whole.extents;
  once = record {
    within = inserted part_total part_exact records.parts key part (λ q r. ForExtents r.extents AreApart) (subst (λ o. ForExtents o AreApart) (sym p.held) p.apart) whole.once.within;
    between = λ i j x y b at_i at_j in_x in_y. inserted part_total part_exact records.parts key part (λ i x. HaveBlock x.extents b → i ≡ j)
        (λ in_new. inserted part_total part_exact records.parts key part (λ j y. HaveBlock y.extents b → key ≡ j) (λ _. refl) (λ j y at in_old. absurd (not_both b in_new j y at in_old)) j y at_j in_y)
        (λ i x at in_old. inserted part_total part_exact records.parts key part (λ j y. HaveBlock y.extents b → i ≡ j) (λ in_new. absurd (not_both b in_new i x at in_old)) (λ j y at' in_j. whole.once.between i j x y b at at' in_old in_j) j y at_j in_y)
        i x at_i in_x;
  };
  linked = record {
    part_registry = inserted part_total part_exact records.parts key part (λ q r. is_some (get records.registries q.tld) ≡ true) p.registry l.part_registry;
    notice_registry = l.notice_registry;
    release_registry = l.release_registry;
    hold_registry = l.hold_registry;
    released = λ reference release at. all_still (λ text. is_name_of_part records release.tld (read_name text)) (λ text. is_name_of_part (recorded.with_part records key part) release.tld (read_name text))
        (λ text. names_still records key part p.fresh release.tld (read_name text)) release.names (l.released reference release at);
    series = inserted part_total part_exact records.parts key part (λ q r. (n : ℕ) → q.part ≡ suc (suc n) → is_part_of r.kind (get (insert records.parts key part) (key_with_part q (suc n))) ≡ true)
        (λ n e. kind_still records.parts key part p.fresh part.kind (key_with_part key (suc n)) (p.series n e))
        (λ q r at n e. kind_still records.parts key part p.fresh r.kind (key_with_part q (suc n)) (l.series q r at n e));
    numbers = l.numbers;
    verdict_parts = λ k notice rev at of. some_still part_total records.parts key part (record { tld = k.tld; day = notice.day; rev = rev; part = 1 }) (l.verdict_parts k notice rev at of);
    one_verdict = l.one_verdict;
    due = inserted part_total part_exact records.parts key part (λ q r. 0 < q.rev → has_notice records.notices q.tld q.day (is_failure_of (q.rev - 1)) ≡ true) p.due l.due;
    one_receipt = l.one_receipt;
    one_absence = l.one_absence;
  };
}
  where
    not_both : (b : ℕ) → HaveBlock part.extents b → (k : PartKey) (q : PartRecord) → get records.parts k ≡ Some q → HaveBlock q.extents b → ⊥
    not_both b in_new k q at in_old = p.unnamed b (subst (λ o. HaveBlock o b) p.held in_new) (k, q, at, in_old)

pub good-with_part : (records : Records) (image : List ℕ) (key : PartKey) (part : PartRecord) (extents : List Extent) → IsInPlace records key part extents → AreWholeOnVolume records image → AreWholeOnVolume (recorded.with_part records key part) image
good-with_part records image key part extents p g = record { whole = whole-with_part records key part extents p g.whole; volume = record { head = g.volume.head; size = g.volume.size } }

-- the parts from before stay, and the new one has its digest
pub keeps-with_part : (records : Records) (old new : List ℕ) (key : PartKey) (part : PartRecord) (extents : List Extent) → get records.parts key ≡ None → part.extents ≡ Some extents → sha256 (part_bytes new extents part.len) ≡ part.digest
    → ((q : PartKey) → HasDigestAt old records q → HasDigestAt new records q) → KeepsParts records old (recorded.with_part records key part) new
keeps-with_part records old new key part extents fresh held digest before = record {
  kept = λ q r at. (r, part_still records.parts key part fresh q r at, inl refl);
  digests = λ q has r es at is. inserted part_total part_exact records.parts key part (λ q r. (es : List Extent) → r.extents ≡ Some es → HasDigestAt old records q → sha256 (part_bytes new es r.len) ≡ r.digest)
      (λ es is has. subst (λ l. sha256 (part_bytes new l part.len) ≡ part.digest) (same_Some extents es (sym held ∙ is)) digest) (λ q r at es is has. before q has r es at is) q r at es is has;
}
