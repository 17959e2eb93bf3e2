-- How the calls of volume, database and records make up a command of the machine.
use Rattle.std.proofs.Common.{◌≡◌, ◌≢◌, ◌⊎◌, inl, inr, ℕ, zero, suc, ◌+◌, ◌-◌, ◌<◌, ◌≤◌, ◌^◌, List, [], ◌∷◌, length, Option, Some, None, Bool, true, false, not, ◌&&◌, ◌||◌, if◌then◌else◌, refl, sym, ◌∙◌, ap, subst, is_some, is_none, nat_lt, ◌==◌, arith, Result, Ok, Err, Contains}
use Rattle.std.specs.Prelude.{option_map, All, slice_index_or}
use Rattle.std.specs.List.{list_any}
use Rattle.std.specs.Option.{option_and_then}
use Rattle.std.specs.FinMap.{FinMap, get, insert}
use Rattle.std.proofs.lemmas.Bool.{not-false}
use Rattle.std.proofs.lemmas.Bool.Decides.{Decides-eqb, Decides-ltb, nat_tests}
use Rattle.sha2.specs.Sha256.{sha256}
use Rattle.deposit_name.specs.declared.kinds.Kind.{Kind}
use Rattle.deposit_name.specs.declared.errors.NameError.{NameError}
use Rattle.deposit_name.specs.Name.{Name, is_same_kind}
use Rattle.desk.specs.Standing.{is_receipt}
use Rattle.vault_volume.specs.Image.{DiffersOnlyIn}
use Rattle.vault_volume.specs.Extents.{IsExtentOf, IsInAny, block_count}
use Rattle.extent_map.specs.Staged.{StagedPart}
use Rattle.vault_volume.proofs.ImageLemmas.{same_in, in_more, in_both}
use Rattle.custody_records.specs.Keys.{PartKey, text_cmp, part_cmp, notice_cmp}
use Rattle.custody_records.specs.Records.{PartRecord, Records, key_of, staged_record}
use Rattle.custody_records.specs.Records as recorded_in
use Rattle.custody_records.specs.Rows.{Rows}
use Rattle.custody_records.specs.Form.{form_of, InForm}
use Rattle.custody_machine.specs.NameReading.{read_name}
use Rattle.custody_machine.specs.State.{State, Held, part_numbers, key_with_part, has_notice}
use Rattle.custody_machine.specs.Machine.{count_parts, has_part_of_other_kind, Statement, keys_if_made, Command, Register, Receive, Refusal, NameRefused, OtherBytes, Record, OfRegistry, OfPart, Reply, Refuse, Accept, max_part_len, part_of_kind, part_under_name, revision_part, has_other_kind, is_failure_of, refusal_of, kept_record, effect, receive_step, unless_kept, unless_refused, step, state_of, state_after, received_part, state_with_part, TimedCommand, compared_keys, deciding_keys, Answer, Accepted, Failed, StoreFailed, MayFail, MayAnswer, named_tests, first_refusal, verdict_keys}
use Rattle.custody_machine.specs.History.{IsFoundWithin, doubt_of, MayFind, is_open_after}
use Rattle.custody_machine.specs.StoredState.{HaveBlock, IsPartBlock, AreWhole, IsVolumeOf, is_part_of, AreWholeOnVolume, part_of, state_in, KeepsParts, OpensFrom}
use Rattle.custody_machine.specs.Moves.{Place, Serving, Shut, MayLeave, MayLeaveWithin, DependsOnBytes, place_after}
use Rattle.custody_machine.specs.Custody.{IsPlaceable, IsInOrder, IsOnVolume, IsInStore, IsPlaced, IsDurable, IsAtPlace, AnswersCommand}
use Rattle.custody_machine.proofs.MapValues.{get-map_values}
use Rattle.custody_machine.proofs.Series.{prior_taken, is_place}
use Rattle.custody_machine.proofs.Accepting as refused
use Rattle.custody_machine.proofs.Options.{is_there}
use Rattle.custody_machine.proofs.Accepting.{accept_inj, NoneStands, refused_name, step_none, step_accepts, registered, place_passes, insert_here, inserted}
use Rattle.custody_records.specs.inside.Orders.{part_total, part_exact}
use Rattle.custody_machine.proofs.Stored.{state_in-elsewhere, digest-elsewhere, good-elsewhere, keeps_same, keeps_itself, keeps_on, whole-with_registry, state_in-with_part, part_still, IsInPlace, whole-with_part, good-with_part, keeps-with_part}

-- ---- which parts are read

pub nothing_in : {X : Type 0} (xs : List X) (x : X) → xs ≡ [] → Contains xs x → ⊥
nothing_in xs x e h = let lt : h.0 < length xs = h.1 in let none : length xs ≡ 0 = ap length e in absurd (omega (arith, lt, none))

pub one_in : (xs : List PartKey) (a x : PartKey) → xs ≡ a ∷ [] → Contains xs x → a ≡ x
one_in xs a x e h = let there : Contains (a ∷ []) x = subst (λ l. Contains l x) e h in by there.0 there.1 there.2
  where
    by : (k : ℕ) → k < 1 → slice_index_or (a ∷ []) k x ≡ x → a ≡ x
    by zero lt is = is
    by (suc k) lt is = absurd (omega (arith, lt))

pub first_in : (xs : List PartKey) (a : PartKey) → xs ≡ a ∷ [] → Contains xs a
first_in xs a e = subst (λ l. Contains l a) (sym e) (0, omega arith, refl)

-- a refusal is the least that stands
pub refusal_is : (s : State) (text bytes : List ℕ) (now : ℕ) (q : Refusal) → step s (Receive text bytes) now ≡ Refuse q → refusal_of s (Receive text bytes) now ≡ Some q
unfolding step
refusal_is s text bytes now q e = by (refusal_of s (Receive text bytes) now) refl e
  where
    by_kept : (name : Name) (o : Option Record) → unless_kept s o (receive_step s (Ok name) bytes now) ≡ Refuse q → ⊥
    by_kept name None e = cc
    by_kept name (Some entry) e = cc

    by_name : (r : Result Name NameError) → read_name text ≡ r → refusal_of s (Receive text bytes) now ≡ None → unless_kept s (kept_record s (Receive text bytes)) (receive_step s r bytes now) ≡ Refuse q → ⊥
    by_name (Err fault) is none e = let stands : refusal_of s (Receive text bytes) now ≡ Some (NameRefused fault) = ap (λ r. first_refusal (named_tests s r bytes now)) is ∙ refused_name s bytes now fault in cc
    by_name (Ok name) is none e = by_kept name (kept_record s (Receive text bytes)) e

    by : (o : Option Refusal) → refusal_of s (Receive text bytes) now ≡ o → unless_refused o (unless_kept s (kept_record s (Receive text bytes)) (effect s (Receive text bytes) now)) ≡ Refuse q → o ≡ Some q
    by None is e = absurd (by_name (read_name text) refl is e)
    by (Some r) is e = let same : r ≡ q = cc in ap Some same

-- of a part that is accepted
pub reads_accepted : (s : State) (text bytes : List ℕ) (now : ℕ) → refusal_of s (Receive text bytes) now ≡ None → deciding_keys s (Receive text bytes) now ≡ []
reads_accepted s text bytes now e = ap (λ o. compared_keys o (read_name text)) e

read_none : (q : Refusal) → q ≢ OtherBytes → (r : Result Name NameError) → compared_keys (Some q) r ≡ []
read_none q other (Err fault) = refl
read_none OtherBytes other (Ok name) = absurd (other refl)
read_none q other (Ok name) = refl

part_refused : (s : State) (text bytes : List ℕ) (now : ℕ) (q : Refusal) → step s (Receive text bytes) now ≡ Refuse q → q ≢ OtherBytes → deciding_keys s (Receive text bytes) now ≡ []
part_refused s text bytes now q e other = ap (λ o. compared_keys o (read_name text)) (refusal_is s text bytes now q e) ∙ read_none q other (read_name text)

-- of a command that is refused, but not for its bytes
pub reads_refused : (s : State) (command : Command) (now : ℕ) (q : Refusal) → step s command now ≡ Refuse q → q ≢ OtherBytes → deciding_keys s command now ≡ []
unfolding step
reads_refused s (Receive text bytes) now q e other = part_refused s text bytes now q e other
reads_refused s (Statement stated) now q e other = by (refusal_of s (Statement stated) now) (kept_record s (Statement stated)) e
  where
    by : (o : Option Refusal) (k : Option Record) → unless_refused o (unless_kept s k (effect s (Statement stated) now)) ≡ Refuse q → keys_if_made o k (verdict_keys s stated) ≡ []
    by None None e = cc
    by None (Some entry) e = refl
    by (Some r) k e = refl
reads_refused s command now q e other = refl

-- of a repeat
pub reads_repeated : (s : State) (command : Command) (now : ℕ) (reply : Reply) (new : State) → step s command now ≡ Accept reply new → reply.is_repeat ≡ true → deciding_keys s command now ≡ []
unfolding step
reads_repeated s (Receive text bytes) now reply new e again = reads_accepted s text bytes now (step_accepts s (Receive text bytes) now reply new e).0
reads_repeated s (Statement stated) now reply new e again = by (refusal_of s (Statement stated) now) (kept_record s (Statement stated)) e
  where
    by : (o : Option Refusal) (k : Option Record) → unless_refused o (unless_kept s k (effect s (Statement stated) now)) ≡ Accept reply new → keys_if_made o k (verdict_keys s stated) ≡ []
    by None None e = let first : false ≡ true = ap (λ (r : Reply). r.is_repeat) (accept_inj _ _ _ _ e).0 ∙ again in cc
    by None (Some entry) e = refl
    by (Some r) k e = refl
reads_repeated s command now reply new e again = refl

pub reads_other : (s : State) (text bytes : List ℕ) (now : ℕ) (name : Name) → step s (Receive text bytes) now ≡ Refuse OtherBytes → read_name text ≡ Ok name → deciding_keys s (Receive text bytes) now ≡ key_of name ∷ []
reads_other s text bytes now name e named = λ i. compared_keys (refusal_is s text bytes now OtherBytes e i) (named i)

-- ---- the same records, with an image that differs only in blocks that they leave

module _ (records : Records) (free : ℕ → Type 0) (i : List ℕ) (good : AreWholeOnVolume records i) (unnamed : (b : ℕ) → IsPartBlock records b → ¬ free b) (head : ¬ free 0) where
  pub opens_later : (old : Records) (before : List ℕ) (P : State → Type 0) (r : Rows) (j : List ℕ) → KeepsParts old before records i → form_of r ≡ InForm records → DiffersOnlyIn free i j → P (state_in records i) → OpensFrom old before P r j
  opens_later old before P r j keeps is differs p = record {
    records = records;
    in_form = is;
    good = good-elsewhere free records i j differs unnamed head good;
    keeps = keeps_on old records records before i j keeps (keeps_same records i j (digest-elsewhere free records i j differs unnamed));
    state = subst P (sym (state_in-elsewhere free records i j differs unnamed)) p;
  }

  -- and from themselves
  pub opens_same : (P : State → Type 0) (r : Rows) (j : List ℕ) → form_of r ≡ InForm records → DiffersOnlyIn free i j → P (state_in records i) → OpensFrom records i P r j
  opens_same P r j = opens_later records i P r j (keeps_itself records i)

module _ (records : Records) (size failures : ℕ) (free : ℕ → Type 0) (order : IsInOrder records size failures free) where
  pub named_used : (b : ℕ) → IsPartBlock records b → ¬ free b
  named_used b named f = ((order.placeable b).0 f).2 named

  pub head_used : ¬ free 0
  head_used f = let low = ((order.placeable 0).0 f).0 in absurd (omega (arith, low))

-- ---- where a custody is after an answer

is_at_place : (records new : Records) (i later : List ℕ) (is_open b : Bool) (place : Place) → is_open ≡ b → (is_open ≡ true → (new ≡ records) × (later ≡ i)) → (closed : Place) → IsAtPlace false new later closed → IsAtPlace is_open new later (if b then Serving records i else closed)
is_at_place records new i later true true place e same closed shut = (sym (same refl).0, sym (same refl).1)
is_at_place records new i later false false place e same closed shut = shut
is_at_place records new i later true false place e same closed shut = cc
is_at_place records new i later false true place e same closed shut = cc

may_find_itself : (s : State) (doubt : Option TimedCommand) → MayFind s doubt s
may_find_itself s None = refl
may_find_itself s (Some entry) = inl refl

-- ---- an open custody

module _ (records : Records) (rows : Rows) (i : List ℕ) (size failures : ℕ) (free : ℕ → Type 0) (is_ready : Type 0) (left_rows : Rows → Type 0) (left_images : List ℕ → Type 0)
    (order : IsInOrder records size failures free) (volume : IsOnVolume records i free left_images) (store : IsInStore records rows is_ready left_rows) where
  pub good_now : AreWholeOnVolume records i
  good_now = record { whole = order.whole; volume = volume.volume }

  form_left : (r : Rows) → left_rows r → form_of r ≡ InForm records
  form_left r left = ap form_of (store.settled r left) ∙ store.in_form

  -- at rest a stop leaves its state
  pub at_rest : (r : Rows) (j : List ℕ) → left_rows r → left_images j → MayLeave (Serving records i) r j
  at_rest r j left w = opens_same records free i good_now (named_used records size failures free order) (head_used records size failures free order) (λ found. found ≡ state_in records i) r j (form_left r left) (volume.elsewhere j w) refl

  -- before the commit, too
  pub before_commit : (command : Command) (now : ℕ) (r : Rows) (j : List ℕ) → left_rows r → DiffersOnlyIn free i j → MayLeaveWithin (Serving records i) command now r j
  before_commit command now r j left differs =
      opens_same records free i good_now (named_used records size failures free order) (head_used records size failures free order) (IsFoundWithin (state_in records i) command now) r j (form_left r left) differs (inl refl)

  -- a command that changed nothing
  pub changes_nothing : (command : Command) (now : ℕ) (answer : Answer) (is_open : Bool) (new : Records) (later : List ℕ) (since : List ℕ → Type 0) (rows_then : Rows → Type 0) (images_then : List ℕ → Type 0)
      → MayAnswer (state_in records i) command now answer (state_in records i) → DependsOnBytes records i command now answer → is_open ≡ is_open_after answer → (is_open ≡ true → (new ≡ records) × (later ≡ i))
      → ((j : List ℕ) → since j → DiffersOnlyIn free i j) → ((r : Rows) → rows_then r → left_rows r) → ((j : List ℕ) → images_then j → DiffersOnlyIn free i j)
      → AnswersCommand (record { records = records; image = i }) command now answer is_open (record { records = new; image = later }) (record { rows_before = left_rows; images_since = since; rows_then = rows_then; images_then = images_then })
  changes_nothing command now answer is_open new later since rows_then images_then allowed rests opened goes_on during rows_same images_same = record {
    next = place_after records i command now answer records i;
    moves = (records, i, allowed, rests, keeps_itself records i, refl);
    is_at = is_at_place records new i later is_open (is_open_after answer) (Serving records i) opened goes_on (Shut records i (doubt_of command now answer)) tt;
    leaves = record {
      within = λ r j left w. before_commit command now r j left (during j w);
      at_exit = λ r j left w. exit (is_open_after answer) r j (rows_same r left) (images_same j w);
    };
  }
    where
      exit : (b : Bool) (r : Rows) (j : List ℕ) → left_rows r → DiffersOnlyIn free i j → MayLeave (if b then Serving records i else Shut records i (doubt_of command now answer)) r j
      exit true r j left differs = opens_same records free i good_now (named_used records size failures free order) (head_used records size failures free order) (λ found. found ≡ state_in records i) r j (form_left r left) differs refl
      exit false r j left differs = opens_same records free i good_now (named_used records size failures free order) (head_used records size failures free order) (MayFind (state_in records i) (doubt_of command now answer)) r j (form_left r left) differs (may_find_itself (state_in records i) (doubt_of command now answer))

-- ---- a command that changes the records

-- records and an image that a commit makes of others, and the blocks that are free then
pub record IsChange (records : Records) (i : List ℕ) (free : ℕ → Type 0) (changed : Records) (j : List ℕ) (g : ℕ → Type 0) : Type 0 where
  pub good : AreWholeOnVolume changed j
  pub keeps : KeepsParts records i changed j
  pub unnamed : (b : ℕ) → IsPartBlock changed b → ¬ g b
  pub head : ¬ g 0
  pub fewer : (b : ℕ) → g b → free b
  pub moved : DiffersOnlyIn free i j

-- a change of other tables than that of the parts
module _ (records : Records) (registries : FinMap text_cmp ℕ) (notices : FinMap notice_cmp recorded_in.Notice) (releases : FinMap text_cmp recorded_in.Release) (holds : FinMap text_cmp recorded_in.Hold)
    (i : List ℕ) (size failures : ℕ) (free : ℕ → Type 0) (order : IsInOrder records size failures free) (whole : AreWhole (record records { registries = registries; notices = notices; releases = releases; holds = holds })) where
  pub tables_change : AreWholeOnVolume records i → IsChange records i free (record records { registries = registries; notices = notices; releases = releases; holds = holds }) i free
  tables_change good = record {
    good = record { whole = whole; volume = record { head = good.volume.head; size = good.volume.size } };
    keeps = record { kept = λ key part at. (part, at, inl refl); digests = λ key has. has };
    unnamed = named_used records size failures free order;
    head = head_used records size failures free order;
    fewer = λ b f. f;
    moved = same_in free i;
  }

  pub tables_in_order : (failures_then : ℕ) → failures_then < 2 ^ 64 - 1 → IsInOrder (record records { registries = registries; notices = notices; releases = releases; holds = holds }) size failures_then free
  tables_in_order failures_then count = record { whole = whole; blocks = order.blocks; placeable = order.placeable; count = count }

module _ (records : Records) (rows : Rows) (i : List ℕ) (size failures : ℕ) (free : ℕ → Type 0) (is_ready : Type 0) (left_rows : Rows → Type 0) (left_images : List ℕ → Type 0)
    (order : IsInOrder records size failures free) (volume : IsOnVolume records i free left_images) (store : IsInStore records rows is_ready left_rows)
    (changed : Records) (j : List ℕ) (g : ℕ → Type 0) (change : IsChange records i free changed j g) (command : Command) (now : ℕ) (reply : Reply) (ruled : step (state_in records i) command now ≡ Accept reply (state_in changed j)) where
  goes_to : state_in changed j ≡ state_after (state_in records i) command now
  goes_to = sym (ap (state_of (state_in records i)) ruled)

  -- it is answered, and the commit has answered `Ok`
  pub accepts : (new : Records) (later : List ℕ) (since : List ℕ → Type 0) (rows_then : Rows → Type 0) (images_then : List ℕ → Type 0)
      → DependsOnBytes records i command now (Accepted reply) → (new ≡ changed) × (later ≡ j)
      → ((k : List ℕ) → since k → DiffersOnlyIn free i k) → ((r : Rows) → rows_then r → form_of r ≡ InForm changed) → ((k : List ℕ) → images_then k → DiffersOnlyIn g j k)
      → AnswersCommand (record { records = records; image = i }) command now (Accepted reply) true (record { records = new; image = later }) (record { rows_before = left_rows; images_since = since; rows_then = rows_then; images_then = images_then })
  accepts new later since rows_then images_then rests goes_on during only same = record {
    next = Serving changed j;
    moves = (changed, j, ruled, rests, change.keeps, refl);
    is_at = (sym goes_on.0, sym goes_on.1);
    leaves = record {
      within = λ r k left w. before_commit records rows i size failures free is_ready left_rows left_images order volume store command now r k left (during k w);
      at_exit = λ r k left w. opens_same changed g j change.good change.unnamed change.head (λ found. found ≡ state_in changed j) r k (only r left) (same k w) refl;
    };
  }

  -- it is answered that the store failed: the commit is found, or it is not
  pub in_doubt : (new : Records) (later : List ℕ) (since : List ℕ → Type 0) (rows_then : Rows → Type 0) (images_then : List ℕ → Type 0)
      → reply.is_repeat ≡ false
      → ((k : List ℕ) → since k → DiffersOnlyIn free i k) → ((r : Rows) → rows_then r → (form_of r ≡ InForm records) ⊎ (form_of r ≡ InForm changed)) → ((k : List ℕ) → images_then k → DiffersOnlyIn g j k)
      → AnswersCommand (record { records = records; image = i }) command now (Failed StoreFailed) false (record { records = new; image = later }) (record { rows_before = left_rows; images_since = since; rows_then = rows_then; images_then = images_then })
  in_doubt new later since rows_then images_then first during either same = record {
    next = Shut records i (Some (command, now));
    moves = (records, i, (subst (λ r. MayFail r (deciding_keys (state_in records i) command now) StoreFailed) (sym ruled) first, refl), tt, keeps_itself records i, refl);
    is_at = tt;
    leaves = record {
      within = λ r k left w. before_commit records rows i size failures free is_ready left_rows left_images order volume store command now r k left (during k w);
      at_exit = λ r k left w. by r k (same k w) (either r left);
    };
  }
    where
      by : (r : Rows) (k : List ℕ) → DiffersOnlyIn g j k → (form_of r ≡ InForm records) ⊎ (form_of r ≡ InForm changed) → OpensFrom records i (IsFoundWithin (state_in records i) command now) r k
      by r k differs (inl is) = opens_same records free i (good_now records rows i size failures free is_ready left_rows left_images order volume store) (named_used records size failures free order) (head_used records size failures free order)
          (IsFoundWithin (state_in records i) command now) r k is (in_both free i j k change.moved (in_more g free j k change.fewer differs)) (inl refl)
      by r k differs (inr is) = opens_later changed g j change.good change.unnamed change.head records i (IsFoundWithin (state_in records i) command now) r k change.keeps is differs (inr goes_to)

-- ---- registrations

pub register_repeats : (s : State) (tld : List ℕ) (day now first : ℕ) → get s.registries tld ≡ Some first → step s (Register tld day) now ≡ Accept (record { entry = OfRegistry tld first; is_repeat = true }) s
register_repeats s tld day now first e = step_none s (Register tld day) now refl ∙ ap (registered s tld day now) e

pub register_adds : (records : Records) (i : List ℕ) (tld : List ℕ) (day now : ℕ) → get records.registries tld ≡ None
    → step (state_in records i) (Register tld day) now ≡ Accept (record { entry = OfRegistry tld day; is_repeat = false }) (state_in (recorded_in.with_registry records tld day) i)
register_adds records i tld day now e = step_none (state_in records i) (Register tld day) now refl ∙ ap (registered (state_in records i) tld day now) e

module _ (records : Records) (i : List ℕ) (size failures failures_then : ℕ) (free free_then : ℕ → Type 0) (order : IsInOrder records size failures free) (tld : List ℕ) (day : ℕ) where
  pub registry_changes : AreWholeOnVolume records i → IsChange records i free (recorded_in.with_registry records tld day) i free
  registry_changes good = tables_change records (insert records.registries tld day) records.notices records.releases records.holds i size failures free order (whole-with_registry records tld day order.whole) good

  pub registry_in_order : failures_then < 2 ^ 64 - 1 → IsInOrder (recorded_in.with_registry records tld day) size failures_then free
  registry_in_order = tables_in_order records (insert records.registries tld day) records.notices records.releases records.holds i size failures free order (whole-with_registry records tld day order.whole) failures_then

-- ---- the parts of a revision

module _ (records : Records) (i : List ℕ) (whole : AreWhole records) (n : Name) where
  -- a place of the revision, in the records
  pub place_is : (place : ℕ) → revision_part (state_in records i) n place ≡ option_map (part_of i) (get records.parts (key_with_part (key_of n) place))
  place_is place = get-map_values part_cmp (part_of i) records.parts (key_with_part (key_of n) place)

  some_of : (o : Option PartRecord) (kind : Kind) → is_part_of kind o ≡ true → is_some (option_map (part_of i) o) ≡ true
  some_of None kind h = cc
  some_of (Some p) kind h = refl

  pub closed : (m : ℕ) → is_some (revision_part (state_in records i) n (suc (suc m))) ≡ true → is_some (revision_part (state_in records i) n (suc m)) ≡ true
  closed m e = by (get records.parts (key_with_part (key_of n) (suc (suc m)))) refl (ap is_some (sym (place_is (suc (suc m)))) ∙ e)
    where
      by : (o : Option PartRecord) → get records.parts (key_with_part (key_of n) (suc (suc m))) ≡ o → is_some (option_map (part_of i) o) ≡ true → is_some (revision_part (state_in records i) n (suc m)) ≡ true
      by None at h = cc
      by (Some p) at h = ap is_some (place_is (suc m)) ∙ some_of _ p.kind (whole.linked.series (key_with_part (key_of n) (suc (suc m))) p at m refl)

-- ---- a new part

-- what none of the refusals of a new part tells
module _ (records : Records) (i : List ℕ) (whole : AreWhole records) (text bytes : List ℕ) (now : ℕ) (n : Name) (named : read_name text ≡ Ok n) (empty_place : get records.parts (key_of n) ≡ None)
    (ruled : step (state_in records i) (Receive text bytes) now ≡ Accept (record { entry = OfPart (key_of n) (received_part n bytes now); is_repeat = false }) (state_with_part (state_in records i) (key_of n) (received_part n bytes now))) where
  none_stand : NoneStands (state_in records i) n bytes now
  none_stand = refused.none_stand (state_in records i) n bytes now (ap (λ r. first_refusal (named_tests (state_in records i) r bytes now)) (sym named) ∙ (step_accepts (state_in records i) (Receive text bytes) now _ _ ruled).0)

  known : is_some (get records.registries n.tld) ≡ true
  known = is_there (get records.registries n.tld) none_stand.registry

  is_new_name : is_none (part_under_name (state_in records i) n) ≡ true
  is_new_name = ap (λ o. is_none (option_and_then (part_of_kind n.kind) o)) (get-map_values part_cmp (part_of i) records.parts (key_of n) ∙ ap (option_map (part_of i)) empty_place)

  series : (m : ℕ) → n.part ≡ suc (suc m) → is_part_of n.kind (get records.parts (key_with_part (key_of n) (suc m))) ≡ true
  series m e =
      let count = not-false _ (ap (λ b. b && not (count_parts (state_in records i) n + 1 == n.part)) (sym is_new_name) ∙ none_stand.order) in
      let taken = prior_taken (λ place. is_some (revision_part (state_in records i) n place)) (closed records i whole n) n.part m ((Decides-eqb _ _).0 count) e in
      by (get records.parts (key_with_part (key_of n) (suc m))) refl (ap is_some (sym (place_is records i whole n (suc m))) ∙ taken.0) taken.1
    where
      by : (o : Option PartRecord) → get records.parts (key_with_part (key_of n) (suc m)) ≡ o → is_some (option_map (part_of i) o) ≡ true → m < 8 → is_part_of n.kind o ≡ true
      by None at h lt = cc
      by (Some prior) at h lt = by_kind (is_same_kind prior.kind n.kind) refl
        where
          by_kind : (t : Bool) → is_same_kind prior.kind n.kind ≡ t → t ≡ true
          by_kind true k = refl
          by_kind false k =
              let other : has_other_kind n.kind (revision_part (state_in records i) n (suc m)) ≡ true = ap (has_other_kind n.kind) (place_is records i whole n (suc m) ∙ ap (option_map (part_of i)) at) ∙ ap not k in
              let some : list_any (λ place. has_other_kind n.kind (revision_part (state_in records i) n place)) part_numbers ≡ true = place_passes (λ place. has_other_kind n.kind (revision_part (state_in records i) n place)) part_numbers (suc m) (is_place m lt) other in
              let none : list_any (λ place. has_other_kind n.kind (revision_part (state_in records i) n place)) part_numbers ≡ false = ap (λ b. b && has_part_of_other_kind (state_in records i) n) (sym is_new_name) ∙ none_stand.kind in cc

  due : 0 < n.rev → has_notice records.notices n.tld n.day (is_failure_of (n.rev - 1)) ≡ true
  due lt = by received (nat_lt 0 n.rev) failed (ap (λ b. b && (received || (nat_lt 0 n.rev && not failed))) (sym is_new_name) ∙ none_stand.due) ((Decides-ltb 0 n.rev).1 lt)
    where
      received : Bool
      received = has_notice records.notices n.tld n.day is_receipt

      failed : Bool
      failed = has_notice records.notices n.tld n.day (is_failure_of (n.rev - 1))

      by : (received above failed : Bool) → (received || (above && not failed)) ≡ false → above ≡ true → failed ≡ true
      by true above failed h is = cc
      by false true failed h is = not-false failed h
      by false false failed h is = cc

  -- the part is neither empty nor too long
  pub has_size : (0 < length bytes) × (length bytes ≤ 1_048_576)
  has_size = sized (length bytes) none_stand.size
    where
      sized : (len : ℕ) → (len == 0 || nat_lt max_part_len len) ≡ false → (0 < len) × (len ≤ 1_048_576)
      sized len e = (grind (arith, nat_tests), grind (arith, nat_tests))

  -- nothing is read of it
  pub reads_nothing : deciding_keys (state_in records i) (Receive text bytes) now ≡ []
  reads_nothing = let r = step_accepts (state_in records i) (Receive text bytes) now _ _ ruled in reads_accepted (state_in records i) text bytes now r.0

  module _ (size failures : ℕ) (free : ℕ → Type 0) (kept_order : IsInOrder records size failures free) (g : ℕ → Type 0) (staged : StagedPart) (p : IsPlaced size free g bytes staged) where
    in_place : IsInPlace records (key_of n) (staged_record n now staged) staged.extents
    in_place = record {
      held = refl;
      range = record { each = subst (λ (b : ℕ). All (IsExtentOf b) staged.extents) kept_order.blocks p.chosen.within; counts = p.chosen.adds_up ∙ sym (ap block_count p.len) };
      apart = p.chosen.apart;
      unnamed = λ b within is. named_used records size failures free kept_order b is (p.chosen.each_free b within);
      registry = known;
      fresh = empty_place;
      series = series;
      due = due;
    }

    -- a block that a part names then is one of those before, or of the new part
    named_then : (b : ℕ) → IsPartBlock (recorded_in.with_part records (key_of n) (staged_record n now staged)) b → IsPartBlock records b ⊎ IsInAny staged.extents b
    named_then b is = inserted part_total part_exact records.parts (key_of n) (staged_record n now staged) (λ q r. HaveBlock r.extents b → IsPartBlock records b ⊎ IsInAny staged.extents b) (λ within. inr within) (λ q r at within. inl (q, r, at, within)) is.0 is.1 is.2 is.3

    -- the blocks that are free then are those that may be placed
    pub part_in_order : (failures_then : ℕ) → failures_then < 2 ^ 64 - 1 → IsInOrder (recorded_in.with_part records (key_of n) (staged_record n now staged)) size failures_then g
    part_in_order failures_then count = record {
      whole = whole-with_part records (key_of n) (staged_record n now staged) staged.extents in_place whole;
      blocks = kept_order.blocks;
      placeable = λ b. (to b, from b);
      count = count;
    }
      where
        to : (b : ℕ) → g b → IsPlaceable (recorded_in.with_part records (key_of n) (staged_record n now staged)) b
        to b f = let was = (kept_order.placeable b).0 ((p.taken b).0 f).0 in (was.0, was.1, λ is. elim (named_then b is) [ inl before ↦ was.2 before | inr within ↦ ((p.taken b).0 f).1 within ])

        still : (m : ℕ) → IsPartBlock records m → IsPartBlock (recorded_in.with_part records (key_of n) (staged_record n now staged)) m
        still m is = (is.0, is.1, part_still records.parts (key_of n) (staged_record n now staged) empty_place is.0 is.1 is.2, is.3)

        from : (b : ℕ) → IsPlaceable (recorded_in.with_part records (key_of n) (staged_record n now staged)) b → g b
        from b q = (p.taken b).1 ((kept_order.placeable b).1 (q.0, q.1, λ is. q.2 (still b is))) (λ within. q.2 (key_of n, staged_record n now staged, insert_here part_total records.parts (key_of n) (staged_record n now staged), within))

    module _ (volume : IsVolumeOf records i) (j : List ℕ) (images_then : List ℕ → Type 0) (s : IsDurable i j free images_then bytes staged) where
      -- the state after the command
      pub state_then : state_in (recorded_in.with_part records (key_of n) (staged_record n now staged)) j ≡ state_with_part (state_in records i) (key_of n) (received_part n bytes now)
      state_then = state_in-with_part records j (key_of n) (staged_record n now staged)
          ∙ ap (λ b. state_with_part (state_in records j) (key_of n) (record { kind = n.kind; received = now; content = Held b })) s.holds
          ∙ ap (λ z. state_with_part z (key_of n) (received_part n bytes now)) (state_in-elsewhere free records i j s.elsewhere (named_used records size failures free kept_order))

      pub part_changes : IsChange records i free (recorded_in.with_part records (key_of n) (staged_record n now staged)) j g
      part_changes = record {
        good = good-with_part records j (key_of n) (staged_record n now staged) staged.extents in_place
            (good-elsewhere free records i j s.elsewhere (named_used records size failures free kept_order) (head_used records size failures free kept_order) (record { whole = whole; volume = volume }));
        keeps = keeps-with_part records i j (key_of n) (staged_record n now staged) staged.extents empty_place refl (ap sha256 s.holds ∙ sym p.digest) (digest-elsewhere free records i j s.elsewhere (named_used records size failures free kept_order));
        unnamed = λ b is f. by b f (named_then b is);
        head = λ f. head_used records size failures free kept_order ((p.taken 0).0 f).0;
        fewer = λ b f. ((p.taken b).0 f).0;
        moved = s.elsewhere;
      }
        where
          by : (b : ℕ) → g b → IsPartBlock records b ⊎ IsInAny staged.extents b → ⊥
          by b f (inl is) = named_used records size failures free kept_order b is ((p.taken b).0 f).0
          by b f (inr within) = ((p.taken b).0 f).1 within

      pub part_ruled : step (state_in records i) (Receive text bytes) now ≡ Accept (record { entry = OfPart (key_of n) (received_part n bytes now); is_repeat = false }) (state_in (recorded_in.with_part records (key_of n) (staged_record n now staged)) j)
      part_ruled = ruled ∙ ap (Accept (record { entry = OfPart (key_of n) (received_part n bytes now); is_repeat = false })) (sym state_then)
