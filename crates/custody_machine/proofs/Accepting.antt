-- What acceptance of a command tells, and what refuses it.
use Rattle.std.proofs.Common.{◌≡◌, ℕ, zero, suc, List, [], ◌∷◌, Option, Some, None, Bool, true, false, not, ◌||◌, refl, sym, ◌∙◌, ap, subst, cond, ◌==◌, length, Result, Ok, Err, arith, is_some}
use Rattle.std.specs.Prelude.{option_map, bytes_eq}
use Rattle.std.specs.List.{list_any}
use Rattle.std.specs.Int.{IsInRange}
use Rattle.std.specs.Ordering.{eq_by_cmp, is_eq, nat_cmp}
use Rattle.std.specs.FinMap.{FinMap, IsAntisymmetric, get, insert, get-insert, get_tied}
use Rattle.std.specs.Cmp.{IsTotalOrder, tied_itself, Equal-is}
use Rattle.std.specs.declared.cmp.Ordering.{Ordering}
use Rattle.std.specs.Option.{option_and_then}
use Rattle.std.proofs.lemmas.Bool.{not-false}
use Rattle.std.proofs.lemmas.Bool.Decides.{Decides-eqb}
use Rattle.std.proofs.lemmas.Option.{same_Some}
use Rattle.deposit_name.specs.declared.errors.NameError.{NameError}
use Rattle.deposit_name.specs.Name.{Name, IsName, name_text, is_same_kind}
use Rattle.deposit_name.specs.Fault.{IsFault}
use Rattle.custody_records.specs.Keys.{PartKey}
use Rattle.custody_records.specs.Records.{Hold, key_of, lifted_at}
use Rattle.custody_records.specs.Tables.{is_rising}
use Rattle.custody_machine.specs.NameReading.{read_name}
use Rattle.custody_machine.specs.State.{State, Part, Content, Held, Dropped, part_numbers}
use Rattle.custody_machine.specs.Machine.{Command, Test, refusal_number, TestsAreInOrder, Register, Receive, Lift, Record, OfLifting, hold_of, lift_step, state_with_hold, Refusal, NameRefused, RegistryUnknown, DateOutOfRange, Size, OtherBytes, DroppedAfterKeeping, RevisionNotDue, AlreadyStated, TypeDiffers, PartOutOfOrder, OfRegistry, OfPart, Reply, Step, Refuse, Accept, part_at, part_of_kind, part_under_name, has_other_kind, is_held_with, is_held_with_other, has_other_bytes, is_dropped, are_bytes_dropped, revision_part, refusal_of, state_with_part, received_part, if_held_with, kept_part_record, kept_record, effect, receive_step, unless_kept, unless_refused, step, is_unregistered, is_out_of_range, is_out_of_size, is_revision_not_due, is_stated, is_new_beside_other_kind, is_out_of_order, receive_tests, named_tests, first_refusal}
use Rattle.custody_machine.proofs.NameReading.{read_is, is_reading}
use Rattle.custody_machine.proofs.Options.{mapped, unmapped, passing, passing_of}
use Rattle.custody_machine.proofs.SameValues.{text_decides}
use Rattle.custody_machine.proofs.Series.{is_place}

-- ---- what acceptance tells

-- none of the tests stands
abbrev pub AllFail : List Test → Type 0
AllFail [] = Unit {0}
AllFail (test ∷ others) = (test.1 ≡ false) × AllFail others

pub all_fail : (tests : List Test) → first_refusal tests ≡ None → AllFail tests
all_fail [] e = tt
all_fail (test ∷ others) e = by test.1 e (all_fail others)
  where
    by : (b : Bool) → cond b (Some test.0) (first_refusal others) ≡ None → (first_refusal others ≡ None → AllFail others) → (b ≡ false) × AllFail others
    by true e rest = cc
    by false e rest = (refl, rest e)

pub none_of_all : (tests : List Test) → AllFail tests → first_refusal tests ≡ None
none_of_all [] fail = refl
none_of_all (test ∷ others) fail = ap (λ b. cond b (Some test.0) (first_refusal others)) fail.0 ∙ none_of_all others fail.1

-- none of the refusals of a part stands
pub record NoneStands (s : State) (name : Name) (sent : List ℕ) (now : ℕ) : Type 0 where
  pub registry : is_unregistered s name ≡ false
  pub date : is_out_of_range s name now ≡ false
  pub size : is_out_of_size (length sent) ≡ false
  pub bytes : has_other_bytes sent (part_under_name s name) ≡ false
  pub dropped : is_dropped (part_under_name s name) ≡ false
  pub due : is_revision_not_due s name ≡ false
  pub stated : is_stated s name ≡ false
  pub kind : is_new_beside_other_kind s name ≡ false
  pub order : is_out_of_order s name ≡ false

module _ (s : State) (name : Name) (bytes : List ℕ) (now : ℕ) where
  pub none_stand : first_refusal (receive_tests s name bytes now) ≡ None → NoneStands s name bytes now
  none_stand e =
      let f = all_fail (receive_tests s name bytes now) e in
      let g = f.1.1.1.1 in
      record { registry = f.0; date = f.1.0; size = f.1.1.0; bytes = f.1.1.1.0; dropped = g.0; due = g.1.0; stated = g.1.1.0; kind = g.1.1.1.0; order = g.1.1.1.1.0 }

  pub find_none : NoneStands s name bytes now → first_refusal (receive_tests s name bytes now) ≡ None
  find_none h = none_of_all (receive_tests s name bytes now) (h.registry, (h.date, (h.size, (h.bytes, (h.dropped, (h.due, (h.stated, (h.kind, (h.order, tt)))))))))

-- the refusals that follow those of the name
abbrev pub part_refusals : (RegistryUnknown DateOutOfRange Size OtherBytes DroppedAfterKeeping RevisionNotDue AlreadyStated TypeDiffers PartOutOfOrder : Bool) → Option Refusal
part_refusals a b c d e f g h i = cond a (Some RegistryUnknown) (cond b (Some DateOutOfRange) (cond c (Some Size) (cond d (Some OtherBytes) (cond e (Some DroppedAfterKeeping)
    (cond f (Some RevisionNotDue) (cond g (Some AlreadyStated) (cond h (Some TypeDiffers) (cond i (Some PartOutOfOrder) None))))))))

five_dropped : (a b c d e f g h i : Bool) → a ≡ false → b ≡ false → c ≡ false → d ≡ false → e ≡ true → part_refusals a b c d e f g h i ≡ Some DroppedAfterKeeping
five_dropped a b c d e f g h i p q r t u = rw (p, q, r, t, u) refl

pub find_dropped : (s : State) (name : Name) (bytes : List ℕ) (now : ℕ) → is_unregistered s name ≡ false → is_out_of_range s name now ≡ false → is_out_of_size (length bytes) ≡ false → has_other_bytes bytes (part_under_name s name) ≡ false → is_dropped (part_under_name s name) ≡ true
    → first_refusal (receive_tests s name bytes now) ≡ Some DroppedAfterKeeping
find_dropped s name bytes now a b c d e = five_dropped _ _ _ _ _ _ _ _ _ a b c d e

-- the first of the refusals that stand
module _ (a b c d e f g h i : Bool) (p : a ≡ false) (q : b ≡ false) (r : c ≡ false) (s : d ≡ false) (t : e ≡ false) (u : f ≡ false) (v : g ≡ false) where
  pub differs_first : h ≡ true → Some TypeDiffers ≡ part_refusals a b c d e f g h i
  differs_first w = rw (p, q, r, s, t, u, v, w) refl

  pub order_first : h ≡ false → i ≡ true → Some PartOutOfOrder ≡ part_refusals a b c d e f g h i
  order_first w x = rw (p, q, r, s, t, u, v, w, x) refl

  pub none_first : h ≡ false → i ≡ false → None ≡ part_refusals a b c d e f g h i
  none_first w x = rw (p, q, r, s, t, u, v, w, x) refl

-- what a test has answered
pub so : (b c d : Bool) → b ≡ c → b ≡ d → c ≡ d
so b c d e f = sym e ∙ f

-- a text that is no name is refused
pub refused_name : (s : State) (bytes : List ℕ) (now : ℕ) (fault : NameError) → first_refusal (named_tests s (Err fault) bytes now) ≡ Some (NameRefused fault)
refused_name s bytes now fault = refl

-- the tests of each command stand in the order of their numbers
pub tests_are_in_order : TestsAreInOrder
tests_are_in_order s (Receive text bytes) now = by (read_name text)
  where
    by : (r : Result Name NameError) → is_rising nat_cmp (λ (test : Test). refusal_number test.0) (named_tests s r bytes now) ≡ true
    by (Err fault) = refl
    by (Ok name) = refl
tests_are_in_order s command now = refl

-- accepted: no refusal stands, and the step is that of a repeat or of the effect
pub step_accepts : (s : State) (c : Command) (now : ℕ) (reply : Reply) (new : State) → step s c now ≡ Accept reply new → (refusal_of s c now ≡ None) × (unless_kept s (kept_record s c) (effect s c now) ≡ Accept reply new)
unfolding step
step_accepts s c now reply new e = by (refusal_of s c now) e
  where
    by : (o : Option Refusal) → unless_refused o (unless_kept s (kept_record s c) (effect s c now)) ≡ Accept reply new → (o ≡ None) × (unless_kept s (kept_record s c) (effect s c now) ≡ Accept reply new)
    by None e = (refl, e)
    by (Some q) e = cc

pub step_none : (s : State) (c : Command) (now : ℕ) → refusal_of s c now ≡ None → step s c now ≡ unless_kept s (kept_record s c) (effect s c now)
unfolding step
step_none s c now e = ap (λ o. unless_refused o (unless_kept s (kept_record s c) (effect s c now))) e

pub step_refuses : (s : State) (c : Command) (now : ℕ) (q : Refusal) → refusal_of s c now ≡ Some q → step s c now ≡ Refuse q
unfolding step
step_refuses s c now q e = ap (λ o. unless_refused o (unless_kept s (kept_record s c) (effect s c now))) e

-- a name is read from its text
pub read_of : (text : List ℕ) (name : Name) → IsName name × (text ≡ name_text name) → read_name text ≡ Ok name
read_of text name h = (is_reading.names text name).1 h

-- a text with a fault is refused
pub step_refuses_text : (s : State) (text bytes : List ℕ) (now : ℕ) (fault : NameError) → IsFault text fault → step s (Receive text bytes) now ≡ Refuse (NameRefused fault)
step_refuses_text s text bytes now fault is = step_refuses s (Receive text bytes) now (NameRefused fault) (ap (λ r. first_refusal (named_tests s r bytes now)) ((is_reading.faults text fault).1 is) ∙ refused_name s bytes now fault)

-- of a repeat, and of any other command
pub step_repeats : (s : State) (c : Command) (now : ℕ) (entry : Record) → refusal_of s c now ≡ None → kept_record s c ≡ Some entry → step s c now ≡ Accept (record { entry = entry; is_repeat = true }) s
step_repeats s c now entry none at = step_none s c now none ∙ ap (λ o. unless_kept s o (effect s c now)) at

pub accept_inj : (r q : Reply) (s t : State) → Accept r s ≡ Accept q t → (r ≡ q) × (s ≡ t)
accept_inj r q s t e = (cc, cc)

-- what is no repeat has no record yet
pub made_is_new : (s : State) (c : Command) (now : ℕ) (reply : Reply) (new : State) → step s c now ≡ Accept reply new → reply.is_repeat ≡ false → kept_record s c ≡ None
made_is_new s c now reply new e first = by (kept_record s c) (step_accepts s c now reply new e).1
  where
    by : (o : Option Record) → unless_kept s o (effect s c now) ≡ Accept reply new → o ≡ None
    by None e = refl
    by (Some entry) e = let clash : true ≡ false = ap (λ (r : Reply). r.is_repeat) (accept_inj _ _ _ _ e).0 ∙ first in cc

-- ---- maps

module _ {K X : Type 0} {R : K → K → Ordering} (o : IsTotalOrder R) where
  pub insert_here : (m : FinMap R X) (k : K) (v : X) → get (insert m k v) k ≡ Some v
  insert_here m k v = get-insert o m k v k ∙ ap (λ r. cond (is_eq r) (Some v) (get m k)) (tied_itself o k)

  -- a new key takes nothing away
  pub insert_new : (m : FinMap R X) (k : K) (v : X) (q : K) (x : X) → get m k ≡ None → get m q ≡ Some x → get (insert m k v) q ≡ Some x
  insert_new m k v q x none e = get-insert o m k v q ∙ by (eq_by_cmp R q k) refl
    where
      by : (b : Bool) → eq_by_cmp R q k ≡ b → cond b (Some v) (get m q) ≡ Some x
      by true t = let same : get m k ≡ get m q = get_tied o m q k ((Equal-is (R q k)).0 t) in cc
      by false t = e

  -- and a key that is there stays
  pub some_still : (m : FinMap R X) (k : K) (v : X) (q : K) → is_some (get m q) ≡ true → is_some (get (insert m k v) q) ≡ true
  some_still m k v q h = ap is_some (get-insert o m k v q) ∙ by (eq_by_cmp R q k)
    where
      by : (b : Bool) → is_some (cond b (Some v) (get m q)) ≡ true
      by true = refl
      by false = h

  -- what holds of the new entry, and of those from before, holds of each
  pub inserted : IsAntisymmetric R → (m : FinMap R X) (k : K) (v : X) (P : K → X → Type 0) → P k v → ((q : K) (x : X) → get m q ≡ Some x → P q x) → (q : K) (x : X) → get (insert m k v) q ≡ Some x → P q x
  inserted exact m k v P new old q x at = by (eq_by_cmp R q k) refl (sym (get-insert o m k v q) ∙ at)
    where
      by : (b : Bool) → eq_by_cmp R q k ≡ b → cond b (Some v) (get m q) ≡ Some x → P q x
      by true t e = subst (λ z. P z x) (sym (exact q k ((Equal-is (R q k)).0 t))) (subst (P k) (same_Some v x e) new)
      by false t e = old q x e

or_true : (a b : Bool) → b ≡ true → (a || b) ≡ true
or_true true b e = refl
or_true false b e = e

-- ---- a new name's part is new

pub place_passes : (q : ℕ → Bool) (xs : List ℕ) (n : ℕ) → list_any (λ place. place == n) xs ≡ true → q n ≡ true → list_any q xs ≡ true
place_passes q [] n e h = e
place_passes q (x ∷ xs) n e h = by (x == n) refl e (λ rest. place_passes q xs n rest h)
  where
    by : (b : Bool) → (x == n) ≡ b → (b || list_any (λ place. place == n) xs) ≡ true → (list_any (λ place. place == n) xs ≡ true → list_any q xs ≡ true) → (q x || list_any q xs) ≡ true
    by true t e rest = let same : x ≡ n = (Decides-eqb x n).0 t in rw (ap q same ∙ h) refl
    by false t e rest = or_true (q x) (list_any q xs) (rest e)

pub place_in_range : (n : ℕ) → IsInRange 1 8 n → list_any (λ place. place == n) part_numbers ≡ true
place_in_range zero r = let low = r.0 in absurd (omega arith)
place_in_range (suc n) r = let high = r.1 in is_place n (omega arith)

pub name_in_form : (text : List ℕ) (name : Name) → read_name text ≡ Ok name → list_any (λ place. place == name.part) part_numbers ≡ true
name_in_form text name e = place_in_range name.part (read_is text name e).0.part

-- where a name is new and no part of its revision is of another kind, its place is empty
pub place_is_empty : (s : State) (text : List ℕ) (name : Name) → read_name text ≡ Ok name → part_under_name s name ≡ None → list_any (λ place. has_other_kind name.kind (revision_part s name place)) part_numbers ≡ false → part_at s (key_of name) ≡ None
place_is_empty s text name e new kinds = by (part_at s (key_of name)) refl
  where
    by : (o : Option Part) → part_at s (key_of name) ≡ o → o ≡ None
    by None at = refl
    by (Some part) at = by_kind (is_same_kind part.kind name.kind) refl
      where
        by_kind : (b : Bool) → is_same_kind part.kind name.kind ≡ b → Some part ≡ None
        by_kind true k = let found : part_under_name s name ≡ Some part = ap (option_and_then (part_of_kind name.kind)) at ∙ ap (λ b. cond b (Some part) None) k in cc
        by_kind false k = let other : has_other_kind name.kind (revision_part s name name.part) ≡ true = ap (has_other_kind name.kind) at ∙ ap not k in
            let some : list_any (λ place. has_other_kind name.kind (revision_part s name place)) part_numbers ≡ true = place_passes (λ place. has_other_kind name.kind (revision_part s name place)) part_numbers name.part (name_in_form text name e) other in cc

-- ---- what is answered where no refusal stands

-- a held part that is not other bytes has these bytes
pub held_bytes : (part : Part) (bytes : List ℕ) → is_held_with_other bytes part.content ≡ false → are_bytes_dropped part.content ≡ false → part.content ≡ Held bytes
held_bytes part bytes other gone = by part.content other gone
  where
    by : (c : Content) → is_held_with_other bytes c ≡ false → are_bytes_dropped c ≡ false → c ≡ Held bytes
    by (Held kept) other gone = ap Held ((text_decides kept bytes).0 (not-false (bytes_eq kept bytes) other))
    by (Dropped n) other gone = cc

-- a part that is recorded is answered, and one that is not is recorded
abbrev pub answered : State → Name → List ℕ → ℕ → Option Part → Step
answered s name bytes now (Some part) = Accept (record { entry = OfPart (key_of name) part; is_repeat = true }) s
answered s name bytes now None = Accept (record { entry = OfPart (key_of name) (received_part name bytes now); is_repeat = false }) (state_with_part s (key_of name) (received_part name bytes now))

pub rules_part : (s : State) (text bytes : List ℕ) (now : ℕ) (name : Name) → read_name text ≡ Ok name → has_other_bytes bytes (part_under_name s name) ≡ false → is_dropped (part_under_name s name) ≡ false
    → unless_kept s (kept_record s (Receive text bytes)) (effect s (Receive text bytes) now) ≡ answered s name bytes now (part_under_name s name)
rules_part s text bytes now name named other dropped =
    (λ i. unless_kept s (kept_part_record s (named i) bytes) (receive_step s (named i) bytes now)) ∙ by (part_under_name s name) other dropped
  where
    by : (o : Option Part) → has_other_bytes bytes o ≡ false → is_dropped o ≡ false
        → unless_kept s (option_map (λ (part : Part). OfPart (key_of name) part) (option_and_then (if_held_with bytes) o)) (receive_step s (Ok name) bytes now) ≡ answered s name bytes now o
    by None other dropped = refl
    by (Some part) other dropped =
        let same : is_held_with bytes part.content ≡ true = ap (is_held_with bytes) (held_bytes part bytes other dropped) ∙ (text_decides bytes bytes).1 refl in
        ap (λ b. unless_kept s (option_map (λ (part : Part). OfPart (key_of name) part) (cond b (Some part) None)) (receive_step s (Ok name) bytes now)) same

-- the step of a registration, by what is known of its registry
abbrev pub registered : State → List ℕ → ℕ → ℕ → Option ℕ → Step
registered s tld day now o = unless_kept s (option_map (λ (d : ℕ). OfRegistry tld d) o) (effect s (Register tld day) now)

-- the part recorded under a name
pub recorded_is : (s : State) (name : Name) (part : Part) → part_under_name s name ≡ Some part → (part_at s (key_of name) ≡ Some part) × (is_same_kind part.kind name.kind ≡ true)
recorded_is s name part = passing (λ (p : Part). is_same_kind p.kind name.kind) (part_at s (key_of name)) part

pub recorded_of : (s : State) (name : Name) (part : Part) → part_at s (key_of name) ≡ Some part → is_same_kind part.kind name.kind ≡ true → part_under_name s name ≡ Some part
recorded_of s name part = passing_of (λ (p : Part). is_same_kind p.kind name.kind) (part_at s (key_of name)) part

-- ---- an accepted command, by its outcome

-- what is said of an accepted step
abbrev pub OfAccepted : (Reply → State → Type 0) → Step → Type 0
OfAccepted P (Refuse q) = Unit {0}
OfAccepted P (Accept reply new) = P reply new

-- what is said of the effect of a command that is no repeat, with what is known of a new part and of a hold that is lifted
abbrev pub Makes : (Reply → State → Type 0) → State → Command → ℕ → Type 0
Makes P s (Receive text bytes) now = (name : Name) → read_name text ≡ Ok name → NoneStands s name bytes now → part_under_name s name ≡ None
    → P (record { entry = OfPart (key_of name) (received_part name bytes now); is_repeat = false }) (state_with_part s (key_of name) (received_part name bytes now))
Makes P s (Lift reference) now = (hold : Hold) → get s.holds reference ≡ Some hold → hold.lifted ≡ None → P (record { entry = OfLifting reference now; is_repeat = false }) (state_with_hold s reference (lifted_at now hold))
Makes P s c now = OfAccepted P (effect s c now)

-- a name under which other bytes would be refused has no part that is not a repeat
unrecorded : (key : PartKey) (bytes : List ℕ) (o : Option Part) → option_map (OfPart key) (option_and_then (if_held_with bytes) o) ≡ None → has_other_bytes bytes o ≡ false → is_dropped o ≡ false → o ≡ None
unrecorded key bytes None at other dropped = refl
unrecorded key bytes (Some part) at other dropped =
    let same : is_held_with bytes part.content ≡ true = ap (is_held_with bytes) (held_bytes part bytes other dropped) ∙ (text_decides bytes bytes).1 refl in
    let kept : None ≡ Some (OfPart key part) = sym at ∙ ap (λ b. option_map (OfPart key) (cond b (Some part) None)) same in cc

made_of : (s : State) (c : Command) (now : ℕ) (P : Reply → State → Type 0) → refusal_of s c now ≡ None → kept_record s c ≡ None → Makes P s c now → OfAccepted P (effect s c now)
made_of s (Receive text bytes) now P none new makes = by (read_name text) refl none new
  where
    by : (r : Result Name NameError) → read_name text ≡ r → first_refusal (named_tests s r bytes now) ≡ None → kept_part_record s r bytes ≡ None → OfAccepted P (receive_step s r bytes now)
    by (Err fault) named none new = tt
    by (Ok name) named none new = let stand = none_stand s name bytes now none in makes name named stand (unrecorded (key_of name) bytes (part_under_name s name) new stand.bytes stand.dropped)
made_of s (Lift reference) now P none new makes = by (hold_of s reference) refl new
  where
    by : (o : Option Hold) → hold_of s reference ≡ o → option_map (OfLifting reference) (option_and_then (λ (hold : Hold). hold.lifted) o) ≡ None → OfAccepted P (lift_step s reference now o)
    by None at new = tt
    by (Some hold) at new = makes hold at (unmapped (OfLifting reference) hold.lifted new)
made_of s c now P none new makes = makes

-- An accepted command is a repeat, which leaves the state, or it has its effect.
pub by_outcome : (s : State) (c : Command) (now : ℕ) (P : Reply → State → Type 0) → ((entry : Record) → refusal_of s c now ≡ None → kept_record s c ≡ Some entry → P (record { entry = entry; is_repeat = true }) s)
    → (refusal_of s c now ≡ None → kept_record s c ≡ None → Makes P s c now) → (reply : Reply) (new : State) → step s c now ≡ Accept reply new → P reply new
by_outcome s c now P repeats makes reply new e = let h = step_accepts s c now reply new e in subst (OfAccepted P) h.1 (by h.0 (kept_record s c) refl)
  where
    by : refusal_of s c now ≡ None → (o : Option Record) → kept_record s c ≡ o → OfAccepted P (unless_kept s o (effect s c now))
    by none (Some entry) at = repeats entry none at
    by none None at = made_of s c now P none at (makes none at)

-- what is recorded under the name of a part that is repeated
pub record RepeatsPart (s : State) (text bytes : List ℕ) (now : ℕ) (entry : Record) : Type 0 where
  pub name : Name
  pub named : read_name text ≡ Ok name
  pub none : NoneStands s name bytes now
  pub part : Part
  pub at : part_under_name s name ≡ Some part
  pub is : OfPart (key_of name) part ≡ entry

pub repeats_part : (s : State) (text bytes : List ℕ) (now : ℕ) (entry : Record) → refusal_of s (Receive text bytes) now ≡ None → kept_record s (Receive text bytes) ≡ Some entry → RepeatsPart s text bytes now entry
repeats_part s text bytes now entry none at = by (read_name text) refl none at
  where
    by : (r : Result Name NameError) → read_name text ≡ r → first_refusal (named_tests s r bytes now) ≡ None → kept_part_record s r bytes ≡ Some entry → RepeatsPart s text bytes now entry
    by (Err fault) named none at = cc
    by (Ok name) named none at =
        let kept = mapped (OfPart (key_of name)) (option_and_then (if_held_with bytes) (part_under_name s name)) entry at in
        record { name = name; named = named; none = none_stand s name bytes now none; part = kept.0; at = (passing (λ (p : Part). is_held_with bytes p.content) (part_under_name s name) kept.0 kept.1).0; is = kept.2 }
