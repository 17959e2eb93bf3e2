-- When a field passes its test, and what a typed reader of the field then answers.
use Rattle.std.proofs.Common.{◌≡◌, ℕ, pos, ◌+◌, ◌*◌, ◌-◌, ◌≤◌, List, [], ◌∷◌, ◌==◌, Bool, true, false, cond, Option, Some, None, refl, sym, ◌∙◌, ap, subst, arith}
use Rattle.std.specs.Prelude.{IfSome, find}
use Rattle.std.specs.Str.{bytes_eq, IsUtf8}
use Rattle.std.proofs.lemmas.Bool.{eqb-true}
use Rattle.std.proofs.lemmas.Bool.Decides.{nat_tests}
use Rattle.std.proofs.lemmas.Slice.Eq.{bytes_eq-Decides}
use Rattle.schedule.specs.Schedule.{IsDay, IsMoment, last_day}
use Rattle.deposit_name.specs.declared.kinds.Kind.{Kind}
use Rattle.deposit_name.specs.declared.kinds.Kind.TheVariants.{Full, Diff, Incr}
use Rattle.deposit_name.specs.Name.{kind_text, IsNameDay, first_name_day}
use Rattle.desk.specs.Checks.{check_number}
use Rattle.desk.specs.Grounds.{ground_text}
use Rattle.desk.specs.declared.checks.Check.{Check}
use Rattle.desk.specs.declared.grounds.Ground.{Ground}
use Rattle.desk.specs.declared.grounds.Ground.TheVariants.{Operator, Termination, NoNotices, SundayFailed, FiveFailed, Insolvency, Critical, Order, Audit}
use Rattle.custody_records.specs.Form.{is_within, is_number, is_day, is_deposit_day, is_moment, kind_in, check_in, checks, ground_in, grounds}

-- ---- numbers

pub within_passes : (low high n : ℕ) → low ≤ n → n ≤ high → is_within low high (pos n) ≡ true
within_passes low high n above below = grind (arith, nat_tests)

pub number_passes : (n : ℕ) → is_number n (pos n) ≡ true
number_passes n = within_passes n n n (omega arith) (omega arith)

pub day_passes : (d : ℕ) → IsDay d → is_day (pos d) ≡ true
day_passes d h = within_passes 0 last_day d (omega arith) h

pub deposit_day_passes : (d : ℕ) → IsNameDay d → is_deposit_day (pos d) ≡ true
deposit_day_passes d h = within_passes first_name_day last_day d h.0 h.1

pub moment_passes : (s : ℕ) → IsMoment s → is_moment (pos s) ≡ true
moment_passes s h = within_passes 0 (86_400 * (last_day + 1) - 1) s (omega arith) (omega arith)

-- ---- words of a list

pub find_passes : {X : Type 0} (test : X → Bool) (xs : List X) (x : X) → find test xs ≡ Some x → test x ≡ true
find_passes test [] x e = cc
find_passes {X} test (y ∷ xs) x e = by (test y) refl e (find_passes test xs x)
  where
    by : (b : Bool) → test y ≡ b → cond b (Some y) (find test xs) ≡ Some x → (find test xs ≡ Some x → test x ≡ true) → test x ≡ true
    by b is e rest = grind arith

-- a reader that answers just the words that a search finds
word_read : {W : Type 0} (text : W → List ℕ) (words : List W) (t : List ℕ) (o : Option W) → ((w : W) → find (λ x. bytes_eq (text w) (text x)) words ≡ Some w)
    → IfSome o (λ w. t ≡ text w) → ((w : W) → t ≡ text w → o ≡ Some w) → o ≡ find (λ x. bytes_eq t (text x)) words
word_read text words t (Some w) each value only = sym (ap (λ s. find (λ x. bytes_eq s (text x)) words) value ∙ each w)
word_read {W} text words t None each value only = by (find (λ x. bytes_eq t (text x)) words) refl
  where
    by : (found : Option W) → find (λ x. bytes_eq t (text x)) words ≡ found → None ≡ found
    by None e = refl
    by (Some w) e = only w ((bytes_eq-Decides t (text w)).0 (find_passes (λ x. bytes_eq t (text x)) words w e))

pub kind_in-kind_text : (kind : Kind) → kind_in (kind_text kind) ≡ Some kind
kind_in-kind_text kind = grind arith

pub kind_read : (t : List ℕ) (o : Option Kind) → IfSome o (λ k. t ≡ kind_text k) → ((k : Kind) → t ≡ kind_text k → o ≡ Some k) → o ≡ kind_in t
kind_read t o = word_read kind_text (Full ∷ Diff ∷ Incr ∷ []) t o kind_in-kind_text

pub ground_in-ground_text : (reason : Ground) → ground_in (ground_text reason) ≡ Some reason
ground_in-ground_text reason = grind arith

pub ground_read : (t : List ℕ) (o : Option Ground) → IfSome o (λ g. t ≡ ground_text g) → ((g : Ground) → t ≡ ground_text g → o ≡ Some g) → o ≡ ground_in t
ground_read t o = word_read ground_text grounds t o ground_in-ground_text

-- the text of a ground is a text
ground_utf8 : (reason : Ground) → IsUtf8 (ground_text reason)
unfolding lib.Utf8.encode
ground_utf8 Operator = (ground_text Operator, (refl, refl))
ground_utf8 Termination = (ground_text Termination, (refl, refl))
ground_utf8 NoNotices = (ground_text NoNotices, (refl, refl))
ground_utf8 SundayFailed = (ground_text SundayFailed, (refl, refl))
ground_utf8 FiveFailed = (ground_text FiveFailed, (refl, refl))
ground_utf8 Insolvency = (ground_text Insolvency, (refl, refl))
ground_utf8 Critical = (ground_text Critical, (refl, refl))
ground_utf8 Order = (ground_text Order, (refl, refl))
ground_utf8 Audit = (ground_text Audit, (refl, refl))

pub ground_not_text : (t : List ℕ) → ¬ IsUtf8 t → None ≡ ground_in t
ground_not_text t not_text = by (ground_in t) refl
  where
    by : (found : Option Ground) → ground_in t ≡ found → None ≡ found
    by None e = refl
    by (Some g) e = absurd (not_text (subst IsUtf8 (sym ((bytes_eq-Decides t (ground_text g)).0 (find_passes (λ x. bytes_eq t (ground_text x)) grounds g e))) (ground_utf8 g)))

pub check_in-check_number : (check : Check) → check_in (check_number check) ≡ Some check
check_in-check_number check = grind arith

-- a check's number is neither that of a receipt nor that of an absence
pub check_apart : (check : Check) → (is_number 20 (pos (check_number check)) ≡ false) × (is_number 0 (pos (check_number check)) ≡ false)
check_apart check = (grind arith, grind arith)

pub check_read : (n : ℕ) (o : Option Check) → IfSome o (λ c. n ≡ check_number c) → ((c : Check) → n ≡ check_number c → o ≡ Some c) → o ≡ check_in n
check_read n (Some c) value only = sym (ap check_in value ∙ check_in-check_number c)
check_read n None value only = by (check_in n) refl
  where
    by : (found : Option Check) → check_in n ≡ found → None ≡ found
    by None e = refl
    by (Some c) e = only c (sym (eqb-true (check_number c) n (find_passes (λ x. check_number x == n) checks c e)))
