-- The least check that fails.
use Rattle.std.proofs.Common.{◌≡◌, ◌+◌, ◌∙◌, List, [], ◌∷◌, ℕ, ap, arith, get_or, inl, inr, refl, subst, sym}
use Rattle.std.proofs.lemmas.Bool.Decides.{eqb_tells, leb_tells}
use Rattle.desk.specs.Checks.{check_number}
use Rattle.desk.specs.declared.checks.Check.{Check}
use Rattle.desk.specs.declared.checks.Check.TheVariants.{Frame, Envelope, Name, Statement, Weekday, PrevId, IdTaken, Menu, Files, Table, Counts, References, Deletes}
use Rattle.deposit_verify.specs.Checks.{PassesBelow, IsLeast}
use Rattle.deposit_verify.specs.declared.verdict.Verdict.{Verdict}
use Rattle.deposit_verify.specs.declared.verdict.Verdict.TheVariants.{Pass, Fail}

-- all checks, each at its number
abbrev numbered : List Check
numbered =
    Frame ∷ Frame ∷ Envelope ∷ Name ∷ Statement ∷ Weekday ∷ PrevId ∷ IdTaken ∷ Menu ∷ Files ∷ Table ∷ Counts ∷ References ∷ Deletes ∷ []

numbered_right : (c : Check) → get_or numbered (check_number c) Frame ≡ c
numbered_right Frame = refl
numbered_right _ = refl

-- no two checks have one number
pub same_check : (c d : Check) → check_number c ≡ check_number d → c ≡ d
same_check c d same = sym (numbered_right c) ∙ ap (λ (n : ℕ). get_or numbered n Frame) same ∙ numbered_right d

-- no check is below the first
pub below_none : (P : Check → Type 0) → PassesBelow P 1
below_none P Frame h = absurd (omega arith)
below_none P _ h = absurd (omega arith)

-- one check more
pub below_more : (P : Check → Type 0) (c : Check) → PassesBelow P (check_number c) → P c → PassesBelow P (check_number c + 1)
below_more P c before here d h = elim (eqb_tells (check_number d) (check_number c)) [
  | inl same ↦ subst P (sym (same_check d c same.1)) here
  | inr other ↦ before d (omega (arith, h, other.1))
]

-- all checks
pub below_all : (P : Check → Type 0) → PassesBelow P 14 → (c : Check) → P c
below_all P all Frame = all Frame (omega arith)
below_all P all c = all c (omega arith)

-- no two verdicts are the least
pub one_least : (P : Check → Type 0) (v w : Verdict) → IsLeast P v → IsLeast P w → v ≡ w
one_least P Pass Pass p q = refl
one_least P Pass (Fail d) p q = absurd (q.0 (p d))
one_least P (Fail c) Pass p q = absurd (p.0 (q c))
one_least P (Fail c) (Fail d) p q = elim (eqb_tells (check_number c) (check_number d)) [
  | inl same ↦ ap Fail (same_check c d same.1)
  | inr other ↦ elim (leb_tells (check_number c) (check_number d)) [
    | inl below ↦ absurd (p.0 (q.1 c (omega (arith, below.1, other.1))))
    | inr above ↦ absurd (q.0 (p.1 d above.1))
  ]
]
