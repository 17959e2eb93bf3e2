-- What an envelope and the bytes behind it say is what the deposit says.
use Rattle.std.proofs.Common.{◌≡◌, ◌↔◌, Bool, true, false, cond, IfOk, IsTrue, OnOk, List, ℕ, Option, Some, None, Result, Ok, Err, refl, subst, sym}
use Rattle.std.specs.Prelude.{MatchOption}
use Rattle.desk.specs.declared.checks.Check.{Check}
use Rattle.desk.specs.declared.checks.Check.TheVariants as check
use Rattle.envelope.specs.Frame.{IsFrame}
use Rattle.envelope.specs.Envelope.{Env, IsEnvelope, env_text}
use Rattle.deposit_verify.specs.Checks.{PassesCheck, IsLeast, IsLeastFailing, CheckSays}
use Rattle.deposit_verify.specs.Deposit.{HasEnvelope, IsDeposit}
use Rattle.deposit_verify.specs.Known.{Known}
use Rattle.deposit_verify.specs.inside.Reading.{OneReading}
use Rattle.deposit_verify.specs.declared.verdict.Verdict.{Verdict}
use Rattle.deposit_verify.specs.declared.verdict.Verdict.TheVariants.{Pass, Fail}

-- a deposit is read in one way
pub one_envelope : OneReading → (joined : List ℕ) (v w : Env) (rest more : List ℕ) → IsDeposit joined v rest → IsDeposit joined w more → (w ≡ v) × (more ≡ rest)
one_envelope one joined v w rest more d e =
    let frames = one.frame joined (env_text w) (env_text v) more rest e.framed d.framed in
    (one.envelope w v e.in_form d.in_form frames.0, frames.1)

-- what holds of its envelope and of the bytes behind it
pub in_envelope : OneReading → (joined : List ℕ) (v : Env) (rest : List ℕ) → IsDeposit joined v rest → (P : Env → List ℕ → Type 0) → HasEnvelope joined P ↔ P v rest
in_envelope one joined v rest d P = (
  λ h.
      let same = one_envelope one joined v h.0 rest h.1 d h.2 in
      subst (P v) same.1 (subst (λ (w : Env). P w h.1) same.0 h.3),
  λ here. (v, rest, d, here),
)

pub says_holds : (joined : List ℕ) (k : Known) (v : Env) (rest : List ℕ) → IsDeposit joined v rest → (c : Check) → CheckSays v rest k c → PassesCheck joined k c
says_holds joined k v rest d check.Frame says = (env_text v, rest, d.framed)
says_holds joined k v rest d check.Envelope says = (v, rest, d, says)
says_holds joined k v rest d _ says = (v, rest, d, says)

pub holds_says : OneReading → (joined : List ℕ) (k : Known) (v : Env) (rest : List ℕ) → IsDeposit joined v rest → (c : Check) → PassesCheck joined k c → CheckSays v rest k c
holds_says one joined k v rest d check.Frame holds = tt
holds_says one joined k v rest d c holds = (in_envelope one joined v rest d (λ w more. CheckSays w more k c)).0 holds

pub least_failing : OneReading → (joined : List ℕ) (k : Known) (v : Env) (rest : List ℕ) → IsDeposit joined v rest → (c : Check) → IsLeastFailing (CheckSays v rest k) c → IsLeastFailing (PassesCheck joined k) c
least_failing one joined k v rest d c least =
    (λ holds. least.0 (holds_says one joined k v rest d c holds), λ lower less. says_holds joined k v rest d lower (least.1 lower less))

pub least : OneReading → (joined : List ℕ) (k : Known) (v : Env) (rest : List ℕ) → IsDeposit joined v rest → (verdict : Verdict) → IsLeast (CheckSays v rest k) verdict → IsLeast (PassesCheck joined k) verdict
least one joined k v rest d Pass all = λ c. says_holds joined k v rest d c (all c)
least one joined k v rest d (Fail c) failing = least_failing one joined k v rest d c failing

pub on_ok : {A E : Type 0} (r : Result A E) {P Q : Type 0} → OnOk r P → (P → Q) → OnOk r Q
on_ok (Ok a) h f = f h
on_ok (Err e) h f = tt

pub if_ok : {A E : Type 0} (r : Result A E) (P Q : A → Type 0) → IfOk r P → ((a : A) → P a → Q a) → IfOk r Q
if_ok (Ok a) P Q h f = f a h
if_ok (Err e) P Q h f = tt

pub deposit_of : (joined envelope rest : List ℕ) (v : Env) → IsFrame joined envelope rest → IsEnvelope v → envelope ≡ env_text v → IsDeposit joined v rest
deposit_of joined envelope rest v framed form spelled = record { in_form = form; framed = subst (λ (t : List ℕ). IsFrame joined t rest) spelled framed }

-- what a fact of an option says of the answer of code that leaves its value in a place, or nothing of use
pub answered : {A : Type 0} (L : Type 0) (Q : A → Type 0) (o : Option A) (a : A) (is : Bool) → MatchOption o (¬ L) (λ x. L × Q x) → cond is (Some a) None ≡ o → (IsTrue is ↔ L) × (IsTrue is → Q a)
answered L Q o a true fact e =
    let found = subst (λ o. MatchOption o (¬ L) (λ x. L × Q x)) (sym e) fact in
    ((λ _. found.0, λ _. refl), λ _. found.1)
answered L Q o a false fact e =
    let none = subst (λ o. MatchOption o (¬ L) (λ x. L × Q x)) (sym e) fact in
    ((λ no. cc no, λ yes. absurd (none yes)), λ no. cc no)
