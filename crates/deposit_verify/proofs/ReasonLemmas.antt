-- Reasons: their places, and their texts.
use Rattle.std.proofs.Common.{◌≡◌, ℕ, List, Option, Some, None, Result, Ok, Err, IfOk, IfSome, refl}
use Rattle.envelope.specs.Envelope.{Env}
use Rattle.deposit_verify.specs.Checks.{CheckSays, IsLeast, PassesBelow}
use Rattle.deposit_verify.specs.Deposit.{IsDeposit}
use Rattle.deposit_verify.specs.Known.{Known}
use Rattle.deposit_verify.specs.Reasons.{IsPlace, IsPlaceIn, IsReason, verdict_for}
use Rattle.deposit_verify.specs.declared.reason.Reason.{Reason}
use Rattle.deposit_verify.specs.declared.reason.Reason.TheVariants.{Frame, Envelope, Header, Read, Tables}
use Rattle.deposit_verify.specs.inside.Reading.{OneReading}
use Rattle.deposit_verify.proofs.Lifted.{least}

-- a place behind the envelope is one of the deposit
in_deposit : (joined : List ℕ) (k : Known) (v : Env) (rest : List ℕ) → IsDeposit joined v rest → (reason : Reason) → IsPlaceIn v rest k reason → IsPlace joined k reason
in_deposit joined k v rest d (Frame fault) is = absurd is
in_deposit joined k v rest d (Envelope fault) is = absurd is
in_deposit joined k v rest d (Header reason) is = (v, rest, d, is)
in_deposit joined k v rest d (Read fault) is = (v, rest, d, is)
in_deposit joined k v rest d (Tables reason) is = (v, rest, d, is)

-- where the checks up to that of the menu hold, what fails behind them is the reason
pub explained : {E : Type 0} → OneReading → (joined : List ℕ) (k : Known) (v : Env) (rest : List ℕ) → IsDeposit joined v rest → (result : Result (Option Reason) E)
    → IfOk result (λ found. (known : Known) → known.base ≡ k.base → PassesBelow (CheckSays v rest known) 9 → IsLeast (CheckSays v rest known) (verdict_for found))
    → IfOk result (λ found. IfSome found (λ reason. (known : Known) → known.base ≡ k.base → IsPlaceIn v rest known reason))
    → PassesBelow (CheckSays v rest k) 9 → IfOk result (λ found. IfSome found (IsReason joined k))
explained one joined k v rest d (Err e) check place below = tt
explained one joined k v rest d (Ok None) check place below = tt
explained one joined k v rest d (Ok (Some reason)) check place below = record {
  fails = least one joined k v rest d (verdict_for (Some reason)) (check k refl below);
  place = in_deposit joined k v rest d reason (place k refl);
}
