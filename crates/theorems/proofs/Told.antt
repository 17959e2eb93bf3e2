-- What responses tell of records and answers.
use Rattle.std.proofs.Common.{◌≡◌, Bool, true, false, inl, inr, refl, ap, if◌then◌else◌}
use Rattle.custody_machine.specs.declared.answers.Refusal.{Refusal}
use Rattle.custody_machine.specs.declared.answers.Refusal.TheVariants.{NameRefused}
use Rattle.custody_machine.specs.declared.answers.Failure.{Failure}
use Rattle.custody_machine.specs.declared.answers.Failure.TheVariants.{Damaged}
use Rattle.custody_machine.specs.Machine.{Record, OfPart, OfHold, OfPurge, Reply}
use Rattle.custody_machine.specs.Retries.{IsKeptAs}
use Rattle.http_api.specs.declared.status.ResponseStatus.TheVariants.{Done}
use Rattle.http_api.specs.Handling.{failure_response, refusal_response}
use Rattle.theorems.specs.Responses.{accepted_status, record_text, status_of, tells_accepted, tells_failure}

-- a record is told by the same text as it is kept
pub kept_text : (told kept : Record) → IsKeptAs told kept → record_text kept ≡ record_text told
kept_text (OfPart key part) kept (inl is) = ap record_text is
kept_text (OfPart key part) kept (inr is) = ap record_text is
kept_text (OfHold reference hold) kept (inl is) = ap record_text is
kept_text (OfHold reference hold) kept (inr is) = ap record_text is.2
kept_text told kept is = ap record_text is

pub failure_told : (failure : Failure) → tells_failure (failure_response failure).status ≡ true
failure_told (Damaged damage) = refl
failure_told fault = refl

pub refusal_is_none : (refusal : Refusal) → tells_failure (refusal_response refusal).status ≡ false
refusal_is_none (NameRefused fault) = refl
refusal_is_none refusal = refl

made_told : (entry : Record) → (tells_failure (accepted_status entry) ≡ false) × (tells_accepted (accepted_status entry) ≡ true)
made_told (OfPurge count) = (refl, refl)
made_told entry = (refl, refl)

-- an acceptance is told as one, and not as a failure
pub reply_told : (reply : Reply) → (tells_failure (status_of reply) ≡ false) × (tells_accepted (status_of reply) ≡ true)
reply_told reply = by reply.is_repeat
  where
    by : (b : Bool) → (tells_failure (if b then Done else accepted_status reply.entry) ≡ false) × (tells_accepted (if b then Done else accepted_status reply.entry) ≡ true)
    by true = (refl, refl)
    by false = made_told reply.entry
