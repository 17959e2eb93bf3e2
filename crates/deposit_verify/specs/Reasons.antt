-- Why a deposit fails: the check of its verdict, and the first place at which it fails that check (Specification 2, Part A, section 7).
use Rattle.std.specs.Prelude.{ℕ, List, Option, Some, None}
use Rattle.desk.specs.declared.checks.Check.{Check}
use Rattle.desk.specs.declared.checks.Check.TheVariants as check
use Rattle.envelope.specs.Envelope.{Env}
use Rattle.envelope.specs.Frame.{IsFrame, RefusesFrame}
use Rattle.envelope.specs.Spelling.{HasSpellingFault}
use Rattle.deposit_verify.specs.Checks.{IsVerdict}
use Rattle.deposit_verify.specs.Deposit.{HasEnvelope}
use Rattle.deposit_verify.specs.FilesReasons.{IsReadFault, fault_check}
use Rattle.deposit_verify.specs.HeaderReasons.{IsHeaderReason, header_check}
use Rattle.deposit_verify.specs.Known.{Known}
use Rattle.deposit_verify.specs.TablesReasons.{IsTablesPlace, tables_check}
use Rattle.deposit_verify.specs.declared.reason.Reason.{Reason}
use Rattle.deposit_verify.specs.declared.reason.Reason.TheVariants.{Frame, Envelope, Header, Read, Tables}
use Rattle.deposit_verify.specs.declared.verdict.Verdict.{Verdict}
use Rattle.deposit_verify.specs.declared.verdict.Verdict.TheVariants.{Pass, Fail}

-- the check that a deposit fails for this reason
abbrev pub reason_check : Reason → Check
reason_check (Frame fault) = check.Frame
reason_check (Envelope fault) = check.Envelope
reason_check (Header reason) = header_check reason
reason_check (Read fault) = fault_check fault
reason_check (Tables reason) = tables_check reason

-- the verdict of a deposit that fails for this reason, or for none
abbrev pub verdict_for : Option Reason → Verdict
verdict_for None = Pass
verdict_for (Some reason) = Fail (reason_check reason)

-- the reason tells the place of the deposit that has this envelope, and these bytes behind it
abbrev pub IsPlaceIn : Env → List ℕ → Known → Reason → Type 0
IsPlaceIn v rest known (Frame fault) = ⊥
IsPlaceIn v rest known (Envelope fault) = ⊥
IsPlaceIn v rest known (Header reason) = IsHeaderReason v known reason
IsPlaceIn v rest known (Read fault) = IsReadFault v rest fault
IsPlaceIn v rest known (Tables reason) = IsTablesPlace v rest known reason

-- the reason tells the place of the deposit
abbrev pub IsPlace : List ℕ → Known → Reason → Type 0
IsPlace joined known (Frame fault) = RefusesFrame fault joined
IsPlace joined known (Envelope fault) = (envelope : List ℕ) × (rest : List ℕ) × IsFrame joined envelope rest × HasSpellingFault fault envelope
IsPlace joined known reason = HasEnvelope joined (λ v rest. IsPlaceIn v rest known reason)

-- The deposit fails the reason's check, and none below it, and the place is the first at which it does.
pub record IsReason (joined : List ℕ) (known : Known) (reason : Reason) : Type 0 where
  pub fails : IsVerdict joined known (Fail (reason_check reason))
  pub place : IsPlace joined known reason
