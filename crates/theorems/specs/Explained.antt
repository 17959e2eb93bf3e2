-- The failures of a state that the machine reaches, and what is found of them again (Specification 2, Part A section 7).
use Rattle.std.specs.Prelude.{◌≡◌, ℕ, List, None, Some, false, true}
use Rattle.std.specs.List.{list_any}
use Rattle.desk.specs.declared.checks.Check.{Check}
use Rattle.deposit_verify.specs.declared.verdict.Verdict.TheVariants.{Fail}
use Rattle.custody_records.specs.Keys.{NoticeKey}
use Rattle.custody_records.specs.Records.{Notice}
use Rattle.custody_machine.specs.declared.command.Statement as statement
use Rattle.custody_machine.specs.State.{State}
use Rattle.custody_machine.specs.Machine.{chain_before, has_dropped_part}
use Rattle.custody_machine.specs.Explaining.{IsFailureOf, explain_refusal, failure_notice, is_revision_dropped, state_before, verdict_before}
use Rattle.custody.specs.declared.explanation.Explanation.{Explanation}
use Rattle.custody.specs.Explaining.{IsExplanation}

-- The failure of a revision tells that one statement on it fails one check.
abbrev pub IsOfOneStatement : State → Type 0
IsOfOneStatement state = (tld : List ℕ) (day rev : ℕ) (key : NoticeKey) (notice : Notice) → failure_notice state tld day rev ≡ Some (key, notice) →
    (stated : statement.Statement) × (check : Check) × (stated.tld ≡ tld) × (stated.day ≡ day) × (stated.rev ≡ rev) × IsFailureOf state key notice stated check
    × ((other : statement.Statement) (another : Check) → IsFailureOf state key notice other another → (other ≡ stated) × (another ≡ check))

-- Where no part of a failure's revision is dropped, and none of the deposits that it follows, the verdict on the bytes that are held, by the notices before its own, is its check.
abbrev pub IsFoundAgain : State → Type 0
IsFoundAgain state = (key : NoticeKey) (notice : Notice) (stated : statement.Statement) (check : Check) → IsFailureOf state key notice stated check →
    is_revision_dropped state stated.tld stated.day stated.rev ≡ false → list_any (has_dropped_part state) (chain_before (state_before state key) stated) ≡ false → verdict_before state key stated ≡ Fail check

-- Where an explanation tells no reason, one of the deposits that the failed one follows, by the notices before its own, was dropped.
abbrev pub IsToldUnlessDropped : State → Type 0
IsToldUnlessDropped state = (tld : List ℕ) (day rev : ℕ) (told : Explanation) → explain_refusal state tld day rev ≡ None → (why : IsExplanation state tld day rev told) → told.reason ≡ None →
    list_any (has_dropped_part state) (chain_before (state_before state why.key) why.stated) ≡ true
