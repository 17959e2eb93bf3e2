-- Exit statuses of answers: 0 done, 1 refused, 3 failed, also where output cannot be written.
use Rattle.std.specs.Prelude.{◌≡◌, ◌⊎◌, ℕ, Result, Ok, Err}
use Rattle.custody_machine.specs.Codes.{failure_code, refusal_code, exit_number}
use Rattle.custody_machine.specs.declared.codes.ExitStatus.TheVariants.{Done}
use Rattle.custody.specs.Answers.{init_error_code}
use Rattle.custody.specs.declared.answers.InitError.{InitError}
use Rattle.custody.specs.declared.answers.Refused.{Refused}
use Rattle.custody.specs.declared.answers.Refused.TheVariants as refused

abbrev pub IsExitStatus : ℕ → Type 0
IsExitStatus n = (n ≡ 0) ⊎ ((n ≡ 1) ⊎ (n ≡ 3))

-- what was to be told has this status, and 3 is that of output that was not written
abbrev pub IsStatusAfter : ℕ → ℕ → Type 0
IsStatusAfter status n = (n ≡ status) ⊎ (n ≡ 3)

abbrev pub answer_status : {T : Type 0} → Result T Refused → ℕ
answer_status (Ok found) = exit_number Done
answer_status (Err (refused.Refusal why)) = exit_number (refusal_code why).status
answer_status (Err (refused.Failure why)) = exit_number (failure_code why).status

abbrev pub init_status : InitError → ℕ
init_status error = exit_number (init_error_code error).status
