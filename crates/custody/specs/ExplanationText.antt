-- The line of an explanation, without its line feed.
use Rattle.std.specs.Prelude.{ℕ, List, [], ◌++◌, codes, Option, None, Some}
use Rattle.schedule.specs.Text.{day_text}
use Rattle.desk.specs.Checks.{check_text}
use Rattle.deposit_verify.specs.declared.reason.Reason.{Reason}
use Rattle.deposit_verify.specs.ReasonText.{reason_text}
use Rattle.custody.specs.declared.explanation.Explanation.{Explanation}

-- why it fails, or why that is not known
abbrev pub cause_text : Option Reason → List ℕ
cause_text None = codes "no longer known: a deposit that it follows was dropped"
cause_text (Some reason) = reason_text reason

-- the day of the deposit that had its id
abbrev pub day_behind : Option ℕ → List ℕ
day_behind None = []
day_behind (Some day) = codes ", on " ++ day_text day

-- as `FAILURE-10 domain row 3 fCrDate: not a moment: 2020-13-01T00:00:00Z`
abbrev pub explanation_text : Explanation → List ℕ
explanation_text told = codes "FAILURE-" ++ (check_text told.check ++ (codes " " ++ (cause_text told.reason ++ day_behind told.passed_on)))
