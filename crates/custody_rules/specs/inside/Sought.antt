-- The tests of what a notice is sought to tell.
use Rattle.std.specs.Prelude.{Bool}
use Rattle.desk.specs.Standing.{is_receipt}
use Rattle.desk.specs.declared.notices.NoticeKind.{NoticeKind}
use Rattle.custody_machine.specs.Machine.{is_absence, is_failure_of, is_verdict, is_verdict_of}
use Rattle.custody_rules.specs.declared.days.Sought.{Sought}
use Rattle.custody_rules.specs.declared.days.Sought.TheVariants.{Receipt, FailureOf, Verdict, VerdictOf, Absence}

abbrev pub is_sought : Sought → NoticeKind → Bool
is_sought Receipt = is_receipt
is_sought (FailureOf rev) = is_failure_of rev
is_sought Verdict = is_verdict
is_sought (VerdictOf rev) = is_verdict_of rev
is_sought Absence = is_absence
