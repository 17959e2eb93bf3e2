-- What acceptance of a check tells.
use Rattle.std.proofs.Common.{◌≡◌, ℕ, List, Option, Some, None, Bool, false, ◌&&◌, ◌==◌, cond, is_none}
use Rattle.std.specs.Prelude.{option_map}
use Rattle.schedule.specs.Schedule.{day_of}
use Rattle.custody_records.specs.Keys.{NoticeKey}
use Rattle.custody_records.specs.Records.{Notice}
use Rattle.custody_machine.specs.State.{State, has_notice}
use Rattle.custody_machine.specs.Machine.{Refusal, RegistryUnknown, DateOutOfRange, NotYetDue, DayHasVerdict, Step, is_tld_unregistered, is_day_outside, is_verdict, absence_of, check_tests, first_refusal, unless_kept, notice_record, check_step}
use Rattle.custody_machine.proofs.Accepting.{all_fail}

-- none of the refusals of a check stands
pub record NoneStandsOn (s : State) (tld : List ℕ) (day now : ℕ) : Type 0 where
  pub registry : is_tld_unregistered s tld ≡ false
  pub date : (is_none (absence_of s tld day) && is_day_outside s tld day now) ≡ false
  pub due : (is_none (absence_of s tld day) && day == day_of now) ≡ false
  pub verdict : (is_none (absence_of s tld day) && has_notice s.notices tld day is_verdict) ≡ false

module _ (s : State) (tld : List ℕ) (day now : ℕ) where
  pub none_stand_on : first_refusal (check_tests s tld day now) ≡ None → NoneStandsOn s tld day now
  none_stand_on e = let f = all_fail (check_tests s tld day now) e in record { registry = f.0; date = f.1.0; due = f.1.1.0; verdict = f.1.1.1.0 }

-- the refusals of a check, in their order
abbrev pub check_refusals : (RegistryUnknown DateOutOfRange NotYetDue DayHasVerdict : Bool) → Option Refusal
check_refusals a b c d = cond a (Some RegistryUnknown) (cond b (Some DateOutOfRange) (cond c (Some NotYetDue) (cond d (Some DayHasVerdict) None)))

-- the step of a check, by the absence that is kept
abbrev pub missed_by : State → List ℕ → ℕ → ℕ → Option (NoticeKey × Notice) → Step
missed_by s tld day now o = unless_kept s (option_map notice_record o) (check_step s tld day now)
