-- What acceptance of a statement tells.
use Rattle.std.proofs.Common.{◌≡◌, ℕ, Option, Some, None, Bool, false, not, ◌&&◌, cond, is_none}
use Rattle.std.specs.Prelude.{option_map}
use Rattle.custody_records.specs.Keys.{NoticeKey}
use Rattle.custody_records.specs.Records.{Notice}
use Rattle.custody_machine.specs.declared.command.Statement as statement
use Rattle.custody_machine.specs.State.{State}
use Rattle.custody_machine.specs.Machine.{Refusal, RegistryUnknown, DateOutOfRange, DroppedAfterKeeping, AlreadyStated, TypeDiffers, PartsDiffer, LaterDayPassed, OfNotice, Step, is_unregistered, is_outside, first_part, has_part_of_other_kind, has_dropped_part, has_verdict, kept_verdict, has_other_count, has_later_receipt, statement_tests, first_refusal, unless_kept, statement_step}
use Rattle.custody_machine.proofs.Accepting.{all_fail}

-- none of the refusals of a statement stands
pub record NoneStandsOf (s : State) (st : statement.Statement) (now : ℕ) : Type 0 where
  pub registry : is_unregistered s (first_part st) ≡ false
  pub date : (is_none (kept_verdict s st) && is_outside s (first_part st) now) ≡ false
  pub dropped : (not (has_verdict s st) && has_dropped_part s (first_part st)) ≡ false
  pub stated : (is_none (kept_verdict s st) && has_verdict s st) ≡ false
  pub kind : has_part_of_other_kind s (first_part st) ≡ false
  pub number : has_other_count s st ≡ false
  pub later : (is_none (kept_verdict s st) && has_later_receipt s st) ≡ false

module _ (s : State) (st : statement.Statement) (now : ℕ) where
  pub none_stand_of : first_refusal (statement_tests s st now) ≡ None → NoneStandsOf s st now
  none_stand_of e = let f = all_fail (statement_tests s st now) e in record { registry = f.0; date = f.1.0; dropped = f.1.1.0; stated = f.1.1.1.0; kind = f.1.1.1.1.0; number = f.1.1.1.1.1.0; later = f.1.1.1.1.1.1.0 }

-- the refusals of a statement, in their order
abbrev pub statement_refusals : (RegistryUnknown DateOutOfRange DroppedAfterKeeping AlreadyStated TypeDiffers PartsDiffer LaterDayPassed : Bool) → Option Refusal
statement_refusals a b c d e f g = cond a (Some RegistryUnknown) (cond b (Some DateOutOfRange) (cond c (Some DroppedAfterKeeping) (cond d (Some AlreadyStated) (cond e (Some TypeDiffers) (cond f (Some PartsDiffer) (cond g (Some LaterDayPassed) None))))))

-- the step of a statement, by the verdict that is kept
abbrev pub stated_by : State → statement.Statement → ℕ → Option (NoticeKey × Notice) → Step
stated_by s st now o = unless_kept s (option_map (λ (entry : NoticeKey × Notice). OfNotice entry.0 entry.1) o) (statement_step s st now)
