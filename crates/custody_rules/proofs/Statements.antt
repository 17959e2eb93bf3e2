-- What the records tell of a statement is what the machine decides of it, in their state with any image.
use Rattle.std.proofs.Common.{◌≡◌, ℕ, List, Some, None, not, ◌&&◌, ◌||◌, ◌==◌, nat_lt, ◌∙◌, is_none}
use Rattle.std.specs.Prelude.{unwrap_or, if◌then◌else◌}
use Rattle.std.specs.List.{find, list_any}
use Rattle.std.specs.Option.{option_and_then}
use Rattle.std.specs.FinMap.{entries, get}
use Rattle.schedule.specs.Schedule.{day_of}
use Rattle.custody_records.specs.Records.{Records}
use Rattle.custody_machine.specs.declared.command.Statement as statement
use Rattle.custody_machine.specs.State.{has_notice, is_notice_of}
use Rattle.custody_machine.specs.StoredState.{state_in}
use Rattle.custody_machine.specs.Machine.{first_part, is_verdict_of, if_of_id, has_other_count, kept_verdict, statement_tests, first_refusal}
use Rattle.custody_machine.proofs.Stated.{statement_refusals}
use Rattle.custody_rules.specs.Judging.{differs_in_number, is_later_receipt, kept_verdict_in, tests_of_statement}
use Rattle.custody_rules.proofs.Judged.{kinds_in_state, count_in_state, dropped_in_state}

module _ (records : Records) (st : statement.Statement) (image : List ℕ) where
  number_in_state : has_other_count (state_in records image) st ≡ differs_in_number records st
  number_in_state = λ i. (count_in_state records image (first_part st) i == 0) || not (count_in_state records image (first_part st) i == st.parts)

  pub kept_in_state : kept_verdict (state_in records image) st ≡ kept_verdict_in records st
  kept_in_state = λ i. if not (kinds_in_state records image (first_part st) i) && not (number_in_state i) then option_and_then (if_of_id st.id) (find (is_notice_of st.tld st.day (is_verdict_of st.rev)) (entries records.notices)) else None

  -- the first refusal of a statement that was not made before, as the records have it
  pub first_of_statement : (now first : ℕ) → get records.registries st.tld ≡ Some first → kept_verdict_in records st ≡ None → first_refusal (statement_tests (state_in records image) st now) ≡ first_refusal (tests_of_statement records st first now)
  first_of_statement now first known new = λ i.
      statement_refusals (is_none (known i)) (is_none (none i) && (nat_lt st.day (unwrap_or (known i) 0) || nat_lt (day_of now) st.day)) (not (has_notice records.notices st.tld st.day (is_verdict_of st.rev)) && dropped_in_state records image (first_part st) i)
      (is_none (none i) && has_notice records.notices st.tld st.day (is_verdict_of st.rev)) (kinds_in_state records image (first_part st) i) (number_in_state i) (is_none (none i) && list_any (is_later_receipt st) (entries records.notices))
    where
      none : kept_verdict (state_in records image) st ≡ None
      none = kept_in_state ∙ new
