-- Where an explanation tells no reason, a deposit that the failed one follows was dropped.
use Rattle.std.proofs.Common.{◌≡◌, List, Bool, true, false, refl, ◌∙◌, subst}
use Rattle.std.specs.List.{list_any}
use Rattle.custody_machine.specs.State.{State, empty}
use Rattle.custody_machine.specs.Machine.{TimedCommand, after, chain_before, first_part, has_dropped_part, joined_bytes}
use Rattle.custody_machine.specs.Explaining.{explain_tests, is_revision_dropped, known_before, state_before}
use Rattle.custody_machine.proofs.Accepting.{all_fail}
use Rattle.custody.specs.Explaining.{IsToldReason}
use Rattle.theorems.specs.Explained.{IsFoundAgain, IsToldUnlessDropped}
use Rattle.theorems.proofs.FoundAgain.{failures_are_found_again}

told_unless_dropped : (state : State) → IsFoundAgain state → IsToldUnlessDropped state
told_unless_dropped state again tld day rev told none why unknown = by (list_any (has_dropped_part state) (chain_before (state_before state why.key) why.stated)) refl
  where
    -- its own parts are held
    held : is_revision_dropped state why.stated.tld why.stated.day why.stated.rev ≡ false
    held = (λ i. is_revision_dropped state (why.registry i) (why.day_right i) (why.rev_right i)) ∙ (all_fail (explain_tests state tld day rev) none).1.1.0

    by : (b : Bool) → list_any (has_dropped_part state) (chain_before (state_before state why.key) why.stated) ≡ b → list_any (has_dropped_part state) (chain_before (state_before state why.key) why.stated) ≡ true
    by true is = is
    by false is = absurd (subst (IsToldReason (joined_bytes state (first_part why.stated)) (known_before state why.key why.stated) told.check) unknown why.reason (again why.key why.notice why.stated told.check why.failed held is))

pub reasons_are_told_unless_dropped : (commands : List TimedCommand) → IsToldUnlessDropped (after empty commands)
reasons_are_told_unless_dropped commands = told_unless_dropped (after empty commands) (failures_are_found_again commands)
