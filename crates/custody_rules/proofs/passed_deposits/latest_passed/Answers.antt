use Rattle.std.proofs.Common.{ℕ, List, ◌≡◌, ◌∙◌, sym, ap, Some, None, arith}
use Rattle.std.specs.Prelude.{option_map}
use Rattle.custody_rules.specs.inside.PassedDeposits.{later_pair, passed_pair}
use Rattle.custody_rules.proofs.Passed.{latest_more, latest_at_end}
use Rattle.custody_rules.proofs.passed_deposits.latest_passed.Goals as goal
use Rattle.custody_rules.proofs.passed_deposits.latest_passed.Goals.{in-Some, in_default}

pub loop-notice-preserved : goal.loop-notice-preserved
loop-notice-preserved c =
    latest_more c.args.notices.now c.loop-notice.notice-index c.notice-item.result (option_map passed_pair c.loop-notice.latest) (option_map passed_pair c.match-passed_deposit_of.latest) (omega arith) (sym c.notice-item.is) c.loop-notice.invariant
    (λ pair is. elim c.match-passed_deposit_of.branch [
      | in-Some w ↦
          let both : Some (passed_pair w.in-Some.passed) ≡ Some pair = ap (option_map passed_pair) (sym w.in-Some.is) ∙ c.passed_deposit_of.ensures ∙ is in
          let same : passed_pair w.in-Some.passed ≡ pair = cc in
          ap (option_map passed_pair) w.latest-is ∙ ap Some (w.later_of.ensures ∙ ap (later_pair (option_map passed_pair c.loop-notice.latest)) same)
      | in_default w ↦ let none : None ≡ Some pair = ap (option_map passed_pair) (sym w.in_default.is) ∙ c.passed_deposit_of.ensures ∙ is in cc
    ])
    (λ is. elim c.match-passed_deposit_of.branch [
      | in-Some w ↦ let some : Some (passed_pair w.in-Some.passed) ≡ None = ap (option_map passed_pair) (sym w.in-Some.is) ∙ c.passed_deposit_of.ensures ∙ is in cc
      | in_default w ↦ ap (option_map passed_pair) w.latest-is
    ])

pub returns : goal.returns
returns c = sym (ap (option_map (λ (one : ℕ × List ℕ). one.1)) (ap (option_map passed_pair) c.in_ok-latest.was)) ∙ latest_at_end c.args.notices.now c.loop-notice.notice-index (option_map passed_pair c.loop-notice.latest) c.loop-notice-test.false c.loop-notice.invariant
