use Rattle.std.specs.Prelude.{◌≡◌, ◌==◌, ℕ, take}
use Rattle.std.specs.List.{list_any}
use Rattle.std.specs.Ordering.{nat_cmp}
use Rattle.std.specs.BTreeSet.{contains}
use Rattle.custody_rules.proofs.days_due.noticed_days.Given as goal

abbrev pub invariant-loop-notice : goal.invariant-loop-notice
invariant-loop-notice l = (day : ℕ) → contains nat_cmp l.days day ≡ list_any (λ n. n.day == day) (take l.notice-index l.notices)
