use Rattle.std.specs.Prelude.{option_map, take}
use Rattle.custody_rules.specs.inside.PassedDeposits.{passed_pair, passed_deposits_of}
use Rattle.custody_rules.proofs.Passed.{IsLatest}
use Rattle.custody_rules.proofs.passed_deposits.latest_passed.Given as goal

abbrev pub invariant-loop-notice : goal.invariant-loop-notice
invariant-loop-notice l = IsLatest (passed_deposits_of (take l.notice-index l.notices)) (option_map passed_pair l.latest)
