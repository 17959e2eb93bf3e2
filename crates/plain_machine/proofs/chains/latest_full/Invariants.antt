use Rattle.std.proofs.Common.{◌≡◌, take}
use Rattle.custody_machine.specs.Machine.{latest_full}
use Rattle.plain_machine.proofs.chains.latest_full.Given as goal

abbrev pub invariant-loop-name : goal.invariant-loop-name
invariant-loop-name l = l.latest ≡ latest_full (take l.name-index l.passed)
