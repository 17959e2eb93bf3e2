use Rattle.std.proofs.Common.{◌≡◌, map, take}
use Rattle.deposit_verify.specs.Bases.{all_then}
use Rattle.custody_machine.specs.Machine.{joined_bytes}
use Rattle.plain_machine.specs.Plain.{state_view}
use Rattle.plain_machine.proofs.state.PlainState.all_then.Given as goal

abbrev pub invariant-loop-name : goal.invariant-loop-name
invariant-loop-name l = l.base ≡ all_then l.fn.base (map (joined_bytes (state_view l.self)) (take l.name-index l.later))
