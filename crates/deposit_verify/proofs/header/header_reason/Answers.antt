use Rattle.std.proofs.Common.{rules}
use Rattle.envelope.specs.Envelope.{env_of}
use Rattle.deposit_verify.specs.Checks.{CheckSays, PassesBelow}
use Rattle.deposit_verify.specs.Known.{known_in}
use Rattle.deposit_verify.proofs.MenuLemmas.{menu_fails}
use Rattle.deposit_verify.proofs.header.header_reason.Goals as goal

pub returns-clause-check : goal.returns-clause-check
returns-clause-check c = λ rest. (
  menu_fails (env_of c.args.envelope.now) c.in_ok-reason.reason c.in_ok-reason.ensures,
  search rules,
)

pub returns-in_err-reason-clause-check : goal.returns-in_err-reason-clause-check
returns-in_err-reason-clause-check c = λ rest.
    let below : PassesBelow (CheckSays (env_of c.args.envelope.now) rest (known_in c.args.about.now)) 9 = search rules in
    rw c.from_residual.ensures below
