use Rattle.deposit_verify.proofs.references.hosts_are_there.Goals as goal
use Rattle.deposit_verify.proofs.references.hosts_are_there.Goals.{then-are_keys, else-are_keys}

pub returns : goal.returns
returns c = elim c.if-are_keys.branch [
  | then-are_keys w ↦ rw w.result-is (
    λ e. record { of_name_servers = c.are_keys.ensures.0 w.if-are_keys.true; of_addresses = w.are_keys-then-are_keys.ensures.0 e },
    λ h. w.are_keys-then-are_keys.ensures.1 h.of_addresses,
  )
  | else-are_keys w ↦ rw w.result-is (λ e. cc e, λ h. cc (c.are_keys.ensures.1 h.of_name_servers, w.if-are_keys.false))
]
