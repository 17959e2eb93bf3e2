use Rattle.deposit_pack.proofs.chains.check.Goals as goal

pub returns-in-Err-clause-reason : goal.returns-in-Err-clause-reason
returns-in-Err-clause-reason c = λ known is. let reason = rw c.in-Err.is at c.in_ok-found.ensures.reason in ((reason known).fails, reason known)
