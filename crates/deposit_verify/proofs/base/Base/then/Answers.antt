use Rattle.deposit_verify.proofs.BaseLemmas.{then_law}
use Rattle.deposit_verify.proofs.Lifted.{if_ok}
use Rattle.deposit_verify.proofs.base.Base.then.Goals as goal

pub returns-clause-read : goal.returns-clause-read
returns-clause-read c =
    let laws = c.law_reading.ensures in
    if_ok c.follow_later.result _ _ c.follow_later.ensures (λ is e. (then_law laws.readers laws.tables laws.one c.args.joined.now c.args.self.now _ is e).0)

pub returns-clause-base : goal.returns-clause-base
returns-clause-base c =
    let laws = c.law_reading.ensures in
    if_ok c.follow_later.result _ _ c.follow_later.ensures (λ is e. (then_law laws.readers laws.tables laws.one c.args.joined.now c.args.self.now _ is e).1)
