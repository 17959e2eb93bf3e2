use Rattle.std.proofs.Common.{subst}
use Rattle.envelope.specs.Envelope.{Env, env_of}
use Rattle.deposit_verify.specs.Checks.{AgreesWithName}
use Rattle.deposit_verify.specs.inside.Reading.{OneReading}
use Rattle.deposit_verify.proofs.Lifted.{one_envelope}
use Rattle.deposit_pack.proofs.chains.id_of.Goals as goal

pub returns : goal.returns
returns c = λ id has.
    let one : OneReading = record { envelope = c.law_one_reading.ensures.envelope; frame = c.law_one_reading.ensures.frame } in
    let v = env_of c.in-Ok.field-0.envelope in
    let found = rw c.in-Ok.is at c.in_ok-envelope.ensures.found in
    let same = one_envelope one c.args.deposit.now.joined.now v has.0 c.in-Ok.field-0.rest.now has.1 found.0 has.2 in
    let agrees : AgreesWithName v c.args.deposit.now.name = subst (λ (w : Env). AgreesWithName w c.args.deposit.now.name) same.0 has.3.1 in
    cc (c.if-agrees_with.ensures.1 agrees)
