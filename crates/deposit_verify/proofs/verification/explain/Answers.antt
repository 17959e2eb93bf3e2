use Rattle.desk.specs.declared.checks.Check.TheVariants as check
use Rattle.envelope.specs.Envelope.{env_of}
use Rattle.std.proofs.Common.{arith, refl}
use Rattle.deposit_verify.specs.HeaderReasons.{header_check}
use Rattle.deposit_verify.specs.Known.{known_in}
use Rattle.deposit_verify.proofs.Lifted.{if_ok, least, least_failing}
use Rattle.deposit_verify.proofs.ReasonLemmas.{explained}
use Rattle.deposit_verify.proofs.verification.explain.Goals as goal

pub returns-in-Err-clause-verdict : goal.returns-in-Err-clause-verdict
returns-in-Err-clause-verdict c = let told = rw c.in-Err.is at c.in_ok-found.ensures.reason in (told (known_in c.args.about.now)).fails

pub returns-in-Err-clause-reason : goal.returns-in-Err-clause-reason
returns-in-Err-clause-reason c = let told = rw c.in-Err.is at c.in_ok-found.ensures.reason in told (known_in c.args.about.now)

pub returns-in-Some-clause-verdict : goal.returns-in-Some-clause-verdict
returns-in-Some-clause-verdict c =
    let v = env_of c.in-Ok.found.envelope in
    let rest = c.in-Ok.found.rest.now in
    let deposit = rw c.in-Ok.is at c.in_ok-found.ensures.found in
    least_failing c.law_reading.ensures.one c.args.joined.now (known_in c.args.about.now) v rest deposit.0 (header_check c.in-Some.reason) (c.in-Some.ensures.check rest)

pub returns-in-Some-clause-reason : goal.returns-in-Some-clause-reason
returns-in-Some-clause-reason c =
    let v = env_of c.in-Ok.found.envelope in
    let rest = c.in-Ok.found.rest.now in
    let deposit = rw c.in-Ok.is at c.in_ok-found.ensures.found in record {
      fails = least_failing c.law_reading.ensures.one c.args.joined.now (known_in c.args.about.now) v rest deposit.0 (header_check c.in-Some.reason) (c.in-Some.ensures.check rest);
      place = (v, rest, deposit.0, c.in-Some.ensures.place);
    }

pub files_reason-requires-clause-menu : goal.files_reason-requires-clause-menu
files_reason-requires-clause-menu c = c.in_default.ensures.check c.in-Ok.found.rest.now check.Menu (omega arith)

pub returns-clause-verdict : goal.returns-clause-verdict
returns-clause-verdict c =
    let v = env_of c.in-Ok.found.envelope in
    let rest = c.in-Ok.found.rest.now in
    let k = known_in c.args.about.now in
    let deposit = rw c.in-Ok.is at c.in_ok-found.ensures.found in
    if_ok c.files_reason.result _ _ c.files_reason.ensures.check (λ reason says. least c.law_reading.ensures.one c.args.joined.now k v rest deposit.0 _ (says k refl (c.in_default.ensures.check rest)))

pub returns-clause-reason : goal.returns-clause-reason
returns-clause-reason c =
    let v = env_of c.in-Ok.found.envelope in
    let rest = c.in-Ok.found.rest.now in
    let k = known_in c.args.about.now in
    let deposit = rw c.in-Ok.is at c.in_ok-found.ensures.found in
    explained c.law_reading.ensures.one c.args.joined.now k v rest deposit.0 c.files_reason.result c.files_reason.ensures.check c.files_reason.ensures.place (c.in_default.ensures.check rest)
