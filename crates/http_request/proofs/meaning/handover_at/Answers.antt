use Rattle.std.proofs.Common.{sym}
use Rattle.http_request.specs.Action.{handover_texts}
use Rattle.http_request.specs.Bodies.{release_json}
use Rattle.http_request.specs.inside.BodyReading.{release_fields}
use Rattle.http_request.proofs.BodyLemmas.{none_read, one_read, release_back}
use Rattle.http_request.proofs.meaning.handover_at.Goals as goal

pub returns-in_err-release_fields-clause-only : goal.returns-in_err-release_fields-clause-only
returns-in_err-release_fields-clause-only c = λ tld reason h e.
    absurd (none_read release_fields release_json release_back _ (handover_texts tld reason) (sym (rw c.in_err-release_fields.was at c.release_fields.ensures)) e)

pub returns-clause-only : goal.returns-clause-only
returns-clause-only c = λ tld reason h e.
    c.handover_in.ensures.only tld reason h (one_read release_fields release_json release_back _ _ (handover_texts tld reason) (rw c.in_ok-release_fields.was at c.release_fields.ensures) e)
