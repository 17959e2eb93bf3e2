use Rattle.std.proofs.Common.{sym}
use Rattle.http_request.specs.Action.{held_day_texts}
use Rattle.http_request.specs.Bodies.{hold_json}
use Rattle.http_request.specs.inside.BodyReading.{hold_fields}
use Rattle.http_request.proofs.BodyLemmas.{none_read, hold_back}
use Rattle.http_request.proofs.meaning.held_day_at.Goals as goal

pub returns-in_err-hold_fields-clause-only : goal.returns-in_err-hold_fields-clause-only
returns-in_err-hold_fields-clause-only c = λ tld day known h e.
    absurd (none_read hold_fields hold_json hold_back _ (held_day_texts tld day) (sym (rw c.in_err-hold_fields.was at c.hold_fields.ensures)) e)
