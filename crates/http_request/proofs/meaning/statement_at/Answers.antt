use Rattle.std.proofs.Common.{sym}
use Rattle.http_request.specs.Action.{texts_of_statement}
use Rattle.http_request.specs.Bodies.{statement_json}
use Rattle.http_request.specs.inside.BodyReading.{statement_fields}
use Rattle.http_request.proofs.BodyLemmas.{none_read, one_read, statement_back}
use Rattle.http_request.proofs.meaning.statement_at.Goals as goal

pub returns-in_err-statement_fields-clause-only : goal.returns-in_err-statement_fields-clause-only
returns-in_err-statement_fields-clause-only c = λ s h e.
    absurd (none_read statement_fields statement_json statement_back _ (texts_of_statement s) (sym (rw c.in_err-statement_fields.was at c.statement_fields.ensures)) e)

pub returns-clause-only : goal.returns-clause-only
returns-clause-only c = λ s h e.
    c.statement_in.ensures.only s h (one_read statement_fields statement_json statement_back _ _ (texts_of_statement s) (rw c.in_ok-statement_fields.was at c.statement_fields.ensures) e)
