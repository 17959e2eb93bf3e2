-- The texts of bodies, as the code has them.
use Rattle.http_request.specs.Bodies.{StatementTexts, ReleaseTexts, HoldTexts}
use Rattle.http_request.specs.declared.bodies.StatementFields.{StatementFields}
use Rattle.http_request.specs.declared.bodies.ReleaseFields.{ReleaseFields}
use Rattle.http_request.specs.declared.bodies.HoldFields.{HoldFields}

abbrev pub statement_texts : StatementFields → StatementTexts
statement_texts f = record { date = f.date.now; id = f.id.now; kind = f.kind.now; parts = f.parts; revision = f.revision; tld = f.tld.now }

abbrev pub release_texts : ReleaseFields → ReleaseTexts
release_texts f = record { reason = f.reason.now; tld = f.tld.now }

abbrev pub hold_texts : HoldFields → HoldTexts
hold_texts f = record { date = f.date.now; tld = f.tld.now }
