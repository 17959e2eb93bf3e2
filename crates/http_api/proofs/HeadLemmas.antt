-- How long the texts in the head of a response are.
use Rattle.std.proofs.Common.{◌≤◌, arith, length}
use Rattle.std.specs.Fmt.{digits}
use Rattle.custody_machine.specs.declared.codes.HttpStatus.{HttpStatus}
use Rattle.custody_machine.specs.declared.codes.HttpStatus.TheVariants.{BadRequest}
use Rattle.http_api.specs.Statuses.{coded_text, status_text}
use Rattle.http_api.specs.declared.status.ResponseStatus.{ResponseStatus}
use Rattle.http_api.specs.declared.status.ResponseStatus.TheVariants.{Coded}

coded_short : (status : HttpStatus) → length (coded_text status) ≤ 30
unfolding digits
coded_short BadRequest = omega arith
coded_short _ = omega arith

pub status_short : (status : ResponseStatus) → length (status_text status) ≤ 30
status_short (Coded status) = coded_short status
status_short _ = omega arith
