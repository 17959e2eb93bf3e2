use Rattle.std.proofs.Common.{refl}
use Rattle.std.specs.Fmt.{digits}
use Rattle.http_api.proofs.status.coded_text.Goals as goal

pub returns-in-BadRequest : goal.returns-in-BadRequest
unfolding digits
returns-in-BadRequest c = rw c.in-BadRequest.is refl

pub returns-in-NotFound : goal.returns-in-NotFound
unfolding digits
returns-in-NotFound c = rw c.in-NotFound.is refl

pub returns-in-Conflict : goal.returns-in-Conflict
unfolding digits
returns-in-Conflict c = rw c.in-Conflict.is refl

pub returns-in-Gone : goal.returns-in-Gone
unfolding digits
returns-in-Gone c = rw c.in-Gone.is refl

pub returns-in-ContentTooLarge : goal.returns-in-ContentTooLarge
unfolding digits
returns-in-ContentTooLarge c = rw c.in-ContentTooLarge.is refl

pub returns-in-InternalServerError : goal.returns-in-InternalServerError
unfolding digits
returns-in-InternalServerError c = rw c.in-InternalServerError.is refl

pub returns-in-ServiceUnavailable : goal.returns-in-ServiceUnavailable
unfolding digits
returns-in-ServiceUnavailable c = rw c.in-ServiceUnavailable.is refl

pub returns-in-InsufficientStorage : goal.returns-in-InsufficientStorage
unfolding digits
returns-in-InsufficientStorage c = rw c.in-InsufficientStorage.is refl
