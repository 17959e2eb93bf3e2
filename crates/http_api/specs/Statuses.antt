-- The statuses of responses (RFC 9110, section 15; of the last RFC 4918, section 11.5).
use Rattle.std.specs.Prelude.{List, ℕ, ◌++◌, codes, decimal}
use Rattle.custody_machine.specs.Codes.{http_number}
use Rattle.custody_machine.specs.declared.codes.HttpStatus.{HttpStatus}
use Rattle.custody_machine.specs.declared.codes.HttpStatus.TheVariants.{BadRequest, NotFound, Conflict, Gone, ContentTooLarge, InternalServerError, ServiceUnavailable, InsufficientStorage}
use Rattle.http_api.specs.declared.status.ResponseStatus.{ResponseStatus}
use Rattle.http_api.specs.declared.status.ResponseStatus.TheVariants.{Done, Created, MethodNotAllowed, LengthRequired, NotImplemented, Coded}

abbrev pub phrase : HttpStatus → List ℕ
phrase BadRequest = codes "Bad Request"
phrase NotFound = codes "Not Found"
phrase Conflict = codes "Conflict"
phrase Gone = codes "Gone"
phrase ContentTooLarge = codes "Content Too Large"
phrase InternalServerError = codes "Internal Server Error"
phrase ServiceUnavailable = codes "Service Unavailable"
phrase InsufficientStorage = codes "Insufficient Storage"

-- the status of a refusal or a failure, by its code
abbrev pub coded_text : HttpStatus → List ℕ
coded_text status = decimal (http_number status) ++ codes " " ++ phrase status

-- code and phrase
abbrev pub status_text : ResponseStatus → List ℕ
status_text Done = codes "200 OK"
status_text Created = codes "201 Created"
status_text MethodNotAllowed = codes "405 Method Not Allowed"
status_text LengthRequired = codes "411 Length Required"
status_text NotImplemented = codes "501 Not Implemented"
status_text (Coded status) = coded_text status
