-- What a refusal or a failure is told as: one row each.
use Rattle.std.specs.Prelude.{ℕ, List, ◌++◌, Option, Some, codes}
use Rattle.custody_machine.specs.declared.answers.Refusal.{Refusal}
use Rattle.custody_machine.specs.declared.answers.Refusal.TheVariants.{NameRefused, RegistryUnknown, DateOutOfRange, Size, OtherBytes, DroppedAfterKeeping, RevisionNotDue, AlreadyStated, TypeDiffers, PartOutOfOrder, VolumeFull, PartsDiffer, LaterDayPassed, NotYetDue, DayHasVerdict, GroundDoesNotStand, ReferenceUsed, NotInRelease, ReleaseUnknown, HoldReferenceUsed, HoldUnknown, NoFailure}
use Rattle.custody_machine.specs.declared.answers.Failure.{Failure}
use Rattle.custody_machine.specs.declared.answers.Failure.TheVariants.{NoMemory, VolumeFailed, StoreFailed, Closed, Damaged}
use Rattle.custody_machine.specs.declared.codes.Code.{Code}
use Rattle.custody_machine.specs.declared.codes.ExitStatus.{ExitStatus}
use Rattle.custody_machine.specs.declared.codes.ExitStatus.TheVariants.{Done, Refused, Misused, Failed}
use Rattle.custody_machine.specs.declared.codes.HttpStatus.{HttpStatus}
use Rattle.custody_machine.specs.declared.codes.HttpStatus.TheVariants.{BadRequest, NotFound, Conflict, Gone, ContentTooLarge, InternalServerError, ServiceUnavailable, InsufficientStorage}

-- the exit status of the program
abbrev pub exit_number : ExitStatus → ℕ
exit_number Done = 0
exit_number Refused = 1
exit_number Misused = 2
exit_number Failed = 3

-- the status code of a response (RFC 9110, section 15; of the last RFC 4918, section 11.5)
abbrev pub http_number : HttpStatus → ℕ
http_number BadRequest = 400
http_number NotFound = 404
http_number Conflict = 409
http_number Gone = 410
http_number ContentTooLarge = 413
http_number InternalServerError = 500
http_number ServiceUnavailable = 503
http_number InsufficientStorage = 507

-- number and text, how the program ends, and the status of a response where there is one
pub record CodeRow : Type 0 where
  pub number : List ℕ
  pub text : List ℕ
  pub status : ExitStatus
  pub http : Option HttpStatus

-- number, text, and the status of a response
abbrev pub refusal_row : Refusal → List ℕ × List ℕ × HttpStatus
refusal_row (NameRefused fault) = (codes "Q1", codes "name refused", BadRequest)
refusal_row RegistryUnknown = (codes "Q2", codes "registry unknown", NotFound)
refusal_row DateOutOfRange = (codes "Q3", codes "date out of range", Conflict)
refusal_row Size = (codes "Q4", codes "size", ContentTooLarge)
refusal_row OtherBytes = (codes "Q5", codes "other bytes under this name", Conflict)
refusal_row DroppedAfterKeeping = (codes "Q6", codes "dropped after keeping", Gone)
refusal_row RevisionNotDue = (codes "Q7", codes "revision not due", Conflict)
refusal_row AlreadyStated = (codes "Q8", codes "already stated", Conflict)
refusal_row TypeDiffers = (codes "Q9", codes "type differs", Conflict)
refusal_row PartOutOfOrder = (codes "Q10", codes "part out of order", Conflict)
refusal_row VolumeFull = (codes "Q11", codes "volume full", InsufficientStorage)
refusal_row PartsDiffer = (codes "Q12", codes "parts differ", Conflict)
refusal_row LaterDayPassed = (codes "Q13", codes "later day passed", Conflict)
refusal_row NotYetDue = (codes "Q14", codes "not yet due", Conflict)
refusal_row DayHasVerdict = (codes "Q15", codes "day has a verdict", Conflict)
refusal_row GroundDoesNotStand = (codes "Q16", codes "ground does not stand", Conflict)
refusal_row ReferenceUsed = (codes "Q17", codes "reference used", Conflict)
refusal_row NotInRelease = (codes "Q18", codes "not in release", NotFound)
refusal_row ReleaseUnknown = (codes "Q19", codes "release unknown", NotFound)
refusal_row HoldReferenceUsed = (codes "Q20", codes "hold reference used", Conflict)
refusal_row HoldUnknown = (codes "Q21", codes "hold unknown", NotFound)
refusal_row NoFailure = (codes "Q22", codes "no failure", NotFound)

abbrev pub failure_row : Failure → List ℕ × List ℕ × HttpStatus
failure_row NoMemory = (codes "C1", codes "no memory", ServiceUnavailable)
failure_row VolumeFailed = (codes "C2", codes "volume failed", ServiceUnavailable)
failure_row StoreFailed = (codes "C3", codes "store failed", ServiceUnavailable)
failure_row Closed = (codes "C4", codes "closed", ServiceUnavailable)
failure_row (Damaged damage) = (codes "C5", codes "damaged", InternalServerError)

abbrev pub refusal_code : Refusal → CodeRow
refusal_code refusal = record {
  number = (refusal_row refusal).0;
  text = (refusal_row refusal).1;
  status = Refused;
  http = Some (refusal_row refusal).2;
}

abbrev pub failure_code : Failure → CodeRow
failure_code fault = record {
  number = (failure_row fault).0;
  text = (failure_row fault).1;
  status = Failed;
  http = Some (failure_row fault).2;
}

-- the row that a code is
abbrev pub code_row : Code → CodeRow
code_row code = record { number = code.number.now; text = code.text.now; status = code.status; http = code.http }

-- number, space, text
abbrev pub code_row_text : CodeRow → List ℕ
code_row_text row = row.number ++ codes " " ++ row.text
