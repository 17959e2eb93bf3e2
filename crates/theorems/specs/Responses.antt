-- The response to an answer of the machine (RFC 9110, section 15; what is printed of a record is the same on the command line).
use Rattle.std.specs.Prelude.{ℕ, List, [], ◌++◌, length, Bool, true, false, if◌then◌else◌}
use Rattle.custody_records.specs.Records.{name_of}
use Rattle.custody_records.specs.RowsOfRecords.{text_of_lines}
use Rattle.custody_machine.specs.declared.codes.HttpStatus.TheVariants.{InternalServerError, ServiceUnavailable}
use Rattle.custody_machine.specs.Machine as machine
use Rattle.custody_machine.specs.Machine.{Record, OfRegistry, OfPart, OfNotice, OfRelease, OfHold, OfLifting, OfPurge, Reply, Accepted, Refused, Failed, content_len, told_notice}
use Rattle.answer_lines.specs.Lines.{line_text}
use Rattle.answer_lines.specs.Printing.{as_line}
use Rattle.answer_lines.specs.declared.lines.Line.{Line}
use Rattle.answer_lines.specs.declared.lines.Line.TheVariants as line
use Rattle.http_api.specs.declared.status.ResponseStatus.{ResponseStatus}
use Rattle.http_api.specs.declared.status.ResponseStatus.TheVariants.{Done, Created, Coded}
use Rattle.http_api.specs.Responses.{HttpResponse, text_response}
use Rattle.http_api.specs.Handling.{refusal_response, failure_response}

-- ---- what is told of a record

-- its line; that of a part is the same whether its bytes are held or dropped, and that of a hold before and after its lifting
abbrev pub record_line : Record → Line
record_line (OfRegistry tld first_day) = line.Registered tld first_day
record_line (OfPart key part) = line.Received (name_of key part.kind) (content_len part.content) part.received
record_line (OfNotice key notice) = line.Notice (told_notice (key, notice))
record_line (OfRelease reference release) = line.Released reference release.tld release.reason release.at (length release.names)
record_line (OfHold reference hold) = line.Held reference hold.tld hold.day hold.at
record_line (OfLifting reference at) = line.Lifted reference at
record_line (OfPurge count) = line.Purged count

-- the names that it lists, one a line
abbrev pub names_of : Record → List ℕ
names_of (OfRelease reference release) = text_of_lines release.names
names_of entry = []

abbrev pub record_text : Record → List ℕ
record_text entry = as_line (line_text (record_line entry)) ++ names_of entry

-- ---- what is told of an answer

-- 201 for a new record; a purge makes none
abbrev pub accepted_status : Record → ResponseStatus
accepted_status (OfPurge count) = Done
accepted_status entry = Created

abbrev pub status_of : Reply → ResponseStatus
status_of reply = if reply.is_repeat then Done else accepted_status reply.entry

abbrev pub response_to : machine.Answer → HttpResponse
response_to (Accepted reply) = text_response (status_of reply) (record_text reply.entry)
response_to (Refused refusal) = refusal_response refusal
response_to (Failed failure) = failure_response failure

-- ---- what a client reads in a status

-- that its command is accepted: 201, or 200 of a repeat and of a purge
abbrev pub tells_accepted : ResponseStatus → Bool
tells_accepted Done = true
tells_accepted Created = true
tells_accepted _ = false

-- that the agent failed: 503, or 500 where a part is damaged
abbrev pub tells_failure : ResponseStatus → Bool
tells_failure (Coded ServiceUnavailable) = true
tells_failure (Coded InternalServerError) = true
tells_failure _ = false
