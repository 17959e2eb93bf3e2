-- What is answered to a request, and what the agent does for it.
use Rattle.std.specs.Prelude.{◌≡◌, ◌≤◌, ◌-◌, ◌^◌, ◌⊎◌, ◌++◌, [], ◌∷◌, ℕ, List, codes, length, Option, Some, None, Result, Ok, Err, IfSome, IsOk, is_some, if◌then◌else◌}
use Rattle.std.specs.FinMap.{get}
use Rattle.std.specs.Global.{Vec}
use Rattle.vault_volume.specs.declared.volume.Volume as volume
use Rattle.sqlite.specs.Store.{Ghosts}
use Rattle.custody_records.specs.Records.{Records}
use Rattle.custody_machine.specs.declared.answers.Refusal.{Refusal}
use Rattle.custody_machine.specs.declared.answers.Refusal.TheVariants.{RegistryUnknown}
use Rattle.custody_machine.specs.declared.answers.Failure.{Failure}
use Rattle.custody_machine.specs.declared.answers.Failure.TheVariants.{NoMemory, Closed}
use Rattle.custody_machine.specs.declared.codes.HttpStatus.TheVariants.{BadRequest, NotFound, ContentTooLarge}
use Rattle.custody_machine.specs.Codes as machine
use Rattle.custody_machine.specs.Texts.{refusal_text, failure_text}
use Rattle.custody_machine.specs.Machine.{Receive}
use Rattle.custody.specs.declared.answers.Record.{Record}
use Rattle.custody.specs.declared.answers.Record.TheVariants as record_of
use Rattle.custody.specs.declared.answers.Reply.{Reply}
use Rattle.custody.specs.declared.answers.Refused as not_accepted
use Rattle.custody.specs.declared.answers.Refused.TheVariants as refused
use Rattle.custody.specs.declared.custody.Custody.{Custody}
use Rattle.custody.specs.declared.explanation.Explanation.{Explanation}
use Rattle.custody.specs.Custody.{HasApplied, open_custody_of, is_open}
use Rattle.custody.specs.OpenCustody.{current_records}
use Rattle.custody.specs.Opening.{free_blocks}
use Rattle.custody.specs.Explaining.{HasExplained}
use Rattle.custody.specs.ExplanationText.{explanation_text}
use Rattle.custody.specs.Fetching.{HasFetched}
use Rattle.custody.specs.Receiving.{HasEndedEarly}
use Rattle.answer_lines.specs.Digests.{digests_text}
use Rattle.answer_lines.specs.Due.{due_text}
use Rattle.answer_lines.specs.Printing.{as_line, reply_text}
use Rattle.answer_lines.specs.State.{registry_report_text, state_text}
use Rattle.http_request.specs.RequestMeaning.{RequestMeaning, bad, asks_for, RequestMeans, SendsPart}
use Rattle.http_request.specs.declared.faults.Method.{Method}
use Rattle.http_request.specs.declared.faults.RequestFault.{RequestFault}
use Rattle.http_request.specs.declared.faults.RequestFault.TheVariants as fault
use Rattle.http_request.specs.declared.errors.RequestError.{RequestError}
use Rattle.http_request.specs.declared.errors.RequestError.TheVariants as error
use Rattle.http_request.specs.Body.{IsDeclaredBody}
use Rattle.http_request.specs.Action.{RequestAction, Do, Report, Explain, State, Due, Digests, Fetch}
use Rattle.http_api.specs.declared.status.ResponseStatus.{ResponseStatus}
use Rattle.http_api.specs.declared.status.ResponseStatus.TheVariants as status
use Rattle.http_api.specs.declared.response.Media.TheVariants.{Text, Bytes}
use Rattle.http_api.specs.declared.handling.ServeError.{ServeError}
use Rattle.http_api.specs.declared.handling.ServeError.TheVariants as serve_error
use Rattle.http_api.specs.declared.handling.PendingResponse.{PendingResponse}
use Rattle.http_api.specs.declared.handling.PendingResponse.TheVariants as outcome
use Rattle.http_api.specs.Responses.{HttpResponse, http_response, text_response, response_view}

-- what is told of a response that was not written
abbrev pub serve_error_text : ServeError → List ℕ
serve_error_text serve_error.Read = codes "read failed"
serve_error_text serve_error.Write = codes "write failed"

-- ---- faults of requests

-- number and text as a line, and the status
abbrev pub fault_row : RequestFault → List ℕ × ResponseStatus
fault_row fault.Head = (codes "A1 head\n", status.Coded BadRequest)
fault_row fault.Target = (codes "A2 target\n", status.Coded BadRequest)
fault_row fault.NoRoute = (codes "A3 no route\n", status.Coded NotFound)
fault_row (fault.Method allowed) = (codes "A4 method\n", status.MethodNotAllowed)
fault_row fault.TransferCoding = (codes "A5 transfer coding\n", status.NotImplemented)
fault_row fault.NoLength = (codes "A6 no length\n", status.LengthRequired)
fault_row fault.Length = (codes "A7 length\n", status.Coded BadRequest)
fault_row fault.TooLong = (codes "A8 too long\n", status.Coded ContentTooLarge)
fault_row fault.BodyShort = (codes "A9 body short\n", status.Coded BadRequest)
fault_row fault.Form = (codes "A10 form\n", status.Coded BadRequest)

-- the method of the route, where the request has another
abbrev pub allowed_method : RequestFault → Option Method
allowed_method (fault.Method allowed) = Some allowed
allowed_method _ = None

abbrev pub fault_response : RequestFault → HttpResponse
fault_response found = http_response (fault_row found).1 Text (allowed_method found) (fault_row found).0

-- ---- answers of the agent

abbrev pub refusal_response : Refusal → HttpResponse
refusal_response why = text_response (status.Coded (machine.refusal_row why).2) (refusal_text why ++ 10 ∷ [])

abbrev pub failure_response : Failure → HttpResponse
failure_response why = text_response (status.Coded (machine.failure_row why).2) (failure_text why ++ 10 ∷ [])

abbrev pub no_memory_response : HttpResponse
no_memory_response = failure_response NoMemory

-- 201 for a new record; a purge makes none
abbrev pub new_record_status : Record → ResponseStatus
new_record_status (record_of.Registry tld first_day) = status.Created
new_record_status (record_of.Part name received len digest extents) = status.Created
new_record_status (record_of.Notice notice) = status.Created
new_record_status (record_of.Release release) = status.Created
new_record_status (record_of.Hold hold) = status.Created
new_record_status (record_of.Lifting reference at) = status.Created
new_record_status (record_of.Purge count) = status.Done

abbrev pub reply_status : Reply → ResponseStatus
reply_status reply = if reply.is_repeat then status.Done else new_record_status reply.record

-- the line of what is in the way
abbrev pub refused_response : not_accepted.Refused → HttpResponse
refused_response (refused.Refusal why) = refusal_response why
refused_response (refused.Failure why) = failure_response why

-- what is printed of the record, or of what is in the way
abbrev pub response_of : Result Reply not_accepted.Refused → HttpResponse
response_of (Ok reply) = text_response (reply_status reply) (reply_text reply.record)
response_of (Err why) = refused_response why

-- the bytes that are fetched, or what is in the way
abbrev pub fetch_response : Result (List ℕ) not_accepted.Refused → HttpResponse
fetch_response (Ok bytes) = http_response status.Done Bytes None bytes
fetch_response (Err why) = refused_response why

-- why a revision has failed, as a line, or what is in the way
abbrev pub explanation_response : Result Explanation not_accepted.Refused → HttpResponse
explanation_response (Ok told) = text_response status.Done (explanation_text told ++ 10 ∷ [])
explanation_response (Err why) = refused_response why

-- it is told, or that there is no memory for its line
abbrev pub IsExplanationTold : Result Explanation not_accepted.Refused → HttpResponse → Type 0
IsExplanationTold r answer = (answer ≡ explanation_response r) ⊎ (IsOk r × (answer ≡ no_memory_response))

-- the text that is read, or what is in the way
abbrev pub reading_response : Result (Vec ℕ) not_accepted.Refused → HttpResponse
reading_response (Ok text) = text_response status.Done text.items
reading_response (Err why) = refused_response why

-- what is wanted is told, or that there is no memory for it
abbrev pub IsTextTold : HttpResponse → Result (Vec ℕ) not_accepted.Refused → Type 0
IsTextTold wanted text = (reading_response text ≡ wanted) ⊎ (reading_response text ≡ no_memory_response)

-- ---- what records tell

-- a text of a registry that is known
abbrev pub registry_text : (Records → List ℕ → List ℕ) → Records → List ℕ → HttpResponse
registry_text text records tld = if is_some (get records.registries tld) then text_response status.Done (text records tld) else refusal_response RegistryUnknown

-- its report
abbrev pub registry_report : Records → List ℕ → HttpResponse
registry_report records tld = registry_text registry_report_text records tld

-- the digests of its parts
abbrev pub registry_digests : Records → List ℕ → HttpResponse
registry_digests records tld = registry_text digests_text records tld

-- the records, and the free blocks
abbrev pub records_state : Records → HttpResponse
records_state records = text_response status.Done (as_line (state_text records (free_blocks records) (records.blocks - 1)))

-- the days that a sweep would record as missed
abbrev pub records_due : Records → ℕ → HttpResponse
records_due records now = text_response status.Done (due_text records now)

module _ {V S : Type 0} {g : volume.Ghosts V} {database : Ghosts S} where
  -- a closed custody tells nothing of its records
  abbrev pub report_response : Custody V S g database → List ℕ → HttpResponse
  report_response custody tld = if is_open custody then registry_report (current_records (open_custody_of custody)) tld else failure_response Closed

  -- the records of a custody that is open
  abbrev pub state_response : Custody V S g database → HttpResponse
  state_response custody = if is_open custody then records_state (current_records (open_custody_of custody)) else failure_response Closed

  -- the days that are due by them
  abbrev pub due_response : Custody V S g database → ℕ → HttpResponse
  due_response custody now = if is_open custody then records_due (current_records (open_custody_of custody)) now else failure_response Closed

  -- the digests of a registry's parts
  abbrev pub digests_response : Custody V S g database → List ℕ → HttpResponse
  digests_response custody tld = if is_open custody then registry_digests (current_records (open_custody_of custody)) tld else failure_response Closed

  -- ---- the step

  -- No command: nothing is done; or the input, where it is known, sends a part, of which not all the bytes come.
  abbrev pub IsNoCommand : Option (List ℕ) → Custody V S g database → Custody V S g database → Type 0
  IsNoCommand known old new = (new ≡ old) ⊎ (IfSome known SendsPart × HasEndedEarly old new)

  -- what a request that has a fault leaves of a custody
  abbrev pub FaultLeaves : Option (List ℕ) → RequestFault → Custody V S g database → Custody V S g database → Type 0
  FaultLeaves known fault.BodyShort old new = IsNoCommand known old new
  FaultLeaves known _ old new = new ≡ old

  -- what is wanted is done, and answered
  abbrev pub Performs : RequestAction → ℕ → Custody V S g database → HttpResponse → Custody V S g database → Type 0
  Performs (Do command) now old answer new = (r : Result Reply not_accepted.Refused) × HasApplied old command now r new × (answer ≡ response_of r)
  Performs (Report tld) now old answer new = (answer ≡ report_response old tld) × (new ≡ old)
  Performs (Explain tld day rev) now old answer new = (r : Result Explanation not_accepted.Refused) × HasExplained old tld day rev r new × IsExplanationTold r answer
  Performs State now old answer new = (answer ≡ state_response old) × (new ≡ old)
  Performs Due now old answer new = (answer ≡ due_response old now) × (new ≡ old)
  Performs (Digests tld) now old answer new = (answer ≡ digests_response old tld) × (new ≡ old)
  Performs (Fetch reference name) now old answer new = (r : Result (List ℕ) not_accepted.Refused) × HasFetched old reference name r new × (answer ≡ fetch_response r)

  -- the same of all that is asked: a fault is answered, and no command is done
  abbrev pub HandlesRequest : Option (List ℕ) → RequestMeaning → ℕ → Custody V S g database → HttpResponse → Custody V S g database → Type 0
  HandlesRequest known (bad found) now old answer new = (answer ≡ fault_response found) × FaultLeaves known found old new
  HandlesRequest known (asks_for wanted) now old answer new = Performs wanted now old answer new

  -- memory ran out before any step
  abbrev pub HasNoMemory : Custody V S g database → HttpResponse → Custody V S g database → Type 0
  HasNoMemory old answer new = (answer ≡ no_memory_response) × (new ≡ old)

  -- The reader's bytes, where they are known, ask something, which is done and answered; or memory ran out before, as is also told of a report that has no length and of a text that there is no memory for (below).
  abbrev pub IsServed : Option (List ℕ) → ℕ → Custody V S g database → HttpResponse → Custody V S g database → Type 0
  IsServed known now old answer new =
      ((asked : RequestMeaning) × IfSome known (λ input. RequestMeans input asked) × HandlesRequest known asked now old answer new) ⊎ HasNoMemory old answer new

  -- ---- a response before it is written

  -- what may be answered by want of memory, and nothing is done: a report of which 64 bits do not tell the length, and a text, for which memory is taken
  abbrev pub MayLackMemory : RequestAction → Custody V S g database → Type 0
  MayLackMemory (Do command) custody = ⊥
  MayLackMemory (Report tld) custody = 2 ^ 64 ≤ length (registry_report_text (current_records (open_custody_of custody)) tld)
  MayLackMemory (Explain tld day rev) custody = ⊥
  MayLackMemory State custody = Unit {0}
  MayLackMemory Due custody = Unit {0}
  MayLackMemory (Digests tld) custody = Unit {0}
  MayLackMemory (Fetch reference name) custody = ⊥

  -- what answers it: a report is one of the custody as it is then; want of memory is told only where it has no length
  abbrev pub IsCompletedAs : Custody V S g database → PendingResponse → HttpResponse → Type 0
  IsCompletedAs custody (outcome.Response response) answer = answer ≡ response_view response
  IsCompletedAs custody (outcome.Report tld) answer = (answer ≡ report_response custody tld) ⊎ (MayLackMemory (Report tld) custody × (answer ≡ no_memory_response))

  -- each answer of it is one to what is wanted, or tells that memory ran out
  abbrev pub IsActionPerformed : RequestAction → ℕ → Custody V S g database → PendingResponse → Custody V S g database → Type 0
  IsActionPerformed wanted now old outcome new =
      (answer : HttpResponse) → IsCompletedAs new outcome answer → Performs wanted now old answer new ⊎ (MayLackMemory wanted old × HasNoMemory old answer new)

  -- the bytes ask for something, of which it is a step
  abbrev pub IsRequestPerformed : Option (List ℕ) → ℕ → Custody V S g database → PendingResponse → Custody V S g database → Type 0
  IsRequestPerformed known now old outcome new = (wanted : RequestAction) × IfSome known (λ input. RequestMeans input (asks_for wanted)) × IsActionPerformed wanted now old outcome new

  -- each answer of it is one to a request, of which memory may have run out before
  abbrev pub IsRequestServed : Option (List ℕ) → ℕ → Custody V S g database → PendingResponse → Custody V S g database → Type 0
  IsRequestServed known now old outcome new = (answer : HttpResponse) → IsCompletedAs new outcome answer → IsServed known now old answer new

  -- ---- before there is a response

  -- what is left where a request asks nothing
  abbrev pub ErrorLeaves : Option (List ℕ) → RequestError → Custody V S g database → Custody V S g database → Type 0
  ErrorLeaves known error.Unread old new = IsNoCommand known old new
  ErrorLeaves known error.NoMemory old new = new ≡ old
  ErrorLeaves known (error.Fault found) old new = FaultLeaves known found old new

  -- the bytes that are told have come, and are received as a part
  abbrev pub HasReceivedPart : Option (List ℕ) → List ℕ → List ℕ → ℕ → ℕ → Custody V S g database → PendingResponse → Custody V S g database → Type 0
  HasReceivedPart known front name len now old outcome new = (body : List ℕ)
      × IfSome known (λ rest. IsDeclaredBody (front ++ rest) (Some len) body) × IsActionPerformed (Do (Receive name body)) now old outcome new
