-- The answers of a custody, as those of the machine, and their lines.
use Rattle.std.specs.Prelude.{ℕ, List, codes, Bool, true, false, not, ◌&&◌, Option, None, Some, is_none, Result, Ok, Err}
use Rattle.custody_records.specs.Records.{key_of}
use Rattle.custody_records.specs.TypedRecords.{notice_key, notice_value, release_key, release_value, hold_key, hold_value}
use Rattle.vault_volume.specs.declared.errors.StageError.{StageError}
use Rattle.vault_volume.specs.declared.errors.StageError.TheVariants as stage
use Rattle.vault_volume.specs.declared.errors.ReadError.{ReadError}
use Rattle.vault_volume.specs.declared.errors.ReadError.TheVariants as read
use Rattle.custody_machine.specs.State.{Held}
use Rattle.custody_machine.specs.Machine as machine
use Rattle.custody_machine.specs.Machine.{Command, Register, Receive, Statement, Check, Release, Hold, Lift, Purge, Answer, Accepted, Refused, Failed, OfRegistry, OfPart, OfNotice, OfRelease, OfHold, OfLifting, OfPurge}
use Rattle.custody_machine.specs.declared.answers.Refusal.TheVariants.{OtherBytes, VolumeFull}
use Rattle.custody_machine.specs.declared.answers.Failure.{Failure}
use Rattle.custody_machine.specs.declared.answers.Failure.TheVariants.{NoMemory, VolumeFailed, StoreFailed, Closed, Damaged}
use Rattle.custody_machine.specs.Rulings.{command_bytes}
use Rattle.custody_machine.specs.declared.codes.ExitStatus.TheVariants as status
use Rattle.custody_machine.specs.Codes.{CodeRow, failure_code, code_row_text}
use Rattle.custody_machine.specs.Texts.{refusal_text, failure_text}
use Rattle.custody_rules.specs.declared.ruling.KeptRecord as kept
use Rattle.custody_rules.specs.declared.ruling.KeptRecord.TheVariants as found
use Rattle.custody.specs.declared.answers.Record as code
use Rattle.custody.specs.declared.answers.Record.TheVariants as record_of_kind
use Rattle.custody.specs.declared.answers.Reply.{Reply}
use Rattle.custody.specs.declared.answers.Refused as not_accepted
use Rattle.custody.specs.declared.answers.Refused.TheVariants as refused
use Rattle.custody.specs.declared.answers.InitError.{InitError}
use Rattle.custody.specs.declared.answers.InitError.TheVariants as init_error

abbrev pub refused_text : not_accepted.Refused → List ℕ
refused_text (refused.Refusal refusal) = refusal_text refusal
refused_text (refused.Failure failure) = failure_text failure

-- the number and the text with which nothing is begun; no response tells them
abbrev pub init_refusal_row : List ℕ → List ℕ → CodeRow
init_refusal_row number text = record { number = number; text = text; status = status.Refused; http = None }

abbrev pub init_error_code : InitError → CodeRow
init_error_code init_error.AlreadyInitialised = init_refusal_row (codes "I1") (codes "already initialised")
init_error_code init_error.Size = init_refusal_row (codes "I2") (codes "size")
init_error_code (init_error.Failure failure) = failure_code failure

abbrev pub init_error_text : InitError → List ℕ
init_error_text (init_error.Failure failure) = failure_text failure
init_error_text error = code_row_text (init_error_code error)

-- the record that is answered, with the bytes of the command: those that the answer's extents hold
abbrev pub machine_record : List ℕ → code.Record → machine.Record
machine_record bytes (record_of_kind.Registry tld first_day) = OfRegistry tld first_day
machine_record bytes (record_of_kind.Part name received len digest extents) = OfPart (key_of name) (record { kind = name.kind; received = received; content = Held bytes })
machine_record bytes (record_of_kind.Notice notice) = OfNotice (notice_key notice) (notice_value notice)
machine_record bytes (record_of_kind.Release release) = OfRelease (release_key release) (release_value release)
machine_record bytes (record_of_kind.Hold hold) = OfHold (hold_key hold) (hold_value hold)
machine_record bytes (record_of_kind.Lifting reference at) = OfLifting reference at
machine_record bytes (record_of_kind.Purge count) = OfPurge count

-- the record that answers a repeat
abbrev pub repeated_record : kept.KeptRecord → code.Record
repeated_record (found.Registry registry) = record_of_kind.Registry registry.tld registry.first_day
repeated_record (found.Notice notice) = record_of_kind.Notice notice
repeated_record (found.Release release) = record_of_kind.Release release.now
repeated_record (found.Hold hold) = record_of_kind.Hold hold.now
repeated_record (found.Lifting reference at) = record_of_kind.Lifting reference at

-- a record with a list of names, which takes memory to answer
abbrev pub lists_names : machine.Record → Bool
lists_names (OfRegistry tld first_day) = false
lists_names (OfPart key part) = false
lists_names (OfNotice key notice) = false
lists_names (OfRelease reference release) = true
lists_names (OfHold reference hold) = false
lists_names (OfLifting reference at) = false
lists_names (OfPurge count) = false

-- the answer of the machine
abbrev pub answer_of : Command → Result Reply not_accepted.Refused → Answer
answer_of command (Ok reply) = Accepted (record { entry = machine_record (command_bytes command) reply.record; is_repeat = reply.is_repeat })
answer_of command (Err (refused.Refusal refusal)) = Refused refusal
answer_of command (Err (refused.Failure failure)) = Failed failure

-- why a command is not accepted whose bytes were not staged
abbrev pub refused_of_stage_error : StageError → not_accepted.Refused
refused_of_stage_error stage.Full = refused.Refusal VolumeFull
refused_of_stage_error stage.NoMemory = refused.Failure NoMemory
refused_of_stage_error stage.VolumeFailed = refused.Failure VolumeFailed

-- and one for which a part was not read
abbrev pub refused_of_read_error : ReadError → not_accepted.Refused
refused_of_read_error read.NoMemory = refused.Failure NoMemory
refused_of_read_error read.VolumeFailed = refused.Failure VolumeFailed

-- the failure of an answer that closes a custody: that of the volume or the database
abbrev pub closing_failure : {T : Type 0} → Result T not_accepted.Refused → Option Failure
closing_failure (Ok found) = None
closing_failure (Err (refused.Refusal refusal)) = None
closing_failure (Err (refused.Failure NoMemory)) = None
closing_failure (Err (refused.Failure VolumeFailed)) = Some VolumeFailed
closing_failure (Err (refused.Failure StoreFailed)) = Some StoreFailed
closing_failure (Err (refused.Failure Closed)) = Some Closed
closing_failure (Err (refused.Failure (Damaged damage))) = None

-- whether a custody is open after an answer
abbrev pub stays_open : {T : Type 0} → Result T not_accepted.Refused → Bool
stays_open answer = is_none (closing_failure answer)

-- whether a command is done that was not done before, or may be
abbrev pub may_change : Result Reply not_accepted.Refused → Bool
may_change (Ok reply) = not reply.is_repeat
may_change (Err (refused.Refusal refusal)) = false
may_change (Err (refused.Failure NoMemory)) = false
may_change (Err (refused.Failure VolumeFailed)) = false
may_change (Err (refused.Failure StoreFailed)) = true
may_change (Err (refused.Failure Closed)) = false
may_change (Err (refused.Failure (Damaged damage))) = false

-- whether a command may need the volume
abbrev pub uses_volume : Command → Bool
uses_volume (Register tld first_day) = false
uses_volume (Receive name bytes) = true
uses_volume (Statement stated) = true
uses_volume (Check tld day) = false
uses_volume (Release reference tld reason) = false
uses_volume (Hold reference tld day) = false
uses_volume (Lift reference) = false
uses_volume Purge = false

-- whether it may write there: a part that is received is, and nothing else
abbrev pub writes_volume : Command → Bool
writes_volume (Register tld first_day) = false
writes_volume (Receive name bytes) = true
writes_volume (Statement stated) = false
writes_volume (Check tld day) = false
writes_volume (Release reference tld reason) = false
writes_volume (Hold reference tld day) = false
writes_volume (Lift reference) = false
writes_volume Purge = false

-- whether it takes memory after the volume was read
abbrev pub is_statement : Command → Bool
is_statement (Register tld first_day) = false
is_statement (Receive name bytes) = false
is_statement (Statement stated) = true
is_statement (Check tld day) = false
is_statement (Release reference tld reason) = false
is_statement (Hold reference tld day) = false
is_statement (Lift reference) = false
is_statement Purge = false

-- whether the volume may have been called: a part is kept or compared, a deposit is verified, or volume or database failed
abbrev pub may_follow_a_call : (verified : Bool) → Result Reply not_accepted.Refused → Bool
may_follow_a_call verified (Ok reply) = true
may_follow_a_call verified (Err (refused.Refusal OtherBytes)) = true
may_follow_a_call verified (Err (refused.Refusal _)) = false
may_follow_a_call verified (Err (refused.Failure NoMemory)) = verified
may_follow_a_call verified (Err (refused.Failure VolumeFailed)) = true
may_follow_a_call verified (Err (refused.Failure StoreFailed)) = true
may_follow_a_call verified (Err (refused.Failure Closed)) = false
may_follow_a_call verified (Err (refused.Failure (Damaged damage))) = true

abbrev pub may_call : Command → Result Reply not_accepted.Refused → Bool
may_call command answer = may_follow_a_call (is_statement command) answer && uses_volume command
