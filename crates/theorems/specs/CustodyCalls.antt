-- The calls of a custody, with what each answered, in the words of their contracts; and the events that they are.
use Rattle.std.specs.Prelude.{◌≡◌, ◌⊎◌, ℕ, List, Option, Result, Ok, Err}
use Rattle.deposit_name.specs.Name.{Name}
use Rattle.desk.specs.declared.notices.Notice as desk
use Rattle.vault_volume.specs.declared.volume.Volume as volume
use Rattle.sqlite.specs.Store.{Ghosts}
use Rattle.custody_records.specs.Rows.{Rows}
use Rattle.custody_machine.specs.declared.answers.Failure.{Failure}
use Rattle.custody_machine.specs.declared.command.Statement as statement
use Rattle.custody_machine.specs.Machine.{Command, Receive}
use Rattle.custody_machine.specs.History.{Event, Pair, Answered, AnsweredOtherCall, ShutDown, StoppedAtRest, StoppedWithin}
use Rattle.custody_machine.specs.Moves.{Place, Left, Finds, Moves}
use Rattle.custody_machine.specs.Custody.{other_call_event}
use Rattle.custody.specs.declared.answers.Reply.{Reply}
use Rattle.custody.specs.declared.answers.Refused.{Refused}
use Rattle.custody.specs.declared.receiving.ReceiveError.{ReceiveError}
use Rattle.custody.specs.declared.receiving.ReceiveError.TheVariants as receive_error
use Rattle.custody.specs.declared.custody.Custody.{Custody}
use Rattle.custody.specs.declared.explanation.Explanation.{Explanation}
use Rattle.custody.specs.Answers.{answer_of, stays_open}
use Rattle.custody.specs.OpenCustody.{store_state_of, MayLeaveImageSince}
use Rattle.custody.specs.Custody.{open_custody_of, HasApplied}
use Rattle.custody.specs.Receiving.{HasReceived, IsPartBody}
use Rattle.custody.specs.Fetching.{HasFetched}
use Rattle.custody.specs.Previewing.{HasPreviewed}
use Rattle.custody.specs.Explaining.{HasExplained}
use Rattle.custody.specs.Auditing.{HasAudited, as_refused}
use Rattle.theorems.specs.Requests.{IsCustodyAt}

-- ---- calls, and their events

-- a call, with what it answered
pub data CustodyCall : Type 0 where
  Applies : Command → (now : ℕ) → Result Reply Refused → CustodyCall
  -- of a part of so many bytes: those that were read already, and what the reader gives, where it is known
  Receives : (name : List ℕ) → (len : ℕ) → (first : List ℕ) → (known : Option (List ℕ)) → (now : ℕ) → Result Reply ReceiveError → CustodyCall
  Fetches : (reference name : List ℕ) → Result (List ℕ) Refused → CustodyCall
  Previews : statement.Statement → (now : ℕ) → Result desk.Notice Refused → CustodyCall
  Explains : (tld : List ℕ) → (day rev : ℕ) → Result Explanation Refused → CustodyCall
  Audits : Result (List Name) Failure → CustodyCall

-- the command that a part makes whose bytes have all come, and its answer
abbrev pub IsReceived : (name : List ℕ) → (len : ℕ) → (first : List ℕ) → (known : Option (List ℕ)) → (now : ℕ) → Result Reply Refused → Event → Type 0
IsReceived name len first known now answer event = (body : List ℕ) × IsPartBody known first len body × (event ≡ Answered (Receive name body) now (answer_of (Receive name body) answer))

-- of a command its answer; of a part that did not come whole, and of a call that only reads, that there was such a call, at which the volume failed or not
abbrev pub IsCallEvent : CustodyCall → Event → Type 0
IsCallEvent (Applies command now answer) event = event ≡ Answered command now (answer_of command answer)
IsCallEvent (Receives name len first known now (Ok reply)) event = IsReceived name len first known now (Ok reply) event
IsCallEvent (Receives name len first known now (Err (receive_error.Refused refused))) event = IsReceived name len first known now (Err refused) event
IsCallEvent (Receives name len first known now (Err receive_error.Short)) event = (event ≡ AnsweredOtherCall) ⊎ (event ≡ ShutDown)
IsCallEvent (Receives name len first known now (Err receive_error.ReadFailed)) event = (event ≡ AnsweredOtherCall) ⊎ (event ≡ ShutDown)
IsCallEvent (Fetches reference name answer) event = event ≡ other_call_event (stays_open answer)
IsCallEvent (Previews stated now answer) event = event ≡ other_call_event (stays_open answer)
IsCallEvent (Explains tld day rev answer) event = event ≡ other_call_event (stays_open answer)
IsCallEvent (Audits answer) event = event ≡ other_call_event (stays_open (as_refused answer))

-- a stop within it: within its command, or at rest where it is none
abbrev pub IsStopWithinCall : CustodyCall → Pair → Event → Type 0
IsStopWithinCall (Applies command now answer) pair event = event ≡ StoppedWithin command now pair
IsStopWithinCall (Receives name len first known now answer) pair event =
    ((body : List ℕ) × IsPartBody known first len body × (event ≡ StoppedWithin (Receive name body) now pair)) ⊎ (event ≡ StoppedAtRest pair)
IsStopWithinCall (Fetches reference name answer) pair event = event ≡ StoppedAtRest pair
IsStopWithinCall (Previews stated now answer) pair event = event ≡ StoppedAtRest pair
IsStopWithinCall (Explains tld day rev answer) pair event = event ≡ StoppedAtRest pair
IsStopWithinCall (Audits answer) pair event = event ≡ StoppedAtRest pair

-- ---- the contracts

module _ {V S : Type 0} {g : volume.Ghosts V} {database : Ghosts S} where
  -- the call has done this to a custody, in the words of its function's contract
  abbrev pub HasCalled : Custody V S g database → CustodyCall → Custody V S g database → Type 0
  HasCalled old (Applies command now answer) new = HasApplied old command now answer new
  HasCalled old (Receives name len first known now answer) new = HasReceived known old name len first now answer new
  HasCalled old (Fetches reference name answer) new = HasFetched old reference name answer new
  HasCalled old (Previews stated now answer) new = HasPreviewed old stated now answer new
  HasCalled old (Explains tld day rev answer) new = HasExplained old tld day rev answer new
  HasCalled old (Audits answer) new = HasAudited old answer new

-- ---- the law

module _ {V S : Type 0} {g : volume.Ghosts V} where
  -- A call's event has taken the custody from a place to another.
  pub record HasMovedByEventOf (call : CustodyCall) (place : Place) (database : Ghosts S) (new : Custody V S g database) : Type 0 where
    pub event : Event
    pub is_event : IsCallEvent call event
    pub next : Place
    pub moves : Moves place event next
    pub there : IsCustodyAt database new next

  -- Each call is a move, from wherever the custody is, open or closed.
  abbrev pub CallsMove : (database : Ghosts S) → (old new : Custody V S g database) → Type 0
  CallsMove database old new = (place : Place) (call : CustodyCall) → IsCustodyAt database old place → HasCalled old call new → (store_state_of database (open_custody_of new)).IsHonest
      → HasMovedByEventOf call place database new

  -- And so is a stop at any moment within it.
  abbrev pub CallsMayStop : (database : Ghosts S) → (old new : Custody V S g database) → Type 0
  CallsMayStop database old new = (place : Place) (call : CustodyCall) → IsCustodyAt database old place → HasCalled old call new → (store_state_of database (open_custody_of new)).IsHonest
      → (rows : Rows) (image : List ℕ) (pair : Pair) → (store_state_of database (open_custody_of old)).may_leave rows → MayLeaveImageSince (open_custody_of old) (open_custody_of new) image → Finds rows image pair
      → (event : Event) × IsStopWithinCall call pair event × Moves place event (Left rows image)
