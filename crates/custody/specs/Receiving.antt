-- A part that is received from a reader: which bytes are the part's, and what is done where they do not all come.
use Rattle.std.specs.Prelude.{◌≡◌, ◌⊎◌, ℕ, ◌≤◌, ◌<◌, min, List, [], ◌++◌, length, take, Option, IfSome, true, false, Result, Ok, Err}
use Rattle.std.specs.Io.KnownBytes.{Consumes, IsAtEnd}
use denote.Ref.{Bor}
use Rattle.vault_volume.specs.declared.volume.Volume as volume
use Rattle.sqlite.specs.Store.{Ghosts}
use Rattle.custody_machine.specs.declared.answers.Failure.TheVariants.{VolumeFailed}
use Rattle.custody_machine.specs.Machine.{Receive}
use Rattle.custody.specs.declared.answers.Reply.{Reply}
use Rattle.custody.specs.declared.upload.Upload.{Upload}
use Rattle.custody.specs.declared.receiving.ReceiveError.{ReceiveError}
use Rattle.custody.specs.declared.receiving.ReceiveError.TheVariants as error
use Rattle.custody.specs.declared.open_custody.OpenCustody.{OpenCustody}
use Rattle.custody.specs.declared.custody.Custody.{Custody}
use Rattle.custody.specs.Custody.{failure_of, open_custody_of, is_open, HasApplied}
use Rattle.custody.specs.Upload.{UploadStart, IsUploading}
use Rattle.custody.specs.OtherCalls.{RecordsNothing}

-- ---- the bytes

-- the first bytes of a reader, where what it gives is known
abbrev pub AreFirstBytes : Option (List ℕ) → ℕ → List ℕ → Type 0
AreFirstBytes known len sent = (length sent ≡ len) × IfSome known (λ input. sent ≡ take len input)

-- so many came, or the reader had fewer, or failed
abbrev pub ReadsBody : Option (List ℕ) → ℕ → List ℕ → Result (Unit {0}) ReceiveError → Type 0
ReadsBody known len sent (Ok _) = AreFirstBytes known len sent
ReadsBody known len sent (Err error.Short) = IfSome known (λ input. length input < len)
ReadsBody known len sent (Err error.ReadFailed) = Unit {0}
ReadsBody known len sent (Err (error.Refused refused)) = ⊥

abbrev pub DropsBody : Option (List ℕ) → ℕ → Result (Unit {0}) ReceiveError → Type 0
DropsBody known len result = (sent : List ℕ) × ReadsBody known len sent result

-- so many bytes at the front of a buffer are the next ones of a reader: the buffer is full, or the reader at its end
pub record Fills (old new : Option (List ℕ)) (buffer : List ℕ) (count : ℕ) : Type 0 where
  pub bound : count ≤ length buffer
  pub bytes : Consumes old new (take count buffer)
  pub full : (count ≡ length buffer) ⊎ IsAtEnd new

-- the next bytes of a reader, as many as are left or as a buffer takes, or fewer where it is at its end; or there are none, or it failed
abbrev pub GivesPiece : Option (List ℕ) → Option (List ℕ) → ℕ → Result (Bor (List ℕ)) ReceiveError → Type 0
GivesPiece old new left (Ok piece) = (1 ≤ length piece.now) × (length piece.now ≤ left) × (length piece.now ≤ 32_768) × Consumes old new piece.now
    × ((length piece.now ≡ min left 32_768) ⊎ IsAtEnd new)
GivesPiece old new left (Err error.Short) = IsAtEnd old
GivesPiece old new left (Err error.ReadFailed) = Unit {0}
GivesPiece old new left (Err (error.Refused refused)) = ⊥

-- ---- what is done with them

module _ {V S : Type 0} {g : volume.Ghosts V} (database : Ghosts S) where
  abbrev pub MayTakeBody : OpenCustody V S g → Upload → ℕ → Type 0
  MayTakeBody before upload len = (s : UploadStart (OpenCustody V S g)) × IsUploading database s before upload [] × (s.len ≡ len)

  abbrev pub TakesBody : Option (List ℕ) → (before after : OpenCustody V S g) → Upload → ℕ → Upload → Result (Unit {0}) ReceiveError → Type 0
  TakesBody known before after upload len next result = (s : UploadStart (OpenCustody V S g)) → IsUploading database s before upload [] → s.len ≡ len
      → (sent : List ℕ) × IsUploading database s after next sent × (length sent ≤ len) × ReadsBody known len sent result

-- ---- the call

-- the bytes of the part: those that were there first, followed by what the reader gives, cut at the length
abbrev pub IsPartBody : Option (List ℕ) → List ℕ → ℕ → List ℕ → Type 0
IsPartBody known first len body = (length body ≡ len) × IfSome known (λ rest. body ≡ take len (first ++ rest))

-- there are fewer
abbrev pub IsPartShort : Option (List ℕ) → List ℕ → ℕ → Type 0
IsPartShort known first len = IfSome known (λ rest. length (first ++ rest) < len)

module _ {V S : Type 0} {g : volume.Ghosts V} {database : Ghosts S} where
  -- A call that ended before all the bytes had come.
  pub record HasEndedEarly (old new : Custody V S g database) : Type 0 where
    -- a closed custody is as it was
    pub closed : is_open old ≡ false → new ≡ old
    -- and to an open one it was no command
    pub rested : is_open old ≡ true → RecordsNothing database (open_custody_of old) (is_open new) (open_custody_of new)
    -- and closes it by a failure of the volume, or not
    pub closes : is_open old ≡ true → IfSome (failure_of new) (λ failure. failure ≡ VolumeFailed)

  -- Where all the bytes have come, it is the command that they make; and else no command.
  abbrev pub HasReceived : Option (List ℕ) → (old : Custody V S g database) → List ℕ → ℕ → List ℕ → ℕ → Result Reply ReceiveError → (new : Custody V S g database) → Type 0
  HasReceived known old name len first now (Ok reply) new = (body : List ℕ) × IsPartBody known first len body × HasApplied old (Receive name body) now (Ok reply) new
  HasReceived known old name len first now (Err (error.Refused refused)) new = (body : List ℕ) × IsPartBody known first len body × HasApplied old (Receive name body) now (Err refused) new
  HasReceived known old name len first now (Err error.Short) new = IsPartShort known first len × HasEndedEarly old new
  HasReceived known old name len first now (Err error.ReadFailed) new = HasEndedEarly old new
