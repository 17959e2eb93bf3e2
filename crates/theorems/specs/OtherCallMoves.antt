-- Calls that are no command, as moves of the machine.
use Rattle.std.specs.Prelude.{◌≡◌, ℕ, List, true}
use Rattle.vault_volume.specs.declared.volume.Volume as volume
use Rattle.sqlite.specs.Store.{Ghosts}
use Rattle.custody_records.specs.Rows.{Rows}
use Rattle.custody_machine.specs.History.{Pair, StoppedAtRest}
use Rattle.custody_machine.specs.Moves.{Place, Left, MayLeave, Finds, Moves}
use Rattle.custody_machine.specs.Custody.{IsAtPlace, other_call_event}
use Rattle.custody.specs.declared.custody.Custody.{Custody}
use Rattle.custody.specs.OpenCustody.{current_records, store_state_of, image_of, MayLeaveImageSince}
use Rattle.custody.specs.Custody.{open_custody_of, is_open}
use Rattle.custody.specs.OtherCalls.{RecordsNothing}
use Rattle.theorems.specs.Sessions.{IsServing, place_of, StopLeaves}

module _ {V S : Type 0} {g : volume.Ghosts V} where
  -- A call that is no command has moved it: it serves on, or is closed; and a stop leaves what it may leave there.
  pub record HasMovedByOtherCall (database : Ghosts S) (old new : Custody V S g database) : Type 0 where
    pub next : Place
    pub moves : Moves (place_of database old) (other_call_event (is_open new)) next
    pub is_at : IsAtPlace (is_open new) (current_records (open_custody_of new)) (image_of (open_custody_of new)) next
    pub leaves : StopLeaves database new (MayLeave next)
    pub serves : is_open new ≡ true → IsServing database new

  abbrev pub OtherCallsMove : (database : Ghosts S) → (old new : Custody V S g database) → Type 0
  OtherCallsMove database old new = IsServing database old → RecordsNothing database (open_custody_of old) (is_open new) (open_custody_of new) → HasMovedByOtherCall database old new

  -- a stop at any moment within it is a stop at rest
  abbrev pub OtherCallsStop : (database : Ghosts S) → (old new : Custody V S g database) → Type 0
  OtherCallsStop database old new = IsServing database old → RecordsNothing database (open_custody_of old) (is_open new) (open_custody_of new)
      → (rows : Rows) (image : List ℕ) (pair : Pair) → (store_state_of database (open_custody_of old)).may_leave rows → MayLeaveImageSince (open_custody_of old) (open_custody_of new) image → Finds rows image pair
      → Moves (place_of database old) (StoppedAtRest pair) (Left rows image)
