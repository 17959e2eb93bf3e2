-- A part that was received while it was read, as the command that its bytes make, or as none.
use Rattle.std.proofs.Common.{◌≡◌, ℕ, ◌<◌, List, length, take, Option, Some, true, false, sym, ◌∙◌, subst, Result, Ok, Err}
use Rattle.std.specs.Prelude.{IfSome}
use Rattle.std.specs.Fmt.{option_append}
use Rattle.sqlite.specs.Store.{Ghosts}
use Rattle.vault_volume.specs.declared.volume.Volume as volume
use Rattle.custody_machine.specs.declared.answers.Failure.TheVariants.{VolumeFailed}
use Rattle.custody_machine.specs.Machine.{Receive}
use Rattle.custody.specs.declared.answers.Reply.{Reply}
use Rattle.custody.specs.declared.answers.Refused.{Refused}
use Rattle.custody.specs.declared.custody.Custody.{Custody}
use Rattle.custody.specs.declared.receiving.ReceiveError.{ReceiveError}
use Rattle.custody.specs.declared.receiving.ReceiveError.TheVariants as error
use Rattle.custody.specs.Answers.{closing_failure}
use Rattle.custody.specs.OpenCustody.{HasExecuted}
use Rattle.custody.specs.Custody.{failure_of, open_custody_of, is_open, HasApplied}
use Rattle.custody.specs.Receiving.{ReadsBody, HasEndedEarly, HasReceived, IsPartBody}
use Rattle.custody.specs.OtherCalls.{RecordsNothing}
use Rattle.custody.proofs.Coming.{chained_known}
use Rattle.custody.proofs.Room.{had_room}

-- ---- the bytes that came

module _ (input known : Option (List ℕ)) (first : List ℕ) (len : ℕ) (sent : List ℕ) (result : Result (Unit {0}) ReceiveError) (is_input : input ≡ option_append (Some first) known) (came : ReadsBody input len sent result) where
  came_of_both : ReadsBody (option_append (Some first) known) len sent result
  came_of_both = subst (λ k. ReadsBody k len sent result) is_input came

  -- they are the part's
  pub came_whole : (done : Unit {0}) → result ≡ Ok done → IsPartBody known first len sent
  came_whole done is = let all = subst (λ r. ReadsBody (option_append (Some first) known) len sent r) is came_of_both in (all.0, chained_known known first (λ bytes. sent ≡ take len bytes) all.1)

  -- or are too few
  pub came_short : (why : ReceiveError) → result ≡ Err why → ReadsBody (option_append (Some first) known) len sent (Err why)
  came_short why is = subst (λ r. ReadsBody (option_append (Some first) known) len sent r) is came_of_both

-- they are as many as were to come
pub came_long : (input : Option (List ℕ)) (len : ℕ) (sent : List ℕ) (result : Result (Unit {0}) ReceiveError) (done : Unit {0}) → result ≡ Ok done → ReadsBody input len sent result → length sent ≡ len
came_long input len sent result done is came = (subst (λ r. ReadsBody input len sent r) is came).0

-- ---- what was done

module _ {V S : Type 0} {g : volume.Ghosts V} {database : Ghosts S} (old new : Custody V S g database) (serving : is_open old ≡ true) where
  -- nothing is recorded, and the custody is closed by a failure of the volume, or not
  abbrev Ends : Type 0
  Ends = RecordsNothing database (open_custody_of old) (is_open new) (open_custody_of new) × IfSome (failure_of new) (λ failure. failure ≡ VolumeFailed)

  has_ended : Ends → HasEndedEarly old new
  has_ended ends = record { closed = λ shut. let clash : true ≡ false = sym serving ∙ shut in cc; rested = λ _. ends.0; closes = λ _. ends.1 }

  -- they did not all come
  pub ended_early : (known : Option (List ℕ)) (name : List ℕ) (len : ℕ) (first : List ℕ) (now : ℕ) (sent : List ℕ) (why : ReceiveError) → ReadsBody (option_append (Some first) known) len sent (Err why)
      → Ends → HasReceived known old name len first now (Err why) new
  ended_early known name len first now sent error.Short came ends = (chained_known known first (λ bytes. length bytes < len) came, has_ended ends)
  ended_early known name len first now sent error.ReadFailed came ends = has_ended ends
  ended_early known name len first now sent (error.Refused refused) came ends = absurd came

  -- they did, and were the command
  pub applied : (name body : List ℕ) (now : ℕ) (answer told : Result Reply Refused) → answer ≡ told → HasExecuted database (open_custody_of old) (Receive name body) now answer (open_custody_of new) → failure_of new ≡ closing_failure answer → HasApplied old (Receive name body) now told new
  applied name body now answer told is done closes = subst (λ a. HasApplied old (Receive name body) now a new) is (record {
    closed = λ shut. let clash : true ≡ false = sym serving ∙ shut in cc;
    done = λ _. done;
    closes = λ _. closes;
    room = λ _. had_room database (open_custody_of old) (open_custody_of new) (old.order serving) (Receive name body) now answer done;
  })
