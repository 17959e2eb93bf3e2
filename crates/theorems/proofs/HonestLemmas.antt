-- A database that is honest after a call was so before it.
use Rattle.std.proofs.Common.{◌≡◌, ℕ, List, Option, Bool, true, false, inl, inr, refl, subst, Ok, Err}
use Rattle.vault_volume.specs.declared.volume.Volume as volume
use Rattle.sqlite.specs.Store.{Ghosts}
use Rattle.custody_store.specs.StoreState.{store_state}
use Rattle.custody_machine.specs.Machine.{Receive}
use Rattle.custody.specs.declared.receiving.ReceiveError.TheVariants as receive_error
use Rattle.custody.specs.declared.custody.Custody.{Custody}
use Rattle.custody.specs.OpenCustody.{store_state_of}
use Rattle.custody.specs.OtherCalls.{RecordsNothing}
use Rattle.custody.specs.Custody.{open_custody_of, is_open}
use Rattle.http_request.specs.declared.faults.RequestFault.{RequestFault}
use Rattle.http_request.specs.declared.faults.RequestFault.TheVariants as fault
use Rattle.http_request.specs.RequestMeaning.{RequestMeaning, asks_for, bad}
use Rattle.http_request.specs.Action.{RequestAction, Do, Report, Explain, State, Due, Digests, Fetch}
use Rattle.http_api.specs.Responses.{HttpResponse}
use Rattle.http_api.specs.Handling.{FaultLeaves, HandlesRequest, IsNoCommand, IsServed, Performs}
use Rattle.theorems.specs.CustodyCalls.{CustodyCall, Applies, Receives, Fetches, Previews, Explains, Audits, HasCalled}
use Rattle.theorems.proofs.RunMoves.{trusts}

module _ {V S : Type 0} {g : volume.Ghosts V} {database : Ghosts S} where
  abbrev pub IsHonestIn : Custody V S g database → Type 0
  IsHonestIn custody = (store_state_of database (open_custody_of custody)).IsHonest

  pub honest_same : (old new : Custody V S g database) → new ≡ old → IsHonestIn new → IsHonestIn old
  honest_same old new same = subst (λ (c : Custody V S g database). IsHonestIn c) same

  -- ---- a call

  honest_rested : (old new : Custody V S g database) → (is_open old ≡ false → new ≡ old) → (is_open old ≡ true → RecordsNothing database (open_custody_of old) (is_open new) (open_custody_of new)) → IsHonestIn new → IsHonestIn old
  honest_rested old new closed rested honest = by (is_open old) refl
    where
      by : (b : Bool) → is_open old ≡ b → IsHonestIn old
      by true opened = subst (λ db. (store_state database db).IsHonest) (rested opened).store honest
      by false shut = honest_same old new (closed shut) honest

  pub honest_called : (old new : Custody V S g database) (call : CustodyCall) → HasCalled old call new → IsHonestIn new → IsHonestIn old
  honest_called old new (Applies command now answer) did = trusts old new command now answer did
  honest_called old new (Receives name len first known now (Ok reply)) did = trusts old new (Receive name did.0) now (Ok reply) did.2
  honest_called old new (Receives name len first known now (Err (receive_error.Refused refused))) did = trusts old new (Receive name did.0) now (Err refused) did.2
  honest_called old new (Receives name len first known now (Err receive_error.Short)) did = honest_rested old new did.1.closed did.1.rested
  honest_called old new (Receives name len first known now (Err receive_error.ReadFailed)) did = honest_rested old new did.closed did.rested
  honest_called old new (Fetches reference name answer) did = honest_rested old new (λ is. (did.closed is).1) did.rested
  honest_called old new (Previews stated now answer) did = honest_rested old new (λ is. (did.closed is).1) did.rested
  honest_called old new (Explains tld day rev answer) did = honest_rested old new (λ is. (did.closed is).1) did.rested
  honest_called old new (Audits answer) did = honest_rested old new (λ is. (did.closed is).1) did.rested

  -- ---- a request

  pub honest_unserved : (known : Option (List ℕ)) (old new : Custody V S g database) → IsNoCommand known old new → IsHonestIn new → IsHonestIn old
  honest_unserved known old new (inl same) = honest_same old new same
  honest_unserved known old new (inr ended) = honest_rested old new ended.1.closed ended.1.rested

  honest_faulty : (known : Option (List ℕ)) (found : RequestFault) (old new : Custody V S g database) → FaultLeaves known found old new → IsHonestIn new → IsHonestIn old
  honest_faulty known fault.BodyShort old new left = honest_unserved known old new left
  honest_faulty known found old new left = honest_same old new left

  honest_performed : (wanted : RequestAction) (now : ℕ) (old : Custody V S g database) (answer : HttpResponse) (new : Custody V S g database) → Performs wanted now old answer new → IsHonestIn new → IsHonestIn old
  honest_performed (Do command) now old answer new did = trusts old new command now did.0 did.1
  honest_performed (Explain tld day rev) now old answer new did = honest_rested old new (λ is. (did.1.closed is).1) did.1.rested
  honest_performed (Fetch reference name) now old answer new did = honest_rested old new (λ is. (did.1.closed is).1) did.1.rested
  honest_performed (Report tld) now old answer new did = honest_same old new did.1
  honest_performed State now old answer new did = honest_same old new did.1
  honest_performed Due now old answer new did = honest_same old new did.1
  honest_performed (Digests tld) now old answer new did = honest_same old new did.1

  honest_handled : (known : Option (List ℕ)) (asked : RequestMeaning) (now : ℕ) (old : Custody V S g database) (answer : HttpResponse) (new : Custody V S g database) → HandlesRequest known asked now old answer new → IsHonestIn new → IsHonestIn old
  honest_handled known (bad found) now old answer new did = honest_faulty known found old new did.1
  honest_handled known (asks_for wanted) now old answer new did = honest_performed wanted now old answer new did

  pub honest_served : (known : Option (List ℕ)) (now : ℕ) (old : Custody V S g database) (answer : HttpResponse) (new : Custody V S g database) → IsServed known now old answer new → IsHonestIn new → IsHonestIn old
  honest_served known now old answer new (inl served) = honest_handled known served.0 now old answer new served.2
  honest_served known now old answer new (inr none) = honest_same old new none.1
