-- What is read of a custody that was reached from its beginning, through whatever stops (Specification 2, Part B sections 4 and 6).
use Rattle.std.specs.Prelude.{◌≡◌, ◌⊎◌, ℕ, List, [], Contains, None, Some, true, Result, Ok, Err}
use Rattle.std.specs.FinMap.{get}
use Rattle.deposit_name.specs.Name.{Name}
use Rattle.vault_volume.specs.declared.volume.Volume as volume
use Rattle.sqlite.specs.Store.{Ghosts}
use Rattle.custody_records.specs.Records.{key_of}
use Rattle.custody_machine.specs.declared.answers.Failure.{Failure}
use Rattle.custody_machine.specs.declared.answers.Failure.TheVariants.{NoMemory, VolumeFailed, StoreFailed, Closed, Damaged}
use Rattle.custody_machine.specs.NameReading.{read_name}
use Rattle.custody_machine.specs.State.{State, Part, Held}
use Rattle.custody_machine.specs.Machine.{Receive, TimedCommand, after}
use Rattle.custody_machine.specs.History.{Event, found}
use Rattle.custody_machine.specs.Moves.{Place, MovesAlong, IsBegun}
use Rattle.custody_machine.specs.FetchResult.{ReleasesName, fetch_result}
use Rattle.custody_machine.specs.Explaining.{explain_refusal}
use Rattle.custody.specs.declared.answers.Refused.{Refused}
use Rattle.custody.specs.declared.answers.Refused.TheVariants as refused
use Rattle.custody.specs.declared.custody.Custody.{Custody}
use Rattle.custody.specs.declared.explanation.Explanation.{Explanation}
use Rattle.custody.specs.Custody.{is_open}
use Rattle.custody.specs.Fetching.{HasFetched}
use Rattle.custody.specs.Explaining.{HasExplained, IsExplanation}
use Rattle.custody.specs.Auditing.{HasAudited}
use Rattle.theorems.specs.Sessions.{place_of}

-- ---- the bytes of a part

-- a command that received these bytes under this name, the text of a part's name
abbrev pub ReceivesUnder : TimedCommand → (name bytes : List ℕ) → Type 0
ReceivesUnder entry name bytes = entry.0 ≡ Receive name bytes

-- The first state has a part under this name with these bytes.
pub record HasPartAtFirst (first : State) (name bytes : List ℕ) : Type 0 where
  pub read : Name
  pub part : Part
  pub named : read_name name ≡ Ok read
  pub kept : get first.parts (key_of read) ≡ Some part
  pub kind : part.kind ≡ read.kind
  pub held : part.content ≡ Held bytes

-- These are the bytes that were received under a name: by one of the commands, or before the first state; and each of the commands that received bytes under it received these.
pub record AreReceivedBytes (first : State) (entries : List TimedCommand) (name bytes : List ℕ) : Type 0 where
  pub received : HasPartAtFirst first name bytes ⊎ ((entry : TimedCommand) × Contains entries entry × ReceivesUnder entry name bytes)
  pub only : (entry : TimedCommand) (other : List ℕ) → Contains entries entry → ReceivesUnder entry name other → other ≡ bytes

-- ---- a fetch

-- what an open custody answers to a fetch, after the commands found: of a released part the bytes that were received, or the refusal that the state decides, or that memory (C1) or the volume (C2) fails; never damage (C5)
abbrev pub IsReadAsReceived : State → List TimedCommand → (reference name : List ℕ) → Result (List ℕ) Refused → Type 0
IsReadAsReceived first entries reference name (Ok bytes) = ReleasesName (after first entries) reference name × AreReceivedBytes first entries name bytes
IsReadAsReceived first entries reference name (Err (refused.Refusal refusal)) = fetch_result (after first entries) reference name ≡ Err refusal
IsReadAsReceived first entries reference name (Err (refused.Failure NoMemory)) = Unit {0}
IsReadAsReceived first entries reference name (Err (refused.Failure VolumeFailed)) = Unit {0}
IsReadAsReceived first entries reference name (Err (refused.Failure StoreFailed)) = ⊥
IsReadAsReceived first entries reference name (Err (refused.Failure Closed)) = ⊥
IsReadAsReceived first entries reference name (Err (refused.Failure (Damaged damage))) = ⊥

-- ---- an explanation

-- what an open custody in a state answers when it is asked why a revision has failed: the explanation of the state, or the refusal that the state decides, or that memory (C1) or the volume (C2) fails; never damage (C5)
abbrev pub IsExplainedInState : State → (tld : List ℕ) → (day rev : ℕ) → Result Explanation Refused → Type 0
IsExplainedInState state tld day rev (Ok told) = (explain_refusal state tld day rev ≡ None) × IsExplanation state tld day rev told
IsExplainedInState state tld day rev (Err (refused.Refusal refusal)) = explain_refusal state tld day rev ≡ Some refusal
IsExplainedInState state tld day rev (Err (refused.Failure NoMemory)) = Unit {0}
IsExplainedInState state tld day rev (Err (refused.Failure VolumeFailed)) = Unit {0}
IsExplainedInState state tld day rev (Err (refused.Failure StoreFailed)) = ⊥
IsExplainedInState state tld day rev (Err (refused.Failure Closed)) = ⊥
IsExplainedInState state tld day rev (Err (refused.Failure (Damaged damage))) = ⊥

-- ---- an audit

-- no part is listed; or memory (C1) or the volume (C2) fails
abbrev pub ListsNoDamage : Result (List Name) Failure → Type 0
ListsNoDamage (Ok names) = names ≡ []
ListsNoDamage (Err NoMemory) = Unit {0}
ListsNoDamage (Err VolumeFailed) = Unit {0}
ListsNoDamage (Err StoreFailed) = ⊥
ListsNoDamage (Err Closed) = ⊥
ListsNoDamage (Err (Damaged damage)) = ⊥

-- ---- the law

module _ {V S : Type 0} {g : volume.Ghosts V} where
  -- an open custody is reached from a beginning in the first state by these events
  pub record IsReachedBy (database : Ghosts S) (first : State) (events : List Event) (custody : Custody V S g database) : Type 0 where
    pub start : Place
    pub begun : IsBegun first start
    pub moves : MovesAlong start events (place_of database custody)
    pub opened : is_open custody ≡ true

  -- `Custody::fetch` of it answers so
  abbrev pub FetchesAsReceived : (database : Ghosts S) → (old new : Custody V S g database) → Type 0
  FetchesAsReceived database old new = (first : State) (events : List Event) → IsReachedBy database first events old
      → (reference name : List ℕ) (answer : Result (List ℕ) Refused) → HasFetched old reference name answer new → IsReadAsReceived first (found first events) reference name answer

  -- `Custody::explain` of it
  abbrev pub ExplainsState : (database : Ghosts S) → (old new : Custody V S g database) → Type 0
  ExplainsState database old new = (first : State) (events : List Event) → IsReachedBy database first events old
      → (tld : List ℕ) (day rev : ℕ) (answer : Result Explanation Refused) → HasExplained old tld day rev answer new → IsExplainedInState (after first (found first events)) tld day rev answer

  -- `Custody::audit` of it
  abbrev pub AuditsListNone : (database : Ghosts S) → (old new : Custody V S g database) → Type 0
  AuditsListNone database old new = (first : State) (events : List Event) → IsReachedBy database first events old
      → (answer : Result (List Name) Failure) → HasAudited old answer new → ListsNoDamage answer
