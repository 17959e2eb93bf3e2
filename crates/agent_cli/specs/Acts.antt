-- What a deed does to an agent.
use Rattle.std.specs.Prelude.{◌≡◌, ◌≢◌, ◌⊎◌, ◌==◌, ◌-◌, ℕ, nat_lt, List, [], ◌∷◌, length, Option, None, Some, Result, Ok, Err, is_some, Bool, true, false, MatchBool}
use Rattle.std.specs.FinMap.{get}
use Rattle.std.specs.Io.KnownBytes.{Appends}
use Rattle.std.specs.List.{after_last}
use Rattle.vault_volume.specs.declared.volume.Volume as volume
use Rattle.deposit_name.specs.Name.{Name}
use Rattle.desk.specs.declared.notices.Notice as desk
use Rattle.sqlite.specs.Store.{Ghosts}
use Rattle.custody_records.specs.Records.{Records}
use Rattle.custody_machine.specs.declared.command.Statement as statement
use Rattle.custody_machine.specs.Commands.{command_of}
use Rattle.custody_machine.specs.Machine.{Command, Check, Receive}
use Rattle.custody_machine.specs.declared.answers.Failure.{Failure}
use Rattle.custody_machine.specs.declared.answers.Failure.TheVariants.{NoMemory, Closed}
use Rattle.custody_machine.specs.declared.answers.Refusal.TheVariants.{RegistryUnknown}
use Rattle.custody_machine.specs.Texts.{failure_text, refusal_text}
use Rattle.custody_rules.specs.DueDays.{due_days}
use Rattle.custody.specs.Custody.{HasApplied, open_custody_of, is_open}
use Rattle.custody.specs.Auditing.{HasAudited}
use Rattle.custody.specs.Explaining.{HasExplained}
use Rattle.custody.specs.ExplanationText.{explanation_text}
use Rattle.custody.specs.Fetching.{HasFetched}
use Rattle.custody.specs.OpenCustody.{current_records}
use Rattle.custody.specs.Opening.{free_blocks}
use Rattle.custody.specs.Previewing.{HasPreviewed}
use Rattle.custody.specs.declared.custody.Custody.{Custody}
use Rattle.custody.specs.declared.explanation.Explanation.{Explanation}
use Rattle.custody.specs.Answers.{init_error_text}
use Rattle.custody.specs.declared.answers.InitError.TheVariants.{AlreadyInitialised}
use Rattle.custody.specs.declared.answers.Reply.{Reply}
use Rattle.custody.specs.declared.answers.Refused.{Refused}
use Rattle.custody.specs.declared.answers.Refused.TheVariants as refused
use Rattle.answer_lines.specs.Auditing.{audit_status, audit_text}
use Rattle.answer_lines.specs.Digests.{digests_text}
use Rattle.answer_lines.specs.Due.{due_text}
use Rattle.answer_lines.specs.Lines.{notice_text, too_many_absences_text}
use Rattle.answer_lines.specs.Printing.{WritesBeginning, IsAnswerPrinted, IsUnused, WritesWholeAt, Writer, as_line}
use Rattle.answer_lines.specs.State.{registry_report_text, state_text}
use Rattle.answer_lines.specs.Statuses.{IsExitStatus, IsStatusAfter, answer_status}
use Rattle.agent_cli.specs.declared.order.Deed.{Deed}
use Rattle.agent_cli.specs.declared.order.Deed.TheVariants as deed

-- the name that a path has
abbrev pub file_name : List ℕ → List ℕ
file_name path = after_last (λ b. b == 47) path

-- The text of what was found goes to the output, and the line of a refusal or of a failure to the errors: with status 0 the first stands there whole, with status 1 the second, and whatever the status a beginning of it.
abbrev pub IsFoundPrinted : {T : Type 0} → (T → List ℕ) → Result T Refused → ℕ → Writer → Writer → Type 0
IsFoundPrinted text (Ok found) status output errors = WritesWholeAt output (text found) 0 status × IsUnused errors
IsFoundPrinted text (Err (refused.Refusal why)) status output errors = WritesWholeAt errors (as_line (refusal_text why)) 1 status × IsUnused output
IsFoundPrinted text (Err (refused.Failure why)) status output errors = WritesBeginning errors (as_line (failure_text why)) × IsUnused output

-- there was no memory for the line of what was found, which the line of that failure says
abbrev pub LacksLine : {T : Type 0} → Result T Refused → ℕ → Writer → Writer → Type 0
LacksLine (Ok found) status output errors = (status ≡ 3) × WritesBeginning errors (as_line (failure_text NoMemory)) × IsUnused output
LacksLine (Err why) status output errors = ⊥

-- What an audit has found goes to the output: the parts that are damaged, with status 1, or how many are held, with status 0, and whatever the status a beginning of it. The line of a failure goes to the errors.
abbrev pub IsAuditPrinted : Records → Result (List Name) Failure → ℕ → Writer → Writer → Type 0
IsAuditPrinted records (Ok damaged) status output errors =
    IsStatusAfter (audit_status damaged) status × WritesWholeAt output (audit_text damaged records) (audit_status damaged) status × IsUnused errors
IsAuditPrinted records (Err why) status output errors = (status ≡ 3) × WritesBeginning errors (as_line (failure_text why)) × IsUnused output

-- more days are due than a sweep may record
abbrev pub is_over : Option ℕ → ℕ → Bool
is_over None count = false
is_over (Some most) count = nat_lt most count

module _ {V S : Type 0} {g : volume.Ghosts V} {database : Ghosts S} where
  -- the agent is given one command, whose answer is told
  abbrev pub Applies : Custody V S g database → Command → ℕ → Custody V S g database → ℕ → Writer → Writer → Type 0
  Applies old command now new status output errors =
      (answer : Result Reply Refused) × HasApplied old command now answer new × IsStatusAfter (answer_status answer) status × IsAnswerPrinted answer status output errors

  -- the line of the notice that a statement would be answered with is printed, and nothing else
  abbrev pub Previews : Custody V S g database → statement.Statement → ℕ → Custody V S g database → ℕ → Writer → Writer → Type 0
  Previews old stated now new status output errors =
      (answer : Result desk.Notice Refused) × HasPreviewed old stated now answer new × IsStatusAfter (answer_status answer) status × IsFoundPrinted (λ notice. as_line (notice_text notice)) answer status output errors

  -- a part is fetched, and its bytes are all that the output is given
  abbrev pub Fetches : Custody V S g database → (reference name : List ℕ) → Custody V S g database → ℕ → Writer → Writer → Type 0
  Fetches old reference name new status output errors =
      (answer : Result (List ℕ) Refused) × HasFetched old reference name answer new × IsStatusAfter (answer_status answer) status × IsFoundPrinted (λ bytes. bytes) answer status output errors

  -- the line of why a revision has failed is printed, and nothing else; or there is no memory for that line
  abbrev pub Explains : Custody V S g database → (tld : List ℕ) → (day rev : ℕ) → Custody V S g database → ℕ → Writer → Writer → Type 0
  Explains old tld day rev new status output errors =
      (answer : Result Explanation Refused) × HasExplained old tld day rev answer new
      × ((IsStatusAfter (answer_status answer) status × IsFoundPrinted (λ told. as_line (explanation_text told)) answer status output errors) ⊎ LacksLine answer status output errors)

  -- it is audited, and what was found is all that is printed
  abbrev pub Audits : Custody V S g database → Custody V S g database → ℕ → Writer → Writer → Type 0
  Audits old new status output errors = (answer : Result (List Name) Failure) × HasAudited old answer new × IsAuditPrinted (current_records (open_custody_of old)) answer status output errors

  -- what is printed of the records and the free blocks
  abbrev pub printed_state : Custody V S g database → List ℕ
  printed_state custody = as_line (state_text (current_records (open_custody_of custody)) (free_blocks (current_records (open_custody_of custody))) ((current_records (open_custody_of custody)).blocks - 1))

  -- an open agent prints its records and its free blocks, and one that is closed nothing of them
  pub record PrintsState (custody : Custody V S g database) (status : ℕ) (output errors : Writer) : Type 0 where
    pub shown : status ≡ 0 → (is_open custody ≡ true) × Appends output.before output.after (printed_state custody)
    -- whatever the status, what is printed is a beginning of it
    pub begun : is_open custody ≡ true → WritesBeginning output (printed_state custody)
    pub while_open : is_open custody ≡ true → IsStatusAfter 0 status × IsUnused errors
    pub while_closed : is_open custody ≡ false → (status ≡ 3) × WritesBeginning errors (as_line (failure_text Closed)) × IsUnused output

  -- an open agent prints the days that are due, or there is no memory for them
  pub record PrintsDue (custody : Custody V S g database) (now : ℕ) (status : ℕ) (output errors : Writer) : Type 0 where
    pub shown : status ≡ 0 → (is_open custody ≡ true) × Appends output.before output.after (due_text (current_records (open_custody_of custody)) now)
    -- whatever the status, what is printed is a beginning of it
    pub begun : is_open custody ≡ true → WritesBeginning output (due_text (current_records (open_custody_of custody)) now)
    pub while_open : is_open custody ≡ true → (IsStatusAfter 0 status × IsUnused errors) ⊎ ((status ≡ 3) × WritesBeginning errors (as_line (failure_text NoMemory)) × IsUnused output)
    pub while_closed : is_open custody ≡ false → (status ≡ 3) × WritesBeginning errors (as_line (failure_text Closed)) × IsUnused output

  -- an open agent prints this text of a registry that is known, and refuses any other
  pub record PrintsOfRegistry (text : Records → List ℕ → List ℕ) (custody : Custody V S g database) (tld : List ℕ) (status : ℕ) (output errors : Writer) : Type 0 where
    pub shown : status ≡ 0 → (is_open custody ≡ true) × (is_some (get (current_records (open_custody_of custody)).registries tld) ≡ true) × Appends output.before output.after (text (current_records (open_custody_of custody)) tld)
    -- whatever the status, what is printed of a registry that is known is a beginning of its text
    pub begun : is_open custody ≡ true → is_some (get (current_records (open_custody_of custody)).registries tld) ≡ true → WritesBeginning output (text (current_records (open_custody_of custody)) tld)
    pub known : is_open custody ≡ true → is_some (get (current_records (open_custody_of custody)).registries tld) ≡ true → IsStatusAfter 0 status × IsUnused errors
    pub unknown : is_open custody ≡ true → get (current_records (open_custody_of custody)).registries tld ≡ None → IsStatusAfter 1 status × WritesWholeAt errors (as_line (refusal_text RegistryUnknown)) 1 status × IsUnused output
    pub while_closed : is_open custody ≡ false → (status ≡ 3) × WritesBeginning errors (as_line (failure_text Closed)) × IsUnused output

  -- each of these days is checked in its turn, and the answer is told; the first that is not done ends it
  abbrev pub IsSwept : List (List ℕ × ℕ) → Custody V S g database → ℕ → Custody V S g database → ℕ → Writer → Writer → Type 0
  IsSwept [] old now new status output errors = (new ≡ old) × (status ≡ 0) × IsUnused output × IsUnused errors
  IsSwept (day ∷ days) old now new status output errors =
      (then : Custody V S g database) × (told : ℕ) × (out err : Option (List ℕ))
      × Applies old (Check day.0 day.1) now then told (record { before = output.before; after = out }) (record { before = errors.before; after = err })
      × (told ≡ 0 → IsSwept days then now new status (record { before = out; after = output.after }) (record { before = err; after = errors.after }))
      × (told ≢ 0 → (new ≡ then) × (status ≡ told) × (output.after ≡ out) × (errors.after ≡ err))

  -- A sweep that may not record so many absences records none, and says how many there are; any other checks each day.
  abbrev pub SweepsDays : Option ℕ → List (List ℕ × ℕ) → Custody V S g database → ℕ → Custody V S g database → ℕ → Writer → Writer → Type 0
  SweepsDays at_most days old now new status output errors = MatchBool (is_over at_most (length days))
      ((new ≡ old) × IsStatusAfter 1 status × WritesWholeAt errors (as_line (too_many_absences_text (length days))) 1 status × IsUnused output)
      (IsSwept days old now new status output errors)

  -- an open agent is swept for the days that are due by its records, or there is no memory for them
  pub record Sweeps (at_most : Option ℕ) (old : Custody V S g database) (now : ℕ) (new : Custody V S g database) (status : ℕ) (output errors : Writer) : Type 0 where
    pub swept : is_open old ≡ true → SweepsDays at_most (due_days (current_records (open_custody_of old)) now) old now new status output errors ⊎ ((new ≡ old) × (status ≡ 3) × WritesBeginning errors (as_line (failure_text NoMemory)) × IsUnused output)
    pub while_closed : is_open old ≡ false → (new ≡ old) × (status ≡ 3) × WritesBeginning errors (as_line (failure_text Closed)) × IsUnused output

  -- A command is given to it, and a `put` as the receipt of a part; `sweep` gives it its checks, `preview`, `fetch`, `explain` and `audit` read, and no other deed changes it.
  abbrev pub Acts : Deed → List ℕ → ℕ → Custody V S g database → Custody V S g database → ℕ → Writer → Writer → Type 0
  Acts (deed.Init blocks number) bytes now old new status output errors =
      (new ≡ old) × IsStatusAfter 1 status × WritesWholeAt errors (as_line (init_error_text AlreadyInitialised)) 1 status × IsUnused output
  Acts (deed.Put file) bytes now old new status output errors = Applies old (Receive (file_name file.now) bytes) now new status output errors
  Acts (deed.Preview stated) bytes now old new status output errors = IsExitStatus status × Previews old stated now new status output errors
  Acts (deed.Do command) bytes now old new status output errors = Applies old (command_of command) now new status output errors
  Acts deed.Due bytes now old new status output errors = (new ≡ old) × IsExitStatus status × PrintsDue old now status output errors
  Acts (deed.Sweep at_most) bytes now old new status output errors = IsExitStatus status × Sweeps at_most old now new status output errors
  Acts (deed.Fetch reference name) bytes now old new status output errors = IsExitStatus status × Fetches old reference name.now new status output errors
  Acts (deed.Report tld) bytes now old new status output errors = (new ≡ old) × IsExitStatus status × PrintsOfRegistry registry_report_text old tld status output errors
  Acts (deed.Explain tld day rev) bytes now old new status output errors = IsExitStatus status × Explains old tld day rev new status output errors
  Acts (deed.Digests tld) bytes now old new status output errors = (new ≡ old) × IsExitStatus status × PrintsOfRegistry digests_text old tld status output errors
  Acts deed.State bytes now old new status output errors = (new ≡ old) × IsExitStatus status × PrintsState old status output errors
  Acts deed.Audit bytes now old new status output errors = IsExitStatus status × Audits old new status output errors
  Acts deed.Batch bytes now old new status output errors = (new ≡ old) × (status ≡ 0) × IsUnused output × IsUnused errors
  Acts (deed.Serve port requests until_closed) bytes now old new status output errors = (new ≡ old) × (status ≡ 0) × IsUnused output × IsUnused errors
