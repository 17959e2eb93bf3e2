-- What the words of a call ask for: the matches of the command, each value in form.
use Rattle.std.specs.Prelude.{◌≡◌, ◌≢◌, ◌⊎◌, ℕ, Bool, List, Option, Some, None, Result, Ok, Err, IsSomeAnd, MatchBool, codes, find}
use Rattle.clap.specs.Words.{Row, Text, fault_of, first_of, kind_of, subcommand_of}
use Rattle.clap.specs.Walk.{is_empty}
use Rattle.clap.specs.declared.error.Error.{Error}
use Rattle.clap.specs.declared.error.ErrorKind.TheVariants.{OutOfMemory}
use Rattle.deposit_name.specs.declared.kinds.Kind.{Kind}
use Rattle.custody_machine.specs.declared.command.Statement as statement
use Rattle.custody_machine.specs.Commands.{command_of}
use Rattle.custody_machine.specs.Machine.{Command, Register, Statement, Release, Hold, Lift, Purge}
use Rattle.answer_lines.specs.Number.{ShowsNumber}
use Rattle.extent_map.specs.Limits.{most_blocks}
use Rattle.agent_cli.specs.Grammar.{escrow_app, is_given, is_named, most_absences, subcommands, text_in}
use Rattle.agent_cli.specs.declared.subcommands.Subcommand.{Subcommand}
use Rattle.agent_cli.specs.declared.subcommands.Subcommand.TheVariants as subcommand
use Rattle.agent_cli.specs.Forms.{ShowsDay, ShowsGround, ShowsId, ShowsIfGiven, ShowsKind, ShowsMoment, ShowsReference, ShowsTld, count_if_given, count_of}
use Rattle.agent_cli.specs.declared.order.Argument.{Argument}
use Rattle.agent_cli.specs.declared.order.Argument.TheVariants as argument
use Rattle.agent_cli.specs.declared.order.Deed.{Deed}
use Rattle.agent_cli.specs.declared.order.Deed.TheVariants as deed
use Rattle.agent_cli.specs.declared.order.Order.{Order}
use Rattle.agent_cli.specs.declared.order.WordFault.{WordFault}
use Rattle.agent_cli.specs.declared.order.WordFault.TheVariants as fault

-- what is to be done in a folder
pub data DeedMeaning : Type 0 where
  Init : (blocks number : ℕ) → DeedMeaning
  Put : (file : Text) → DeedMeaning
  Preview : statement.Statement → DeedMeaning
  Do : Command → DeedMeaning
  Due : DeedMeaning
  Sweep : (at_most : Option ℕ) → DeedMeaning
  Fetch : (reference : List ℕ) → (name : Text) → DeedMeaning
  Report : (tld : List ℕ) → DeedMeaning
  Explain : (tld : List ℕ) → (day rev : ℕ) → DeedMeaning
  Digests : (tld : List ℕ) → DeedMeaning
  State : DeedMeaning
  Audit : DeedMeaning
  Batch : DeedMeaning
  Serve : (port requests : ℕ) → (until_closed : Bool) → DeedMeaning

-- a folder, the moment that the words name, and what is to be done there
pub record OrderMeaning : Type 0 where
  pub folder : Text
  pub now : Option ℕ
  pub deed : DeedMeaning

-- what words are: an order, words with an argument out of form, or no words of the command
abbrev pub WordsReading : Type 0
WordsReading = Option (Result OrderMeaning Argument)

-- an argument shows a value, with which the rest is read; or it is out of form
abbrev pub ReadsValue : {X Y : Type 0} → Argument → (X → Type 0) → (X → Result Y Argument → Type 0) → Result Y Argument → Type 0
ReadsValue {X} a Shows Next r = ((x : X) × Shows x × Next x r) ⊎ (((x : X) → ¬ Shows x) × (r ≡ Err a))

-- arguments give a value, with which the rest is read; or one of them is out of form
abbrev pub ReadsValues : {X Y : Type 0} → (Result X Argument → Type 0) → (X → Result Y Argument → Type 0) → Result Y Argument → Type 0
ReadsValues {X} Reads Next r = ((x : X) × Reads (Ok x) × Next x r) ⊎ ((a : Argument) × Reads (Err a) × (r ≡ Err a))

-- what is stated of a deposit
abbrev pub stated_deposit : List ℕ → ℕ → Kind → List ℕ → List Row → statement.Statement
stated_deposit tld day kind id rows = record {
  tld = tld;
  day = day;
  kind = kind;
  rev = count_of (codes "revision") 99 rows;
  parts = count_of (codes "parts") 8 rows;
  id = id;
}

-- by the values of its arguments
abbrev pub StatementReading : List Row → Result statement.Statement Argument → Type 0
StatementReading rows r =
    ReadsValue argument.Tld (ShowsTld (text_in (codes "TLD") rows)) (λ tld.
    ReadsValue argument.Date (ShowsDay (text_in (codes "date") rows)) (λ day.
    ReadsValue argument.Kind (ShowsKind (text_in (codes "kind") rows)) (λ kind.
    ReadsValue argument.Id (ShowsId (text_in (codes "id") rows)) (λ id r.
    r ≡ Ok (stated_deposit tld day kind id rows))))) r

-- What a subcommand is to do, by the values of its arguments. They are tested in the order TLD, DATE, FIRST, KIND, ID, REF, GROUND, NUMBER.
abbrev pub DeedReading : Subcommand → List Row → Result DeedMeaning Argument → Type 0
DeedReading subcommand.Init rows r =
    ReadsValue argument.Number (ShowsNumber (text_in (codes "number") rows)) (λ number r.
    r ≡ Ok (Init (count_of (codes "blocks") most_blocks rows) number)) r
DeedReading subcommand.Register rows r =
    ReadsValue argument.Tld (ShowsTld (text_in (codes "TLD") rows)) (λ tld.
    ReadsValue argument.First (ShowsDay (text_in (codes "first") rows)) (λ first r.
    r ≡ Ok (Do (Register tld first)))) r
DeedReading subcommand.Put rows r = r ≡ Ok (Put (text_in (codes "FILE") rows))
DeedReading subcommand.Preview rows r = ReadsValues (StatementReading rows) (λ stated r. r ≡ Ok (Preview stated)) r
DeedReading subcommand.Verify rows r = ReadsValues (StatementReading rows) (λ stated r. r ≡ Ok (Do (Statement stated))) r
DeedReading subcommand.Due rows r = r ≡ Ok Due
DeedReading subcommand.Sweep rows r = r ≡ Ok (Sweep (count_if_given (codes "at-most") most_absences rows))
DeedReading subcommand.Purge rows r = r ≡ Ok (Do Purge)
DeedReading subcommand.Hold rows r =
    ReadsValue argument.Tld (ShowsTld (text_in (codes "TLD") rows)) (λ tld.
    ReadsValue argument.Date (ShowsDay (text_in (codes "date") rows)) (λ day.
    ReadsValue argument.Reference (ShowsReference (text_in (codes "REF") rows)) (λ reference r.
    r ≡ Ok (Do (Hold reference tld day))))) r
DeedReading subcommand.Lift rows r =
    ReadsValue argument.Reference (ShowsReference (text_in (codes "REF") rows)) (λ reference r.
    r ≡ Ok (Do (Lift reference))) r
DeedReading subcommand.Release rows r =
    ReadsValue argument.Tld (ShowsTld (text_in (codes "TLD") rows)) (λ tld.
    ReadsValue argument.Reference (ShowsReference (text_in (codes "REF") rows)) (λ reference.
    ReadsValue argument.Ground (ShowsGround (text_in (codes "GROUND") rows)) (λ reason r.
    r ≡ Ok (Do (Release reference tld reason))))) r
DeedReading subcommand.Fetch rows r =
    ReadsValue argument.Reference (ShowsReference (text_in (codes "REF") rows)) (λ reference r.
    r ≡ Ok (Fetch reference (text_in (codes "NAME") rows))) r
DeedReading subcommand.Report rows r =
    ReadsValue argument.Tld (ShowsTld (text_in (codes "TLD") rows)) (λ tld r.
    r ≡ Ok (Report tld)) r
DeedReading subcommand.Explain rows r =
    ReadsValue argument.Tld (ShowsTld (text_in (codes "TLD") rows)) (λ tld.
    ReadsValue argument.Date (ShowsDay (text_in (codes "date") rows)) (λ day r.
    r ≡ Ok (Explain tld day (count_of (codes "revision") 99 rows)))) r
DeedReading subcommand.Digests rows r =
    ReadsValue argument.Tld (ShowsTld (text_in (codes "TLD") rows)) (λ tld r.
    r ≡ Ok (Digests tld)) r
DeedReading subcommand.State rows r = r ≡ Ok State
DeedReading subcommand.Audit rows r = r ≡ Ok Audit
DeedReading subcommand.Batch rows r = r ≡ Ok Batch
DeedReading subcommand.Serve rows r =
    r ≡ Ok (Serve (count_of (codes "port") 65_535 rows) (count_of (codes "requests") 1_000_000 rows) (is_given (codes "until-closed") rows))

-- What is to be done is read first, then NOW, where it is given, and the folder.
abbrev pub OrderReading : Subcommand → List Row → Result OrderMeaning Argument → Type 0
OrderReading subcommand rows r =
    ReadsValues (DeedReading subcommand rows) (λ deed.
    ReadsValue argument.Now (ShowsIfGiven ShowsMoment (first_of (codes "now") rows)) (λ now r.
    r ≡ Ok (record { folder = text_in (codes "DIR") rows; now = now; deed = deed }))) r

-- of a subcommand, where one has the name
abbrev pub SubcommandReading : Option Subcommand → List Row → WordsReading → Type 0
SubcommandReading None rows r = r ≡ None
SubcommandReading (Some subcommand) rows r = IsSomeAnd r (OrderReading subcommand rows)

-- the subcommand of a name
abbrev pub subcommand_named : Text → Option Subcommand
subcommand_named name = find (is_named name) subcommands

abbrev pub MatchesReading : Option (Text × List Row) → WordsReading → Type 0
MatchesReading None r = r ≡ None
MatchesReading (Some p) r = SubcommandReading (subcommand_named p.0) p.1 r

-- What the words of a call ask for, with the program's name first: clap takes them as the command
-- `escrow`, and its matches have their values in form.
unfoldable pub ReadsWords : List Text → WordsReading → Type 0
ReadsWords words r =
    MatchBool (is_empty (fault_of escrow_app words)) (MatchesReading (subcommand_of escrow_app words) r) (r ≡ None)

-- Words ask for one thing at most.
abbrev pub IsOneReading : Type 0
IsOneReading = (words : List Text) (a b : WordsReading) → ReadsWords words a → ReadsWords words b → a ≡ b

-- what is to be done, of a value in memory
abbrev pub deed_meaning : Deed → DeedMeaning
deed_meaning (deed.Init blocks number) = Init blocks number
deed_meaning (deed.Put file) = Put file.now
deed_meaning (deed.Preview stated) = Preview stated
deed_meaning (deed.Do command) = Do (command_of command)
deed_meaning deed.Due = Due
deed_meaning (deed.Sweep at_most) = Sweep at_most
deed_meaning (deed.Fetch reference name) = Fetch reference name.now
deed_meaning (deed.Report tld) = Report tld
deed_meaning (deed.Explain tld day rev) = Explain tld day rev
deed_meaning (deed.Digests tld) = Digests tld
deed_meaning deed.State = State
deed_meaning deed.Audit = Audit
deed_meaning deed.Batch = Batch
deed_meaning (deed.Serve port requests until_closed) = Serve port requests until_closed

-- what an order says
abbrev pub meaning : Order → OrderMeaning
meaning order = record { folder = order.folder.now; now = order.now; deed = deed_meaning order.deed }

-- the answer is what is read: a value, or an argument that is out of form
abbrev pub AnswersAsRead : {X Y : Type 0} → (X → Y) → (Result Y Argument → Type 0) → Result X WordFault → Type 0
AnswersAsRead says Reads (Ok x) = Reads (Ok (says x))
AnswersAsRead says Reads (Err (fault.Bad a)) = Reads (Err a)
AnswersAsRead says Reads (Err e) = ⊥

-- the answer is the reading, or memory ran out
abbrev pub AnswersReading : (WordsReading → Type 0) → Result Order WordFault → Type 0
AnswersReading Reads (Ok o) = Reads (Some (Ok (meaning o)))
AnswersReading Reads (Err (fault.Bad a)) = Reads (Some (Err a))
AnswersReading Reads (Err (fault.Words e)) = Reads None
AnswersReading Reads (Err fault.NoMemory) = Unit {0}

-- the answer is the value that an argument shows, and where it shows none the argument is out of form
abbrev pub AnswersValue : {X : Type 0} → Argument → (X → Type 0) → Result X WordFault → Type 0
AnswersValue a Shows (Ok x) = Shows x
AnswersValue {X} a Shows (Err e) = (e ≡ fault.Bad a) × ((x : X) → ¬ Shows x)

-- an error of clap, where want of memory has a name of its own
abbrev pub IsFaultFrom : Error → WordFault → Type 0
IsFaultFrom e (fault.Words f) = (f ≡ e) × (kind_of e ≢ OutOfMemory)
IsFaultFrom e (fault.Bad a) = ⊥
IsFaultFrom e fault.NoMemory = kind_of e ≡ OutOfMemory
