-- What is printed of an answer.
use Rattle.std.specs.Prelude.{◌≡◌, ℕ, List, [], ◌∷◌, ◌++◌, Option, length, Result, Ok, Err}
use Rattle.std.specs.Io.KnownBytes.{Appends}
use Rattle.desk.specs.Lines.{AppendsBeginning}
use Rattle.custody_machine.specs.Texts.{failure_text, refusal_text}
use Rattle.custody_records.specs.RowsOfRecords.{text_of_lines}
use Rattle.custody.specs.declared.answers.Record.{Record}
use Rattle.custody.specs.declared.answers.Record.TheVariants as record_of
use Rattle.custody.specs.declared.answers.Refused.{Refused}
use Rattle.custody.specs.declared.answers.Refused.TheVariants as refused
use Rattle.custody.specs.declared.answers.Reply.{Reply}
use Rattle.answer_lines.specs.Lines.{line_text}
use Rattle.answer_lines.specs.declared.lines.Line.{Line}
use Rattle.answer_lines.specs.declared.lines.Line.TheVariants as line

-- a text and its line feed
abbrev pub as_line : List ℕ → List ℕ
as_line text = text ++ 10 ∷ []

-- what a writer holds grows by the text as a line
abbrev pub PrintsLine : Option (List ℕ) → Option (List ℕ) → List ℕ → Type 0
PrintsLine before after text = Appends before after (as_line text)

-- the line of a record; that of a hold has no lifting in it, so that it is the same before the lifting and after it
abbrev pub line_of : Record → Line
line_of (record_of.Registry tld first_day) = line.Registered tld first_day
line_of (record_of.Part name received len digest extents) = line.Received name len received
line_of (record_of.Notice notice) = line.Notice notice
line_of (record_of.Release release) = line.Released release.reference release.tld release.reason release.at (length release.names)
line_of (record_of.Hold hold) = line.Held hold.reference hold.tld hold.day hold.at
line_of (record_of.Lifting reference at) = line.Lifted reference at
line_of (record_of.Purge count) = line.Purged count

-- the names that a record lists, one a line
abbrev pub names_behind : Record → List ℕ
names_behind (record_of.Release release) = text_of_lines release.names
names_behind told = []

-- all that is printed of a record: its line, and the names that it lists
abbrev pub reply_text : Record → List ℕ
reply_text told = as_line (line_text (line_of told)) ++ names_behind told

-- what a writer held before a call, and what it holds after it
pub record Writer : Type 0 where
  pub before : Option (List ℕ)
  pub after : Option (List ℕ)

-- it was given a beginning of the text
abbrev pub WritesBeginning : Writer → List ℕ → Type 0
WritesBeginning w text = AppendsBeginning w.before w.after text

-- it was given a beginning of the text, and with this status all of it
abbrev pub WritesWholeAt : Writer → List ℕ → (done status : ℕ) → Type 0
WritesWholeAt w text done status = (status ≡ done → Appends w.before w.after text) × WritesBeginning w text

-- it was given nothing
abbrev pub IsUnused : Writer → Type 0
IsUnused w = w.after ≡ w.before

-- What is printed of a reply goes to the output alone, and that of a refusal or of a failure to the errors alone: with status 0 the first stands there whole, with status 1 the second, and whatever the status a beginning of it.
abbrev pub IsAnswerPrinted : Result Reply Refused → ℕ → Writer → Writer → Type 0
IsAnswerPrinted (Ok reply) status output errors = WritesWholeAt output (reply_text reply.record) 0 status × IsUnused errors
IsAnswerPrinted (Err (refused.Refusal why)) status output errors = WritesWholeAt errors (as_line (refusal_text why)) 1 status × IsUnused output
IsAnswerPrinted (Err (refused.Failure why)) status output errors = WritesBeginning errors (as_line (failure_text why)) × IsUnused output
