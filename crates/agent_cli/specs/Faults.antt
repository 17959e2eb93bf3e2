-- Faults of words: the names of arguments, the texts, and exit statuses.
use Rattle.std.specs.Prelude.{◌≡◌, ℕ, Bool, true, false, if◌then◌else◌, List, [], ◌∷◌, ◌++◌, Option, None, Some, codes}
use Rattle.clap.specs.Words.{kind_of}
use Rattle.clap.specs.declared.error.ErrorKind.{ErrorKind}
use Rattle.clap.specs.declared.error.ErrorKind.TheVariants.{DisplayHelp, DisplayVersion}
use Rattle.custody_machine.specs.Texts as machine
use Rattle.custody_machine.specs.declared.answers.Failure.TheVariants.{NoMemory}
use Rattle.agent_cli.specs.declared.order.Argument.{Argument}
use Rattle.agent_cli.specs.declared.order.Argument.TheVariants.{Tld, Date, First, Kind, Id, Reference, Ground, Number, Now}
use Rattle.agent_cli.specs.declared.order.WordFault.{WordFault}
use Rattle.agent_cli.specs.declared.order.WordFault.TheVariants as fault

abbrev pub argument_text : Argument → List ℕ
argument_text Tld = codes "TLD"
argument_text Date = codes "DATE"
argument_text First = codes "FIRST"
argument_text Kind = codes "KIND"
argument_text Id = codes "ID"
argument_text Reference = codes "REF"
argument_text Ground = codes "GROUND"
argument_text Number = codes "NUMBER"
argument_text Now = codes "NOW"

-- the text of a fault with its last line feed, which for words that `clap` does not take is that of `clap`
abbrev pub word_fault_text : WordFault → Option (List ℕ)
word_fault_text (fault.Words e) = None
word_fault_text (fault.Bad a) = Some (codes "bad value for " ++ argument_text a ++ 10 ∷ [])
word_fault_text fault.NoMemory = Some (machine.failure_text NoMemory ++ 10 ∷ [])

-- help or the version is asked for, which is no mistake
abbrev pub is_question : ErrorKind → Bool
is_question DisplayHelp = true
is_question DisplayVersion = true
is_question _ = false

abbrev pub IsStatusOf : WordFault → ℕ → Type 0
IsStatusOf (fault.Words e) n = n ≡ (if is_question (kind_of e) then 0 else 2)
IsStatusOf (fault.Bad a) n = n ≡ 2
IsStatusOf fault.NoMemory n = n ≡ 3
