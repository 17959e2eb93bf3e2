-- The lines of a batch: each has the words of a call, without the program's name and the folder.
use Rattle.std.specs.Prelude.{◌≡◌, ◌<◌, ◌≤◌, ◌==◌, ◌++◌, ℕ, Bool, true, false, if◌then◌else◌, List, [], ◌∷◌, length, Option, None, Some, Ok, Err, IfSome, IsSomeAnd, IsUtf8, codes}
use Rattle.std.specs.Char.{is_whitespace, is_not_whitespace}
use Rattle.std.specs.Str.{EmptyOrStartsWithPassing, NoCharPasses}
use Rattle.clap.specs.Words.{Text}
use Rattle.agent_cli.specs.Order.{AnswersReading, ReadsWords}
use Rattle.agent_cli.specs.declared.lines.LineFault.{LineFault}
use Rattle.agent_cli.specs.declared.lines.LineFault.TheVariants as line
use Rattle.agent_cli.specs.declared.order.Deed.{Deed}
use Rattle.agent_cli.specs.declared.order.Deed.TheVariants as deed
use Rattle.agent_cli.specs.declared.order.Order.{Order}
use Rattle.agent_cli.specs.declared.order.WordFault.TheVariants as fault

-- so many bytes a line may have
abbrev pub longest_line : ℕ
longest_line = 65_536

-- a byte before lines begins the first of them
abbrev pub before_lines : ℕ → List (List ℕ) → List (List ℕ)
before_lines b [] = (b ∷ []) ∷ []
before_lines b (first ∷ others) = (b ∷ first) ∷ others

-- the lines of bytes: each ends before a line feed, and the last one there or with the bytes
abbrev pub batch_lines : List ℕ → List (List ℕ)
batch_lines [] = []
batch_lines (b ∷ bytes) = if b == 10 then [] ∷ batch_lines bytes else before_lines b (batch_lines bytes)

-- Of bytes that are known, no line is left; or this is the first, and the others are left. Of a line that is too long this is a beginning that is too long.
abbrev pub ReadsLine : (old : Option (List ℕ)) → Option (List ℕ) → (new : Option (List ℕ)) → Type 0
ReadsLine old None new = IfSome old (λ bytes. batch_lines bytes ≡ [])
ReadsLine old (Some text) new = IfSome old (λ bytes.
    (length text ≤ longest_line → IsSomeAnd new (λ rest. batch_lines bytes ≡ text ∷ batch_lines rest))
    × (longest_line < length text → (more : List ℕ) × (others : List (List ℕ)) × (batch_lines bytes ≡ (text ++ more) ∷ others)))

-- a text is white space, the word and the rest, which is empty or begins with white space
pub record BeginsWithWord (text word rest : List ℕ) : Type 0 where
  pub gap : List ℕ
  pub split : text ≡ gap ++ (word ++ rest)
  pub nonempty : 0 < length word
  pub gap_is_white : NoCharPasses is_not_whitespace gap
  pub word_has_no_white : NoCharPasses is_whitespace word
  pub rest_begins_white : (more : List ℕ) × EmptyOrStartsWithPassing is_whitespace rest more

-- these are the words of a text, parted by white space
abbrev pub SplitsIntoWords : List ℕ → List Text → Type 0
SplitsIntoWords text [] = NoCharPasses is_not_whitespace text
SplitsIntoWords text (word ∷ words) = (rest : List ℕ) × BeginsWithWord text word rest × SplitsIntoWords rest words

-- the words of the call that the words of a line give: the program's name, the first of them, the folder and the others
abbrev pub call_words : (folder : Text) → List Text → List Text
call_words folder [] = codes "escrow" ∷ []
call_words folder (word ∷ words) = codes "escrow" ∷ word ∷ folder ∷ words

-- a line is a text that is not too long, and gives a call of these words
pub record GivesCall (folder : Text) (text : List ℕ) (words : List Text) : Type 0 where
  pub fits : length text ≤ longest_line
  pub is_text : IsUtf8 text
  pub own : List Text
  pub has : SplitsIntoWords text own
  pub words_are : words ≡ call_words folder own

-- it is a whole call, and so no order of a batch
abbrev pub is_whole_call : Deed → Bool
is_whole_call deed.Batch = true
is_whole_call (deed.Serve port requests until_closed) = true
is_whole_call other = false

-- words ask for this order of a batch
abbrev pub AskInBatch : List Text → Order → Type 0
AskInBatch words order = AnswersReading (ReadsWords words) (Ok order) × (is_whole_call order.deed ≡ false)

-- words ask for no order of a batch, and this is why; or there is no memory to read them
abbrev pub AskNoOrder : List Text → LineFault → Type 0
AskNoOrder words line.WholeCall = (order : Order) × AnswersReading (ReadsWords words) (Ok order) × (is_whole_call order.deed ≡ true)
AskNoOrder words (line.Words why) = AnswersReading (ReadsWords words) (Err why)
AskNoOrder words other = ⊥

-- a line is no order, and this is why; or there is no memory to read it
abbrev pub IsNoOrder : (folder : Text) → List ℕ → LineFault → Type 0
IsNoOrder folder text line.TooLong = longest_line < length text
IsNoOrder folder text line.NoText = ¬ IsUtf8 text
IsNoOrder folder text (line.Words fault.NoMemory) = Unit {0}
IsNoOrder folder text why = (words : List Text) × GivesCall folder text words × AskNoOrder words why

-- a batch ends with 2 at a line that is no order, and with 3 where there is no memory to read one
abbrev pub line_fault_status : LineFault → ℕ
line_fault_status (line.Words fault.NoMemory) = 3
line_fault_status why = 2
