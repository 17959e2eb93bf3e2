-- The command `escrow`, as clap's builders make it. Help and the names of values are no part of it.
use Rattle.std.specs.Prelude.{◌≡◌, ℕ, Bool, true, false, List, [], ◌∷◌, Some, unwrap_or, codes, fold, map, pos}
use Rattle.std.specs.Str.{bytes_eq}
use Rattle.clap.specs.Words.{App, Row, Rule, Shape, Text, fault_of, first_of, is_simple_and_free, new_app, new_rule, subcommand_of, with_rule, with_subcommand}
use Rattle.clap.specs.declared.builder.ValueParser.TheVariants.{Signed}
use Rattle.clap.specs.declared.builder.action.ArgAction.TheVariants.{SetTrue}
use Rattle.agent_cli.specs.declared.subcommands.WordForm.{WordForm}
use Rattle.agent_cli.specs.declared.subcommands.WordForm.TheVariants.{Place, Option, Count, Flag}
use Rattle.agent_cli.specs.declared.subcommands.Subcommand.{Subcommand}
use Rattle.agent_cli.specs.declared.subcommands.Subcommand.TheVariants.{Init, Register, Put, Preview, Verify, Due, Sweep, Purge, Hold, Lift, Release, Fetch, Report, Explain, Digests, State, Audit, Batch, Serve}
use Rattle.agent_cli.specs.declared.subcommands.Word.{Word}
use Rattle.extent_map.specs.Limits.{fewest_blocks, most_blocks}

-- a positional argument, which has to be there
abbrev pub positional_rule : Text → Rule
positional_rule id = record (new_rule id) { required = true }

-- `--id VALUE`
abbrev pub option_rule : Text → Bool → Rule
option_rule id required = record (new_rule id) { long = Some id; value_names = 1; required = required }

-- the same, where the value is a number within bounds
abbrev pub count_rule : Text → ℕ → ℕ → Bool → Rule
count_rule id least most required = record (option_rule id required) { parser = Some (Signed (pos least) (pos most)) }

-- `--id`, without a value
abbrev pub flag_rule : Text → Rule
flag_rule id = record (new_rule id) { long = Some id; action = Some SetTrue }

-- an argument of the table
abbrev pub rule_in : Word → Rule
rule_in word = by word.form
  where
    by : WordForm → Rule
    by Place = positional_rule word.id.now
    by (Option value required) = option_rule word.id.now required
    by (Count least most required) = count_rule word.id.now least most required
    by Flag = flag_rule word.id.now

abbrev pub folder_rule : Rule
folder_rule = positional_rule (codes "DIR")

abbrev pub tld_rule : Rule
tld_rule = positional_rule (codes "TLD")

abbrev pub now_rule : Rule
now_rule = option_rule (codes "now") false

-- the greatest number that `sweep --at-most` takes
abbrev pub most_absences : ℕ
most_absences = 1_000_000

-- what is stated of a deposit: `DIR TLD --date DATE --kind KIND --revision N --parts N --id ID [--now MOMENT]`
abbrev pub statement_rules : List Rule
statement_rules =
    folder_rule ∷ tld_rule ∷ option_rule (codes "date") true ∷ option_rule (codes "kind") true
    ∷ count_rule (codes "revision") 0 99 true ∷ count_rule (codes "parts") 1 8 true ∷ option_rule (codes "id") true ∷ now_rule ∷ []

-- the name of a subcommand, and its arguments
abbrev pub words_of : Subcommand → Text × List Rule
-- `init DIR --blocks N --number HEX16`
words_of Init = (codes "init", folder_rule ∷ count_rule (codes "blocks") fewest_blocks most_blocks true ∷ option_rule (codes "number") true ∷ [])
-- `register DIR TLD --first DATE`
words_of Register = (codes "register", folder_rule ∷ tld_rule ∷ option_rule (codes "first") true ∷ [])
-- `put DIR FILE [--now MOMENT]`
words_of Put = (codes "put", folder_rule ∷ positional_rule (codes "FILE") ∷ now_rule ∷ [])
words_of Preview = (codes "preview", statement_rules)
words_of Verify = (codes "verify", statement_rules)
-- `due DIR [--now MOMENT]`
words_of Due = (codes "due", folder_rule ∷ now_rule ∷ [])
-- `sweep DIR [--at-most N] [--now MOMENT]`
words_of Sweep = (codes "sweep", folder_rule ∷ count_rule (codes "at-most") 0 most_absences false ∷ now_rule ∷ [])
-- `purge DIR [--now MOMENT]`
words_of Purge = (codes "purge", folder_rule ∷ now_rule ∷ [])
-- `hold DIR REF TLD --date DATE [--now MOMENT]`
words_of Hold = (codes "hold", folder_rule ∷ positional_rule (codes "REF") ∷ tld_rule ∷ option_rule (codes "date") true ∷ now_rule ∷ [])
-- `lift DIR REF [--now MOMENT]`
words_of Lift = (codes "lift", folder_rule ∷ positional_rule (codes "REF") ∷ now_rule ∷ [])
-- `release DIR REF TLD GROUND [--now MOMENT]`
words_of Release = (codes "release", folder_rule ∷ positional_rule (codes "REF") ∷ tld_rule ∷ positional_rule (codes "GROUND") ∷ now_rule ∷ [])
-- `fetch DIR REF NAME`
words_of Fetch = (codes "fetch", folder_rule ∷ positional_rule (codes "REF") ∷ positional_rule (codes "NAME") ∷ [])
-- `report DIR TLD`
words_of Report = (codes "report", folder_rule ∷ tld_rule ∷ [])
-- `explain DIR TLD --date DATE --revision N`
words_of Explain = (codes "explain", folder_rule ∷ tld_rule ∷ option_rule (codes "date") true ∷ count_rule (codes "revision") 0 99 true ∷ [])
-- `digests DIR TLD`
words_of Digests = (codes "digests", folder_rule ∷ tld_rule ∷ [])
-- `state DIR`
words_of State = (codes "state", folder_rule ∷ [])
-- `audit DIR`
words_of Audit = (codes "audit", folder_rule ∷ [])
-- `batch DIR`
words_of Batch = (codes "batch", folder_rule ∷ [])
-- `serve DIR --port P --requests N [--until-closed] [--now MOMENT]`
words_of Serve = (codes "serve", folder_rule ∷ count_rule (codes "port") 1 65_535 true ∷ count_rule (codes "requests") 1 1_000_000 true ∷ flag_rule (codes "until-closed") ∷ now_rule ∷ [])

abbrev pub subcommands : List Subcommand
subcommands = Init ∷ Register ∷ Put ∷ Preview ∷ Verify ∷ Due ∷ Sweep ∷ Purge ∷ Hold ∷ Lift ∷ Release ∷ Fetch ∷ Report ∷ Explain ∷ Digests ∷ State ∷ Audit ∷ Batch ∷ Serve ∷ []

abbrev pub is_named : Text → Subcommand → Bool
is_named name subcommand = bytes_eq (words_of subcommand).0 name

-- a subcommand as it is read
abbrev pub shape_in : Text → List Rule → Shape
shape_in name rules = (fold with_rule (new_app name) rules).top

abbrev pub shape : Subcommand → Shape
shape subcommand = shape_in (words_of subcommand).0 (words_of subcommand).1

-- a subcommand has to be named, and `--version` is asked of the command alone
abbrev pub bare_app : App
bare_app = record (new_app (codes "escrow")) {
  top = record (new_app (codes "escrow")).top { subcommand_required = true; has_version = true };
}

abbrev pub escrow_app : App
escrow_app = fold with_subcommand bare_app (map shape subcommands)

-- a command that takes and refuses these words as the whole one does
pub record ReadsAlike (app : App) (words : List Text) : Type 0 where
  pub top : app.top ≡ escrow_app.top
  pub simple : is_simple_and_free app ≡ true
  pub fault : fault_of app words ≡ fault_of escrow_app words
  pub met : subcommand_of app words ≡ subcommand_of escrow_app words

-- the first value of an argument, and the empty text where it has none
abbrev pub text_in : Text → List Row → Text
text_in id rows = unwrap_or (first_of id rows) []

-- whether a flag is among the words: its value is then the text `true`, and `false` where it is not
abbrev pub is_given : Text → List Row → Bool
is_given id rows = bytes_eq (text_in id rows) (codes "true")
