-- What is printed of refusals, failures and damage.
use Rattle.std.specs.Prelude.{ℕ, List, ◌++◌, codes}
use Rattle.deposit_name.specs.ErrorText.{name_error_text as name_fault_text}
use Rattle.custody_machine.specs.declared.answers.Refusal.{Refusal}
use Rattle.custody_machine.specs.declared.answers.Refusal.TheVariants.{NameRefused}
use Rattle.custody_machine.specs.declared.answers.Failure.{Failure}
use Rattle.custody_machine.specs.declared.answers.Failure.TheVariants.{Damaged}
use Rattle.custody_machine.specs.declared.damage.Damage.{Damage}
use Rattle.custody_machine.specs.declared.damage.Damage.TheVariants.{NoRecord, Head, Volume, Schema, Form, Extent, Overlap, Link, Digest}
use Rattle.custody_machine.specs.Codes.{CodeRow, failure_code, refusal_code, code_row_text}

abbrev pub damage_text : Damage → List ℕ
damage_text NoRecord = codes "H0"
damage_text Head = codes "H1"
damage_text Volume = codes "H2"
damage_text Schema = codes "H3"
damage_text Form = codes "H4"
damage_text Extent = codes "H5"
damage_text Overlap = codes "H6"
damage_text Link = codes "H7"
damage_text Digest = codes "H8"

-- The fault of a name stands between number and text.
abbrev pub refusal_text : Refusal → List ℕ
refusal_text (NameRefused fault) = named_text (refusal_code (NameRefused fault))
  where
    named_text : CodeRow → List ℕ
    named_text row = row.number ++ codes " " ++ name_fault_text fault ++ codes " " ++ row.text
refusal_text refusal = code_row_text (refusal_code refusal)

-- The number of a damage stands behind the text.
abbrev pub failure_text : Failure → List ℕ
failure_text (Damaged damage) = code_row_text (failure_code (Damaged damage)) ++ codes " " ++ damage_text damage
failure_text fault = code_row_text (failure_code fault)
