-- How a hold is judged whose registry is known, by whether its day is out of range.
use Rattle.std.specs.Prelude.{ℕ, List, Bool, if◌then◌else◌}
use Rattle.custody_machine.specs.declared.answers.Refusal.{Refusal}
use Rattle.custody_machine.specs.declared.answers.Refusal.TheVariants.{DateOutOfRange, HoldReferenceUsed}
use Rattle.custody_machine.specs.Rulings.{Ruling, RefuseRuling, GoRuling, AddsHold}

-- of a new reference
abbrev pub new_hold_ruling : List ℕ → List ℕ → ℕ → Bool → Ruling
new_hold_ruling reference tld day is_out = if is_out then RefuseRuling DateOutOfRange else GoRuling (AddsHold reference tld day)

-- of a reference of another registry or day
abbrev pub used_refusal : Bool → Refusal
used_refusal is_out = if is_out then DateOutOfRange else HoldReferenceUsed
