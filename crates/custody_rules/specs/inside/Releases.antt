-- The names that a release lists, as the rows of parts have them.
use Rattle.std.specs.Prelude.{◌≡◌, ℕ, List, [], ◌∷◌, Option, Some, None, true, is_some, if◌then◌else◌}
use Rattle.std.specs.List.{filter_map}
use Rattle.deposit_name.specs.Name.{IsName, name_text}
use Rattle.custody_records.specs.declared.parts.Part.{Part}

-- the name of a part whose bytes are held
abbrev pub held_part_name : Part → Option (List ℕ)
held_part_name part = if is_some part.extents then Some (name_text part.name) else None

-- the names of all of them
abbrev pub held_part_names : List Part → List (List ℕ)
held_part_names parts = filter_map held_part_name parts

-- each of these names is in form
abbrev pub AreInForm : List Part → Type 0
AreInForm [] = Unit {0}
AreInForm (part ∷ parts) = (is_some part.extents ≡ true → IsName part.name) × AreInForm parts
