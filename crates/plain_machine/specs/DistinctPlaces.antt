-- Parts of which each has a place of its own.
use Rattle.std.specs.Prelude.{◌&&◌, List, [], ◌∷◌, Bool, true, find, is_none}
use Rattle.custody_records.specs.Keys.{PartKey}
use Rattle.custody_records.specs.Records.{key_of}
use Rattle.custody_machine.specs.SameValues.{is_same_key}
use Rattle.plain_machine.specs.declared.state.PlainPart.{PlainPart}

abbrev pub is_at_key : PartKey → PlainPart → Bool
is_at_key key p = is_same_key (key_of p.name) key

-- no part has the place of one behind it
abbrev pub have_distinct_places : List PlainPart → Bool
have_distinct_places [] = true
have_distinct_places (p ∷ parts) = is_none (find (is_at_key (key_of p.name)) parts) && have_distinct_places parts
