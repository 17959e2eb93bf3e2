-- The parts in the order of their places, each with whether its bytes are held.
use Rattle.std.specs.Prelude.{ℕ, List, Option, None, Some, Bool, not, ◌&&◌, ◌==◌, if◌then◌else◌, bytes_eq}
use Rattle.std.specs.FinMap.{FinMap}
use Rattle.deposit_name.specs.declared.kinds.Kind.{Kind}
use Rattle.deposit_name.specs.Name.{name_text}
use Rattle.custody_records.specs.Keys.{PartKey, part_cmp}
use Rattle.custody_records.specs.Records.{key_of}
use Rattle.custody_records.specs.Tables.{table_map}
use Rattle.custody_machine.specs.Machine.{are_bytes_dropped, is_receipt_of}
use Rattle.custody_machine.specs.State.{State, Part, has_notice}
use Rattle.plain_machine.specs.declared.state.PlainPart.{PlainPart}
use Rattle.plain_machine.specs.declared.listing.ListedPart.{ListedPart}
use Rattle.plain_machine.specs.Plain.{part_view}

abbrev pub listed_key : ListedPart → PartKey
listed_key l = key_of l.name

abbrev pub listed_value : ListedPart → Kind × Bool
listed_value l = (l.name.kind, l.is_held)

abbrev pub listing_view : List ListedPart → FinMap part_cmp (Kind × Bool)
listing_view = table_map part_cmp listed_key listed_value

-- what is listed of a part
abbrev pub listed_value_of : Part → Kind × Bool
listed_value_of part = (part.kind, not (are_bytes_dropped part.content))

abbrev pub listed_entry : PlainPart → PartKey × (Kind × Bool)
listed_entry p = (key_of p.name, listed_value_of (part_view p))

-- the name of a part of the registry whose bytes are held
abbrev pub listed_name : List ℕ → ListedPart → Option (List ℕ)
listed_name tld l = if bytes_eq l.name.tld tld && l.is_held then Some (name_text l.name) else None

-- a place is that of the first part of a registry's deposit that passed
abbrev pub is_first_at : State → List ℕ → PartKey → Bool
is_first_at state tld key = bytes_eq key.tld tld && (key.part == 1 && has_notice state.notices tld key.day (is_receipt_of key.rev))
