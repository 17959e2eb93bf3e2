use Rattle.std.proofs.Common.{◌≡◌, take}
use Rattle.std.specs.List.{filter_map}
use Rattle.plain_machine.specs.inside.Listing.{listed_name}
use Rattle.plain_machine.proofs.listing.names_in.Given as goal

abbrev pub invariant-loop-row : goal.invariant-loop-row
invariant-loop-row l = l.names ≡ filter_map (listed_name l.tld) (take l.row-index l.rows)
