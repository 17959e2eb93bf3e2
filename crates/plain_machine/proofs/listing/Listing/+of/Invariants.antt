use Rattle.std.proofs.Common.{length}
use Rattle.plain_machine.proofs.listing.Listing.+of.Given as goal

abbrev pub decreases-of : goal.decreases-of
decreases-of l = length l.parts.now
