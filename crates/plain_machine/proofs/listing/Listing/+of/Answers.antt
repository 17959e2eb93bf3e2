use Rattle.std.proofs.Common.{◌∙◌, ap}
use Rattle.plain_machine.specs.inside.Listing.{listing_view}
use Rattle.plain_machine.specs.DistinctPlaces.{have_distinct_places}
use Rattle.plain_machine.proofs.PlainReleases.{front, none_listed, place_free}
use Rattle.plain_machine.proofs.listing.Listing.+of.Goals as goal

pub add-requires : goal.add-requires
add-requires t c =
    let part = c.first-item.result in
    record { new = place_free part _ c.in_ok-listing-in-len1-up.listing.rows.items c.row_of.result (ap have_distinct_places (front c.args.parts.now part c.in-len1-up.len_at_least c.first-item.is) ∙ c.requires) c.in_ok-listing-in-len1-up.ensures c.row_of.ensures }

pub returns-in-empty : goal.returns-in-empty
returns-in-empty t c = ap listing_view c.new.ensures.items ∙ none_listed c.args.parts.now c.in-empty.len_below
