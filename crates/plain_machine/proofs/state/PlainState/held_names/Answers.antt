use Rattle.std.proofs.Common.{◌≡◌, ◌∙◌, List, ap, map, subst}
use Rattle.std.specs.FinMap.{from_entries}
use Rattle.plain_machine.specs.declared.state.PlainPart.{PlainPart}
use Rattle.plain_machine.specs.inside.Listing.{listed_entry}
use Rattle.std.specs.Prelude.{IfOk}
use Rattle.plain_machine.proofs.PlainReleases.{names_listed}
use Rattle.plain_machine.proofs.state.PlainState.held_names.Goals as goal

pub returns : goal.returns
returns c =
    let listing = c.in_ok-listing.listing in
    subst (λ listed. IfOk c.held_names.result (λ names. names ≡ listed)) (names_listed c.args.tld.now c.args.self.now.parts.items listing.rows.items listing.rising (c.in_ok-listing.ensures ∙ ap (λ (parts : List PlainPart). from_entries (map listed_entry parts)) c.deref.ensures.value)) c.held_names.ensures
