use Rattle.std.proofs.Common.{◌≡◌, ◌∙◌, List, ap, map, subst}
use Rattle.std.specs.Prelude.{IfOk}
use Rattle.std.specs.List.{filter}
use Rattle.std.specs.FinMap.{from_entries}
use Rattle.deposit_name.specs.Name.{Name}
use Rattle.plain_machine.specs.declared.state.PlainPart.{PlainPart}
use Rattle.plain_machine.specs.declared.listing.ListedPart.{ListedPart}
use Rattle.plain_machine.specs.inside.Listing.{is_first_at, listed_entry, listed_key}
use Rattle.plain_machine.specs.Plain.{state_view}
use Rattle.plain_machine.proofs.PlainChains.{names_passing}
use Rattle.plain_machine.proofs.state.PlainState.passed_first_names.Goals as goal

pub returns : goal.returns
returns c =
    let listing = c.in_ok-listing.listing in
    let test = is_first_at (state_view c.args.self.now) c.args.tld.now in
    subst (λ (all : List Name). IfOk c.names_of_firsts.result (λ names. names.items ≡ all))
    (ap (λ (rows : List ListedPart). map (λ (l : ListedPart). l.name) (filter (λ l. test (listed_key l)) rows)) c.parts.ensures
    ∙ names_passing test c.args.self.now.parts.items listing.rows.items listing.rising (c.in_ok-listing.ensures ∙ ap (λ (parts : List PlainPart). from_entries (map listed_entry parts)) c.deref.ensures.value)) c.names_of_firsts.ensures
