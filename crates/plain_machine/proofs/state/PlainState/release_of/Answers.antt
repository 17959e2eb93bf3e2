use Rattle.std.proofs.Common.{◌∙◌, sym, ap}
use Rattle.std.specs.Prelude.{option_map}
use Rattle.custody_records.specs.TypedRecords.{release_value}
use Rattle.plain_machine.proofs.PlainMaps.{map_twice}
use Rattle.plain_machine.proofs.PlainReleases.{found_under, release_shows}
use Rattle.plain_machine.proofs.state.PlainState.release_of.Goals as goal

pub returns-clause-found : goal.returns-clause-found
returns-clause-found c =
    map_twice (λ r. r.now) release_value c.find_release.result ∙ ap (option_map release_value) c.find_release.ensures ∙ sym (release_shows c.args.reference.now c.args.self.now.releases.items)

pub returns-clause-key : goal.returns-clause-key
returns-clause-key c = found_under (λ r. r.now) c.args.reference.now c.args.self.now.releases.items c.find_release.result c.find_release.ensures
