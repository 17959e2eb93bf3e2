use Rattle.std.proofs.Common.{◌∙◌, sym}
use Rattle.plain_machine.proofs.PlainMaps.{registry_shows}
use Rattle.plain_machine.proofs.state.PlainState.first_day.Goals as goal

pub returns : goal.returns
returns c = c.find_registry.ensures ∙ sym (registry_shows c.args.tld.now c.args.self.now.registries.items)
