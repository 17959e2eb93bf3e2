use Rattle.std.proofs.Common.{◌∙◌, sym, ap}
use Rattle.std.specs.Prelude.{option_map}
use Rattle.plain_machine.specs.Plain.{part_view}
use Rattle.plain_machine.proofs.PlainMaps.{part_shows, map_twice}
use Rattle.plain_machine.proofs.state.PlainState.part_at.Goals as goal

pub returns : goal.returns
returns c = map_twice (λ p. p.now) part_view c.find_part.result ∙ ap (option_map part_view) c.find_part.ensures ∙ sym (part_shows _ c.args.self.now.parts.items)
