use Rattle.std.proofs.Common.{◌≡◌, take}
use Rattle.custody_rules.specs.inside.Releases.{AreInForm, held_part_names}
use Rattle.custody_rules.proofs.release_rules.held_part_names.Given as goal

abbrev pub invariant-loop-part : goal.invariant-loop-part
invariant-loop-part l = record { names : l.names ≡ held_part_names (take l.part-index l.parts); in_form : AreInForm (take l.part-index l.parts) }
