use Rattle.std.proofs.Common.{◌≡◌, map}
use Rattle.std.specs.Prelude.{count_by, is_some}
use Rattle.custody_records.specs.declared.parts.Part.{Part}
use Rattle.answer_lines.proofs.auditing.count_held_parts.Given as goal

abbrev pub invariant-loop-part : goal.invariant-loop-part
invariant-loop-part l = l.count ≡ count_by (λ (part : Part). is_some part.extents) (map (λ part. part.now) l.yielded)
