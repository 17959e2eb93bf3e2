-- What stands at a place of a text.
use Rattle.std.proofs.Common.{◌≡◌, ℕ, List, Option, Some, None, Bor, sym, ap, ◌∙◌}
use Rattle.std.specs.Option.{option_copied}
use Rattle.std.specs.Prelude.{slice_get}
use Rattle.std.specs.Slice.{IsItemAt}
use Rattle.std.proofs.lemmas.Option.{slice_get_past, slice_get-get_or}

pub slice_get-copied : (t : List ℕ) (i : ℕ) (found : Option (Bor ℕ)) → IsItemAt t i found → slice_get t i ≡ option_copied found
slice_get-copied t i None h = slice_get_past t i h.3
slice_get-copied t i (Some b) h = slice_get-get_or t i b.now h.3.0 ∙ ap Some (sym h.1)
