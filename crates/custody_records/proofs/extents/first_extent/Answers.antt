use Rattle.std.proofs.Common.{◌∷◌, List, sym, ◌∙◌, arith}
use Rattle.std.specs.Prelude.{option_map}
use Rattle.extent_map.specs.declared.extent.Extent.{Extent}
use Rattle.custody_records.specs.Form.{blob_extents}
use Rattle.custody_records.proofs.ReadLemmas.{drop_range, extents_first}
use Rattle.custody_records.proofs.extents.first_extent.Goals as goal

pub returns-clause-first : goal.returns-clause-first
returns-clause-first c =
    extents_first c.args.bytes.now (omega arith)
    ∙ (λ i. option_map (λ (more : List Extent). record { start = sym c.from_be_bytes.ensures i; count = sym c.from_be_bytes-2.ensures i } ∷ more) (blob_extents (sym (drop_range 8 c.args.bytes.now) i)))
