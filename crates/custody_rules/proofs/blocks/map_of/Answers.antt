use Rattle.std.proofs.Common.{List, Err, ◌∙◌, ap, sym, subst}
use Rattle.vault_volume.specs.Extents.{AreApart}
use Rattle.extent_map.specs.Extents.{IsFreeOf}
use Rattle.extent_map.specs.Map.{IsFree}
use Rattle.extent_map.specs.declared.extent.Extent.{Extent}
use Rattle.custody_records.specs.MemoryRecords.{records_of}
use Rattle.custody_records.specs.RegistryRows.{rows_left}
use Rattle.custody_rules.specs.Blocks.{extents_of_all}
use Rattle.custody_rules.proofs.PartBlocks.{free_placeable, once_rows, rows_once}
use Rattle.custody_rules.proofs.blocks.map_of.Goals as goal

pub returns-in-Ok-from_used-clause-once : goal.returns-in-Ok-from_used-clause-once
returns-in-Ok-from_used-clause-once c =
    let used = c.deref.ensures.value ∙ c.in-Ok.ensures in
    rows_once (records_of c.args.records.now) (rows_left c.parts.result) c.parts.ensures.all c.parts.ensures.rising (subst (λ (es : List Extent). AreApart es) used c.in-Ok-from_used.ensures.apart)

pub returns-in-Ok-from_used-clause-map : goal.returns-in-Ok-from_used-clause-map
returns-in-Ok-from_used-clause-map c =
    let records = records_of c.args.records.now in
    let free = IsFree c.in-Ok-from_used.map in
    let used = c.deref.ensures.value ∙ c.in-Ok.ensures in
    let exact = subst (λ n. IsFreeOf n (extents_of_all (rows_left c.parts.result)) free) c.blocks-2.ensures
    (subst (λ (es : List Extent). IsFreeOf c.blocks-2.result es free) used c.in-Ok-from_used.ensures.exact) in
    record {
      size = c.in-Ok-from_used.ensures.size ∙ c.blocks-2.ensures;
      free = free_placeable records (rows_left c.parts.result) c.parts.ensures.all c.parts.ensures.rising free exact;
    }

pub returns-in-Err-Overlap-clause-failure : goal.returns-in-Err-Overlap-clause-failure
returns-in-Err-Overlap-clause-failure c = (
  c.requires,
  λ once.
      let used = c.deref.ensures.value ∙ c.in-Ok.ensures in
      (c.in-Err-Overlap.ensures.overlap (ap Err c.in-Err-Overlap.field-0-is)).1
      (subst (λ (es : List Extent). AreApart es) (sym used) (once_rows (records_of c.args.records.now) (rows_left c.parts.result) c.parts.ensures.all c.parts.ensures.rising once)),
)
