use Rattle.std.proofs.Common.{◌∙◌, sym, ap, Some, Vec, Global}
use Rattle.std.specs.Prelude.{option_map}
use Rattle.extent_map.specs.declared.extent.Extent.{Extent}
use Rattle.custody_records.specs.MemoryRecords.{records_of}
use Rattle.custody_records.specs.TypedRecords.{part_value, release_value}
use Rattle.custody_rules.proofs.Fetched.{released_as, lacking, dropped, held}
use Rattle.custody_rules.proofs.fetching.find_released.Goals as goal

pub returns-then-not-has_name-clause-refused : goal.returns-then-not-has_name-clause-refused
returns-then-not-has_name-clause-refused c = λ image.
    lacking (records_of c.args.records.now) c.args.reference.now c.args.name.now image (release_value c.in-Some.release.now) (sym c.in-Some.ensures.found) (sym c.has_name.ensures ∙ c.if-not-has_name.true)

pub part_named-part-requires : goal.part_named-part-requires
part_named-part-requires c =
    released_as (records_of c.args.records.now) c.args.reference.now c.args.name.now (release_value c.in-Some.release.now) c.requires (sym c.in-Some.ensures.found) (sym c.has_name.ensures ∙ c.if-not-has_name.false)

pub returns-in-Some-extents-clause-found : goal.returns-in-Some-extents-clause-found
returns-in-Some-extents-clause-found c =
    let named = c.part_named-part.ensures in
    let is = ap (option_map (λ (v : Vec Extent Global). v.items)) c.in-Some-extents.is ∙ ap Some (sym c.deref.ensures.value) in
    record {
      recorded = named;
      held = is;
      bytes = λ image. held (records_of c.args.records.now) c.args.reference.now c.args.name.now image (release_value c.in-Some.release.now) (sym c.in-Some.ensures.found) (sym c.has_name.ensures ∙ c.if-not-has_name.false)
          (part_value c.part_named-part.result.now) named c.deref.result.now is;
    }

pub returns-in-None-clause-refused : goal.returns-in-None-clause-refused
returns-in-None-clause-refused c = λ image.
    dropped (records_of c.args.records.now) c.args.reference.now c.args.name.now image (release_value c.in-Some.release.now) (sym c.in-Some.ensures.found) (sym c.has_name.ensures ∙ c.if-not-has_name.false) (part_value c.part_named-part.result.now) c.part_named-part.ensures
    (ap (option_map (λ (v : Vec Extent Global). v.items)) c.in-None.is)
