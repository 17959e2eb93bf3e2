use Rattle.std.proofs.Common.{◌≡◌, [], ◌∷◌, Some, sym, ◌∙◌, ap, subst}
use Rattle.std.specs.FinMap.{get, insert}
use Rattle.std.specs.Prelude.{option_copied, option_map}
use Rattle.custody_records.specs.Keys.{part_cmp}
use Rattle.custody_records.specs.Purge.{record_without_bytes}
use Rattle.custody_records.specs.RegistryRows.{all_rows}
use Rattle.custody_records.specs.Tables.{table_map}
use Rattle.custody_records.specs.TypedRecords.{key_of_part, part_value}
use Rattle.custody_records.proofs.DropLemmas.{AreDropped, none_dropped, one_dropped}
use Rattle.custody_records.proofs.purging.RowsByRegistry+Part.drop_bytes_of.Goals as goal

pub returns-in-Some : goal.returns-in-Some
returns-in-Some c =
    let old = table_map part_cmp key_of_part part_value (all_rows c.args.self.now) in
    let sought = c.args.sought.now in
    let part = c.in-Some.part.now in
    let there : get old sought ≡ Some (part_value part) = sym c.find.ensures.found ∙ ap (λ found. option_map part_value (option_copied found)) c.in-Some.is in
    subst (AreDropped (sought ∷ []) old) (sym (c.replace.ensures ∙ ap (λ key. insert old key (record_without_bytes (part_value part))) c.in-Some.ensures.key)) (one_dropped old sought (part_value part) there)

pub returns-in_default : goal.returns-in_default
returns-in_default c =
    let old = table_map part_cmp key_of_part part_value (all_rows c.args.self.now) in
    none_dropped old c.args.sought.now (sym c.find.ensures.found ∙ ap (λ found. option_map part_value (option_copied found)) c.in_default.is)
