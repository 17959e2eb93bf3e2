use Rattle.std.proofs.Common.{List, ap, ◌∙◌, sym, rules, tests}
use Rattle.std.specs.List.{list_any}
use Rattle.std.proofs.lemmas.Iterator.{YieldsList-from_slice}
use Rattle.std.proofs.lemmas.Iterator.Search.{any_from_yields_List}
use Rattle.custody_records.specs.declared.holds.Hold.{Hold}
use Rattle.custody_records.specs.Keys.{text_cmp}
use Rattle.custody_records.specs.Purge.{is_hold_of_part}
use Rattle.custody_records.specs.Records.{key_of}
use Rattle.custody_records.specs.TypedRecords.{hold_entry, hold_key, hold_value}
use Rattle.custody_records.proofs.TableLemmas.{any_entries, entries-table_map}
use Rattle.plain_machine.proofs.holds.PlainHolds.hold.Goals as goal

pub returns : goal.returns
returns c =
    let test = is_hold_of_part (key_of c.args.part.now.name) in
    let rows = c.args.self.now.rows.items in
    any_from_yields_List (λ h. test (hold_entry h)) _ _ _ c.any.ensures.ran (YieldsList-from_slice c.deref.result.now cc) (λ x b q k. search (rules, tests))
    ∙ ap (λ (l : List Hold). list_any (λ h. test (hold_entry h)) l) c.deref.ensures.value
    ∙ sym (any_entries hold_key hold_value test rows)
    ∙ ap (list_any test) (sym (entries-table_map text_cmp hold_key hold_value rows c.args.self.now.rising))
