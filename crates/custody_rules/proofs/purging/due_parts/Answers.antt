use Rattle.std.proofs.Common.{◌≡◌, ◌∙◌, ◌++◌, List, ap, sym, subst}
use Rattle.std.specs.Prelude.{All, filter, map}
use Rattle.std.proofs.lemmas.List.{append-nil}
use Rattle.vault_volume.specs.Extents.{IsExtentOf, IsInAny, AreApart}
use Rattle.extent_map.specs.declared.extent.Extent.{Extent}
use Rattle.custody_records.specs.MemoryRecords.{records_of}
use Rattle.custody_records.specs.RegistryRows.{rows_left}
use Rattle.custody_records.specs.TypedRecords.{key_of_part}
use Rattle.custody_records.specs.declared.parts.Part.{Part}
use Rattle.custody_rules.proofs.PartBlocks.{in_range_rows, once_rows}
use Rattle.custody_rules.proofs.DueBlocks.{apart_due, due_extents, due_rows, each_due, is_due_row, keys_of_rows, rows_due}
use Rattle.custody_rules.proofs.purging.due_parts.Goals as goal

pub returns-clause-keys : goal.returns-clause-keys
returns-clause-keys c =
    let records = records_of c.args.records.now in
    let keys_of : List Part → List _ = λ rows. map key_of_part (filter (is_due_row records.holds c.args.today) rows) in
    let gathered = c.loop-part.keys.items in
    sym (append-nil gathered)
    ∙ ap (λ (left : List Part). gathered ++ keys_of left) (sym c.in-None.ensures.steps.0)
    ∙ c.loop-part.invariant.keys
    ∙ ap (λ it. keys_of (rows_left it)) c.into_iter-part-iterator.ensures.into_iter_gives
    ∙ keys_of_rows c.args.today records (rows_left c.parts-part-items.result) c.parts-part-items.ensures.all c.parts-part-items.ensures.rising

-- the extents of all rows that are due
all_due : (c : goal.After-drop-on_hold-2) → c.loop-part.extents.items ≡ due_extents (records_of c.args.records.now).holds c.args.today (rows_left c.parts-part-items.result)
all_due c =
    let extents_in : List Part → List Extent = due_extents (records_of c.args.records.now).holds c.args.today in
    let gathered = c.loop-part.extents.items in
    sym (append-nil gathered)
    ∙ ap (λ (left : List Part). gathered ++ extents_in left) (sym c.in-None.ensures.steps.0)
    ∙ c.loop-part.invariant.extents
    ∙ ap (λ it. extents_in (rows_left it)) c.into_iter-part-iterator.ensures.into_iter_gives

pub returns-clause-exact : goal.returns-clause-exact
returns-clause-exact c b =
    let today = c.args.today in
    let records = records_of c.args.records.now in
    let rows = rows_left c.parts-part-items.result in
    let all = c.parts-part-items.ensures.all in
    let rising = c.parts-part-items.ensures.rising in (
      λ there. due_rows today records rows all rising b (subst (λ (es : List Extent). IsInAny es b) (all_due c) there),
      λ due. subst (λ (es : List Extent). IsInAny es b) (sym (all_due c)) (rows_due today records rows all rising b due),
    )

pub returns-clause-in_range : goal.returns-clause-in_range
returns-clause-in_range c =
    let records = records_of c.args.records.now in
    let rows = rows_left c.parts-part-items.result in
    subst (All (IsExtentOf records.blocks)) (sym (all_due c))
    (each_due records.holds c.args.today records.blocks rows (in_range_rows records rows c.parts-part-items.ensures.all c.parts-part-items.ensures.rising c.requires.range))

pub returns-clause-apart : goal.returns-clause-apart
returns-clause-apart c =
    let records = records_of c.args.records.now in
    let rows = rows_left c.parts-part-items.result in
    subst (λ (es : List Extent). AreApart es) (sym (all_due c))
    (apart_due records.holds c.args.today rows (once_rows records rows c.parts-part-items.ensures.all c.parts-part-items.ensures.rising c.requires.once))
