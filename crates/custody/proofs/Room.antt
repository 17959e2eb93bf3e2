-- How many blocks are free, and that a part that was received had room.
use Rattle.std.proofs.Common.{◌≡◌, ℕ, ◌+◌, ◌-◌, List, [], ◌∷◌, Option, Some, None, true, false, Result, Ok, Err, refl, sym, ◌∙◌, ap, subst}
use Rattle.std.specs.Prelude.{All, IfOk, sum_by, option_map}
use Rattle.std.specs.FinMap.{FinMap, entries}
use Rattle.std.proofs.lemmas.List.Elements.{All-head, All-tail}
use Rattle.std.proofs.lemmas.List.Sums.{sum_by-append, sum_by-cons}
use Rattle.sqlite.specs.Store.{Ghosts}
use Rattle.extent_map.specs.declared.extent.Extent.{Extent}
use Rattle.extent_map.proofs.CountLemmas.{Above0, Beside, count_free}
use Rattle.extent_map.proofs.RunLemmas.{count_over, count_same}
use Rattle.vault_volume.specs.Extents.{HasCount, blocks_of}
use Rattle.vault_volume.specs.Vault.{volume_of, IsFree}
use Rattle.vault_volume.specs.declared.volume.Volume as volume
use Rattle.vault_volume.proofs.FreeLemmas.{counted_in}
use Rattle.custody_records.specs.declared.parts.Part.{Part}
use Rattle.custody_records.specs.declared.records.Records as held
use Rattle.custody_records.specs.Keys.{PartKey, part_cmp}
use Rattle.custody_records.specs.Records.{PartRecord, Records, key_of}
use Rattle.custody_records.specs.RegistryRows.{all_rows}
use Rattle.custody_records.specs.Tables.{row_entries, is_rising, table_map}
use Rattle.custody_records.specs.TypedRecords.{key_of_part, part_value}
use Rattle.custody_records.specs.inside.Orders.{part_by_registry, part_exact, part_total}
use Rattle.custody_records.proofs.RegistryLemmas.{flat_rising}
use Rattle.custody_records.proofs.TableLemmas.{entries-table_map}
use Rattle.custody_machine.specs.Machine.{Command, Receive}
use Rattle.custody_machine.specs.StoredState.{ForExtents, AreExtents, AreWhole}
use Rattle.custody_machine.specs.Rulings.{AddsPart, Ruling, GoRuling, Decides}
use Rattle.custody_machine.specs.Custody.{IsInOrder, HasRoomForCommand}
use Rattle.custody_machine.proofs.Room.{room_for_part}
use Rattle.custody_rules.specs.Blocks.{IsInRange, extents_of_all, part_extents}
use Rattle.custody_rules.specs.Blocks as rules
use Rattle.custody_rules.proofs.PartBlocks.{each_extent, in_range_rows, once_rows, named_rows, rows_named}
use Rattle.custody.specs.declared.answers.Reply.{Reply}
use Rattle.custody.specs.declared.answers.Refused.{Refused}
use Rattle.custody.specs.declared.open_custody.OpenCustody.{OpenCustody}
use Rattle.custody.specs.RulingAnswers.{FollowsRuling, received_record}
use Rattle.custody.specs.OpenCustody.{current_records, KeepsOrder, HasExecuted}
use Rattle.custody.specs.Opening.{held_block_count, free_blocks}

sum_by-entries_of : {Row K X : Type 0} (key : Row → K) (value : Row → X) (f : K × X → ℕ) (rows : List Row) → sum_by f (row_entries key value rows) ≡ sum_by (λ row. f (key row, value row)) rows
sum_by-entries_of key value f [] = refl
sum_by-entries_of key value f (row ∷ rows) =
    sum_by-cons f (key row, value row) (row_entries key value rows) ∙ ap (λ n. f (key row, value row) + n) (sum_by-entries_of key value f rows) ∙ sym (sum_by-cons (λ row. f (key row, value row)) row rows)

-- how many blocks a part in memory has
abbrev pub blocks_of_part : Part → ℕ
blocks_of_part part = held_block_count part.len (option_map (λ v. v.items) part.extents)

pub blocks_of_parts : (parts : FinMap part_cmp PartRecord) (rows : List Part) → parts ≡ table_map part_cmp key_of_part part_value rows → is_rising part_cmp key_of_part rows ≡ true
    → sum_by (λ (entry : PartKey × PartRecord). held_block_count entry.1.len entry.1.extents) (entries parts) ≡ sum_by blocks_of_part rows
blocks_of_parts parts rows is rising =
    ap (λ m. sum_by (λ (entry : PartKey × PartRecord). held_block_count entry.1.len entry.1.extents) (entries m)) is
    ∙ ap (sum_by (λ (entry : PartKey × PartRecord). held_block_count entry.1.len entry.1.extents)) (entries-table_map part_cmp key_of_part part_value rows rising)
    ∙ sum_by-entries_of key_of_part part_value (λ entry. held_block_count entry.1.len entry.1.extents) rows

-- the blocks of the extents of all rows
blocks_of_row : (blocks len : ℕ) (o : Option (List Extent)) → ForExtents o (AreExtents blocks len) → blocks_of (rules.held_extents o) ≡ held_block_count len o
blocks_of_row blocks len None range = refl
blocks_of_row blocks len (Some extents) range = range.counts

blocks_of_rows : (blocks : ℕ) (rows : List Part) → All (IsInRange blocks) rows → blocks_of (extents_of_all rows) ≡ sum_by blocks_of_part rows
blocks_of_rows blocks [] each = refl
blocks_of_rows blocks (row ∷ rows) each =
    sum_by-append (λ (e : Extent). e.count) (part_extents row) (extents_of_all rows)
    ∙ ap (λ n. n + blocks_of (extents_of_all rows)) (blocks_of_row blocks row.len (part_value row).extents (All-head (IsInRange blocks) row rows each))
    ∙ ap (λ n. blocks_of_part row + n) (blocks_of_rows blocks rows (All-tail (IsInRange blocks) row rows each))
    ∙ sym (sum_by-cons blocks_of_part row rows)

-- the parts in memory stand in the order of their keys
pub rows_rise : (records : held.Records) → is_rising part_cmp key_of_part (all_rows records.parts) ≡ true
rows_rise records =
    flat_rising part_cmp key_of_part part_value part_total part_exact (λ r. r.tld) (λ r. r.rows.rows.items) (λ (key : PartKey). key.tld) (λ r. r.rows.rising) (λ r. r.own) part_by_registry records.parts.registries.items records.parts.rising

-- the free blocks are all but block 0 and those of the parts that are held
pub free_count : (records : Records) (rows : List Part) → records.parts ≡ table_map part_cmp key_of_part part_value rows → is_rising part_cmp key_of_part rows ≡ true
    → (size failures : ℕ) (free : ℕ → Type 0) → IsInOrder records size failures free → (count : ℕ) → HasCount free size count → count ≡ free_blocks records
free_count records rows all rising size failures free order count counted =
    let ranges = in_range_rows records rows all rising order.whole.extents in
    let extents = extents_of_all rows in
    let left = count_free records.blocks extents (each_extent records.blocks rows ranges) (once_rows records rows all rising order.whole.once) in
    let mine = count_over free (Beside (Above0 records.blocks) extents)
    (λ b. (λ f. let p = (order.placeable b).0 f in ((p.0, p.1), λ i. p.2 (rows_named records rows all rising b i)), λ w. (order.placeable b).1 (w.0.0, w.0.1, λ named. w.1 (named_rows records rows all rising b named))))
    records.blocks count (subst (λ n. HasCount free n count) order.blocks counted) in
    count_same (Beside (Above0 records.blocks) extents) records.blocks count (records.blocks - 1 - blocks_of extents) mine left
    ∙ ap (λ n. records.blocks - 1 - n) (blocks_of_rows records.blocks rows ranges ∙ sym (blocks_of_parts records.parts rows all rising))

-- a new part is accepted only where there is room
pub had_room : {V S : Type 0} {g : volume.Ghosts V} (database : Ghosts S) (old new : OpenCustody V S g) → KeepsOrder old → (command : Command) (now : ℕ) (answer : Result Reply Refused)
    → HasExecuted database old command now answer new → IfOk answer (λ reply. reply.is_repeat ≡ false → HasRoomForCommand (current_records old) command)
had_room database old new order command now (Err e) done = tt
had_room {V} {S} {g} database old new order (Receive text bytes) now (Ok reply) done = by done.ruled.0 done.ruled.1 done.ruled.2
  where
    by : (ruling : Ruling) → Decides ruling (current_records old) (Receive text bytes) now → FollowsRuling ruling (current_records old) bytes now (Ok reply) (current_records new) → reply.is_repeat ≡ false → HasRoomForCommand (current_records old) (Receive text bytes)
    by (GoRuling (AddsPart name)) decides ruled first =
        let counted = counted_in old.vault in
        let kept = done.safe.order refl in
        room_for_part (current_records old) (g.size (volume_of old.vault)) _ (IsFree old.vault) order counted.0 counted.1 (key_of name) (received_record name now bytes ruled.0) ruled.0 refl decides.0.1 (subst AreWhole ruled.3 kept.whole)
    by ruling decides ruled first = cc
had_room database old new order command now (Ok reply) done = λ _. tt
