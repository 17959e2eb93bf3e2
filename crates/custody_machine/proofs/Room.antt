-- Whether a part can be placed, by the blocks that are free.
use Rattle.std.proofs.Common.{◌≡◌, ℕ, List, Some, None, sym, ◌∙◌, ap, subst}
use Rattle.std.specs.FinMap.{get}
use Rattle.extent_map.specs.declared.extent.Extent.{Extent}
use Rattle.extent_map.proofs.CountLemmas.{has_blocks, lie_above0}
use Rattle.extent_map.proofs.RunLemmas.{count_over, not_both}
use Rattle.vault_volume.specs.Extents.{AllIn, AreApart, HasAtLeast, HasCount, HasFewer, block_count}
use Rattle.custody_records.specs.Keys.{PartKey}
use Rattle.custody_records.specs.inside.Orders.{part_total}
use Rattle.custody_records.specs.Records.{PartRecord, Records, with_part}
use Rattle.custody_machine.specs.StoredState.{ForExtents, AreExtents, HaveBlock, AreWhole, IsPartBlock}
use Rattle.custody_machine.specs.Custody.{IsPlaceable, HasRoomForBytes, IsInOrder}
use Rattle.custody_machine.proofs.Accepting.{insert_here}
use Rattle.custody_machine.proofs.Stored.{part_still}

module _ (records : Records) (size failures : ℕ) (free : ℕ → Type 0) (order : IsInOrder records size failures free) (len : ℕ) where
  pub no_room : HasFewer free size (block_count len) → ¬ HasRoomForBytes records len
  no_room few =
      let over = subst (λ n. HasFewer free n (block_count len)) order.blocks few in
      not_both (IsPlaceable records) records.blocks (block_count len) (over.0, count_over free (IsPlaceable records) order.placeable records.blocks over.0 over.1, over.2)

-- where records with one part more are whole, its part could be placed
module _ (records : Records) (size failures : ℕ) (free : ℕ → Type 0) (order : IsInOrder records size failures free) (count : ℕ) (counted : HasCount free size count)
    (key : PartKey) (part : PartRecord) (extents : List Extent) (held : part.extents ≡ Some extents) (fresh : get records.parts key ≡ None) (whole : AreWhole (with_part records key part)) where
  here : get (with_part records key part).parts key ≡ Some part
  here = insert_here part_total records.parts key part

  range : AreExtents records.blocks part.len extents
  range = subst (λ o. ForExtents o (AreExtents records.blocks part.len)) held (whole.extents key part here)

  lies : AllIn (IsPlaceable records) extents
  lies b within = let inside = lie_above0 records.blocks extents range.each b within in (inside.0, inside.1, λ named. apart named)
    where
      apart : IsPartBlock records b → ⊥
      apart named =
          let same = whole.once.between named.0 key named.1 part b (part_still records.parts key part fresh named.0 named.1 named.2) here named.3 (subst (λ o. HaveBlock o b) (sym held) within) in
          let clash : Some named.1 ≡ None = sym named.2 ∙ ap (get records.parts) same ∙ fresh in cc

  pub room_for_part : HasRoomForBytes records part.len
  room_for_part =
      let over = subst (λ n. HasCount free n count) order.blocks counted in
      subst (HasAtLeast (IsPlaceable records) records.blocks) range.counts
      (has_blocks extents (IsPlaceable records) records.blocks count range.each lies (subst (λ o. ForExtents o AreApart) held (whole.once.within key part here)) (count_over free (IsPlaceable records) order.placeable records.blocks count over))
