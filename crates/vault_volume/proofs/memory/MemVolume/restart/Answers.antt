use Rattle.std.proofs.Common.{◌≡◌, ◌∙◌, ℕ, List, length, get_or, refl, rules, sym, ap, arith}
use Rattle.std.specs.Vec.{with_items}
use Rattle.std.proofs.lemmas.List.{with_items_is}
use Rattle.vault_volume.proofs.RoomLemmas.{found, filled, settled_anew}
use Rattle.vault_volume.proofs.memory.MemVolume.restart.Goals as goal

-- the same bytes have the same byte at a place
at : (i : ℕ) (xs ys : List ℕ) → xs ≡ ys → get_or xs i 0 ≡ get_or ys i 0
at i xs ys same = ap (λ (l : List ℕ). get_or l i 0) same

pub returns : goal.returns
returns c =
    let old = c.args.self.now in
    let long = c.leave.auto.image ∙ ap length c.deref_mut.ensures.value ∙ sym old.start.ok.0 in
    let first = with_items_is old.start c.leave.new.image long in
    let second = with_items_is (with_items old.start c.leave.new.image) c.leave_unsettled.new.image (c.leave_unsettled.auto.image ∙ ap length c.deref_mut-2.ensures.value ∙ ap length first ∙ long) in
    let start = c.copy_from_slice.ensures.items ∙ c.deref-3.ensures.value in
    let anew = c.forget.ensures in
    let image = anew.image ∙ start in
    let left = rw (c.deref.ensures.value, c.deref_mut.ensures.value) at c.leave.ensures in
    let elsewhere = λ (i : ℕ) (none : get_or old.opened.items i 0 ≡ 0).
    at i _ _ (start ∙ second) ∙ c.leave_unsettled.ensures.elsewhere i (at i _ _ c.deref-2.ensures.value ∙ none) ∙ at i _ _ (c.deref_mut-2.ensures.value ∙ first) in
    record {
      restarted = record {
        found = rw anew.image (found old.start.items old.calls.items old.opened.items old.refused old.opened_by_then c.leave.new.image c.copy_from_slice.new.self.items left.left
            (ap length (start ∙ second) ∙ c.leave_unsettled.auto.image ∙ ap length (c.deref_mut-2.ensures.value ∙ first)) elsewhere);
        settled = settled_anew _ c.forget.new.self.calls.items c.forget.new.self.opened.items c.forget.new.self.refused c.forget.new.self.image.items anew.calls anew.refused (image ∙ sym anew.start);
        same_size = anew.blocks;
      };
      filled = rw anew.image (filled old.start.items old.calls.items old.opened.items old.refused old.opened_by_then c.leave.new.image c.copy_from_slice.new.self.items c.args.fill.now left.filled
          (λ i some. at i _ _ (start ∙ second) ∙ c.leave_unsettled.ensures.filled i (omega (arith, at i _ _ c.deref-2.ensures.value))) elsewhere);
      failures = search rules;
      calls = search rules;
      script = search rules;
    }
