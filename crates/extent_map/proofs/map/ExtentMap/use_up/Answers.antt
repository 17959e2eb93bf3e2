use Rattle.std.proofs.Common.{◌≡◌, ℕ, ◌+◌, ◌-◌, ◌≤◌, [], ◌∷◌, ap, sym, subst, ◌∙◌, arith}
use Rattle.std.proofs.lemmas.List.{with_items_is}
use Rattle.extent_map.specs.Words.{one_count, IsOneIn}
use Rattle.extent_map.specs.Extents.{Takes}
use Rattle.extent_map.proofs.SetLemmas.{takes, AreInRange, taken_in_range}
use Rattle.extent_map.specs.Map.{IsFree}
use Rattle.extent_map.proofs.map.ExtentMap.use_up.Goals as goal

less : (a b c d : ℕ) → a + c ≡ b → d ≡ b → d - c ≡ a
less a b c d e f = omega arith

pub invariant_of-self-clause-in_range : goal.invariant_of-self-clause-in_range
unfolding IsFree
invariant_of-self-clause-in_range c =
    let map = c.args.self.now in
    let new = c.clear_run.new.words in
    let end = rw c.deref_mut.ensures.value at c.clear_run.ensures in
    let took = takes map.words.items new c.args.extent.now end.below end.above end.here c.requires.run in
    subst (AreInRange map.blocks) (sym (with_items_is map.words new (end.length ∙ sym map.words.ok.0))) (taken_in_range map.blocks map.words.items new c.args.extent.now map.in_range took)

pub invariant_of-self-clause-counted : goal.invariant_of-self-clause-counted
unfolding IsFree
invariant_of-self-clause-counted c =
    let map = c.args.self.now in
    let e = c.args.extent.now in
    let new = c.clear_run.new.words in
    let end = rw c.deref_mut.ensures.value at c.clear_run.ensures in
    let last = map.in_range (e.start + e.count - 1) (c.requires.run (e.start + e.count - 1) (omega (arith, c.requires.some)) (omega (arith, c.requires.some))) in
    let fits : e.start + e.count ≤ map.blocks = let low = last.1 in omega arith in
    less (one_count new map.blocks) (one_count map.words.items map.blocks) e.count map.free (end.count map.blocks fits) map.counted
    ∙ sym (ap (λ l. one_count l map.blocks) (with_items_is map.words new (end.length ∙ sym map.words.ok.0)))

pub returns-clause-taken : goal.returns-clause-taken
unfolding IsFree
returns-clause-taken c =
    let map = c.args.self.now in
    let e = c.args.extent.now in
    let new = c.clear_run.new.words in
    let end = rw c.deref_mut.ensures.value at c.clear_run.ensures in
    let took = takes map.words.items new e end.below end.above end.here c.requires.run in
    subst (λ l. Takes (IsOneIn map.words.items) (e ∷ []) (IsOneIn l)) (sym (with_items_is map.words new (end.length ∙ sym map.words.ok.0))) took
