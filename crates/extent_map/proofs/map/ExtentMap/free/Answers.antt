use Rattle.std.proofs.Common.{◌≡◌, ℕ, ◌+◌, ◌^◌, ◌<◌, ◌≤◌, [], ◌∷◌, ap, sym, subst, ◌∙◌, arith}
use Rattle.std.proofs.lemmas.List.{with_items_is}
use Rattle.extent_map.specs.Words.{one_count, IsOneIn}
use Rattle.extent_map.specs.Extents.{GivesBack}
use Rattle.extent_map.proofs.BitLemmas.{ones_le}
use Rattle.extent_map.proofs.SetLemmas.{gives, AreInRange, given_in_range}
use Rattle.extent_map.specs.Map.{IsFree}
use Rattle.extent_map.proofs.map.ExtentMap.free.Goals as goal

more : (a b c d : ℕ) → a ≡ b + c → d ≡ b → d + c ≡ a
more a b c d e f = omega arith

small : (a b c : ℕ) → a ≡ b → b ≤ c → c < 4294967296 → a < 4294967296
small a b c e f g = omega arith

pub overflow_add-self : goal.overflow_add-self
unfolding IsFree
overflow_add-self c =
    let map = c.args.self.now in
    let e = c.args.extent.now in
    let new = c.set_run.new.words in
    let end = rw c.deref_mut.ensures.value at c.set_run.ensures in
    let sum = more (one_count new map.blocks) (one_count map.words.items map.blocks) e.count map.free (end.count map.blocks c.requires.0.2) map.counted in
    let fits : map.free + e.count < 2 ^ 32 = small (map.free + e.count) (one_count new map.blocks) map.blocks sum (ones_le new map.blocks) map.small in
    record { fits = fits }

pub invariant_of-self-clause-in_range : goal.invariant_of-self-clause-in_range
unfolding IsFree
invariant_of-self-clause-in_range c =
    let map = c.args.self.now in
    let e = c.args.extent.now in
    let new = c.set_run.new.words in
    let end = rw c.deref_mut.ensures.value at c.set_run.ensures in
    let gave = gives map.words.items new e end.below end.above end.here in
    subst (AreInRange map.blocks) (sym (with_items_is map.words new (end.length ∙ sym map.words.ok.0))) (given_in_range map.blocks map.words.items new e map.in_range c.requires.0 gave)

pub invariant_of-self-clause-counted : goal.invariant_of-self-clause-counted
unfolding IsFree
invariant_of-self-clause-counted c =
    let map = c.args.self.now in
    let new = c.set_run.new.words in
    let end = rw c.deref_mut.ensures.value at c.set_run.ensures in
    more (one_count new map.blocks) (one_count map.words.items map.blocks) c.args.extent.now.count map.free (end.count map.blocks c.requires.0.2) map.counted
    ∙ sym (ap (λ l. one_count l map.blocks) (with_items_is map.words new (end.length ∙ sym map.words.ok.0)))

pub returns-clause-freed : goal.returns-clause-freed
unfolding IsFree
returns-clause-freed c =
    let map = c.args.self.now in
    let e = c.args.extent.now in
    let new = c.set_run.new.words in
    let end = rw c.deref_mut.ensures.value at c.set_run.ensures in
    subst (λ l. GivesBack (IsOneIn map.words.items) (e ∷ []) (IsOneIn l)) (sym (with_items_is map.words new (end.length ∙ sym map.words.ok.0))) (gives map.words.items new e end.below end.above end.here)
