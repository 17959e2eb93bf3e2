use Rattle.std.proofs.Common.{◌≡◌, ◌≤◌, ◌<◌, ◌+◌, ◌++◌, ◌∷◌, ◌∙◌, [], ℕ, Contains, List, ap, arith, get_or, length, map, subst, sym, take}
use Rattle.std.proofs.lemmas.List.{get_or-map, length-map, take_all, take_more}
use Rattle.std.proofs.lemmas.List.Filters.{dedup_is}
use Rattle.dnrd_csv.specs.inside.RowKeys.{borrowed_texts}
use Rattle.deposit_verify.specs.Tables.{table_of}
use Rattle.deposit_verify.proofs.Searches.{permuted_texts}
use Rattle.deposit_tables.specs.inside.Changing.{KeysAscend}
use Rattle.deposit_tables.proofs.Decisions.{Tables}
use Rattle.deposit_tables.proofs.KeysChanged.{AreChangedSince, since_more}
use Rattle.deposit_tables.proofs.KeysOnce.{once_ascend, once_same}
use Rattle.deposit_tables.proofs.changed_keys.keys_of_owner.Goals as goal

pub loop-old-preserved : goal.loop-old-preserved
loop-old-preserved c =
    let olds = c.args.olds.now in
    let new = table_of c.args.new.now in
    let tables : List Tables = map (λ old. table_of old.now) olds in
    let i = c.loop-old.old-index in
    let old = c.old-item.result in
    let inside : i < length olds = c.loop-old-test.true in
    let placed : i < length tables = let size = length-map olds (λ (o : _). table_of o.now) in omega (arith, inside, size) in
    let at : get_or tables i (table_of old.now) ≡ table_of old.now = get_or-map (λ (o : _). table_of o.now) olds i old (table_of old.now) inside ∙ ap (λ (o : _). table_of o.now) (sym c.old-item.is) in
    let more : take (i + 1) tables ≡ take i tables ++ table_of old.now ∷ [] = take_more tables i (table_of old.now) placed ∙ ap (λ (t : Tables). take i tables ++ t ∷ []) at in
    subst (λ (ts : List Tables). AreChangedSince ts new c.args.owner (borrowed_texts c.push_changed.new.keys.items)) (sym more)
    (since_more (take i tables) (table_of old.now) new c.args.owner (borrowed_texts c.loop-old.keys.items) (borrowed_texts c.push_changed.new.keys.items) c.loop-old.invariant c.in_ok-push_changed.ensures)

pub returns-clause-ascend : goal.returns-clause-ascend
returns-clause-ascend c =
    subst KeysAscend (sym (ap borrowed_texts (dedup_is _ _ _ c.dedup.ensures.filtered))) (once_ascend c.sort_unstable.new.self.items c.sort_unstable.ensures.sorted)

pub returns-clause-same : goal.returns-clause-same
returns-clause-same c = λ key.
    let olds = c.args.olds.now in
    let tables : List Tables = map (λ old. table_of old.now) olds in
    let i = c.loop-old.old-index in
    let over : length tables ≤ i = let size = length-map olds (λ (o : _). table_of o.now) in omega (arith, c.loop-old-test.false, size) in
    let all = subst (λ (ts : List Tables). AreChangedSince ts (table_of c.args.new.now) c.args.owner (borrowed_texts c.loop-old.keys.items)) (take_all i tables over) c.loop-old.invariant in
    let moved = permuted_texts c.loop-old.keys.items c.sort_unstable.new.self.items c.sort_unstable.ensures.permutation key in
    let once = once_same c.sort_unstable.new.self.items key in
    let is = ap borrowed_texts (dedup_is _ _ _ c.dedup.ensures.filtered) in (
      λ has. (all key).0 (moved.0 (once.0 (subst (λ (ks : List (List ℕ)). Contains ks key) is has))),
      λ changed. subst (λ (ks : List (List ℕ)). Contains ks key) (sym is) (once.1 (moved.1 ((all key).1 changed))),
    )
