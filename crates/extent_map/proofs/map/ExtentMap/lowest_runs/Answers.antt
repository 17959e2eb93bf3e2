use Rattle.std.proofs.Common.{◌+◌, ◌-◌, ◌<◌, subst, sym, arith}
use Rattle.extent_map.specs.Words.{one_count}
use Rattle.extent_map.specs.Map.{IsFree, size_of}
use Rattle.extent_map.proofs.RunLemmas.{IsCollected, below_end, collect_more, collect_none, one_from}
use Rattle.extent_map.proofs.map.ExtentMap.lowest_runs.Goals as goal

pub loop-left-init : goal.loop-left-init
loop-left-init c =
    let map = c.args.self.now in
    subst (λ runs. IsCollected map.words.items (size_of map) c.args.count runs c.args.count 0) (sym c.new-runs.ensures.items)
    (collect_none map.words.items (size_of map) c.args.count (λ is. let range = map.in_range 0 is in omega (arith, range.0)))

pub next_run-run-requires-clause-found : goal.next_run-run-requires-clause-found
unfolding IsFree
next_run-run-requires-clause-found c =
    let map = c.args.self.now in
    let more : one_count map.words.items c.loop-left.from < one_count map.words.items map.blocks = omega (arith, c.loop-left.invariant.counted, c.requires.enough, map.counted, c.loop-left-test.true) in
    one_from map.words.items c.loop-left.from map.blocks more

pub loop-left-preserved : goal.loop-left-preserved
unfolding IsFree
loop-left-preserved c =
    let map = c.args.self.now in
    let run = c.next_run-run.result in
    let next = c.next_run-run.ensures in
    subst (λ runs. IsCollected map.words.items (size_of map) c.args.count runs (c.loop-left.left - run.count) (run.start + run.count)) (sym c.in_ok-push.ensures.items)
    (collect_more map.words.items (size_of map) c.args.count c.loop-left.runs.items c.loop-left.left c.loop-left.from c.loop-left.invariant c.loop-left-test.true
    run next.within next.from next.before next.run next.most next.stop)

pub returns-clause-lowest : goal.returns-clause-lowest
unfolding IsFree
returns-clause-lowest c = λ b above is lt there.
    let inv = c.loop-left.invariant in
    let end = below_end c.loop-left.runs.items c.loop-left.from inv.ended above there in
    inv.none_left b (omega (arith, lt, end)) is
