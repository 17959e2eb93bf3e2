use Rattle.std.proofs.Common.{◌≡◌, ◌≤◌, ◌∷◌, ◌∙◌, [], inl, inr, length, sym}
use Rattle.std.proofs.lemmas.List.{length-map, take_all}
use Rattle.deposit_verify.specs.Bases.{base_at}
use Rattle.deposit_pack.specs.Chains.{joined_of}
use Rattle.deposit_pack.proofs.ChainSteps.{breaks, ids_more, keys_first, keys_more, misnamed}
use Rattle.deposit_pack.proofs.chains.chain_of.Goals as goal

pub loop-i-init : goal.loop-i-init
loop-i-init c =
    let id = rw c.in-Some.is at c.in_ok-id.ensures in
    let items : c.push.new.self.items ≡ c.in-Some.id ∷ [] = cc (c.in_ok-push.ensures.items, c.in_ok-ids.ensures.items) in record {
      keys = keys_first c.args.first.now.joined.now c.in-Some-2.base (rw c.in-Some-2.is at c.in_ok-base.ensures.computed);
      ids = rw items (id, tt);
    }

pub returns-in_default-3 : goal.returns-in_default-3
returns-in_default-3 c =
    inl (misnamed c.args.first.now c.args.later.now c.loop-i.i _ c.loop-i.base c.loop-i-test.true c.loop-i.invariant.keys
    (rw (c.in_default-3.is, c.index-later-i.is) at c.in_ok-id-2.ensures))

pub returns-then-not-branch : goal.returns-then-not-branch
returns-then-not-branch c =
    inr (breaks c.args.first.now c.args.later.now c.loop-i.i _ c.loop-i.base c.loop-i-test.true c.loop-i.invariant.keys
    (sym (rw (c.if-not-branch.true, c.index-later-i.is) at c.in_ok-then.ensures.computed)))

pub loop-i-preserved : goal.loop-i-preserved
loop-i-preserved c =
    record {
      keys =
          keys_more c.args.first.now c.args.later.now c.loop-i.i _ c.loop-i.base c.loop-i-test.true c.loop-i.invariant.keys
          ∙ sym (rw (c.if-not-branch.false, c.index-later-i.is) at c.in_ok-then.ensures.computed);
      ids =
          rw c.in_ok-push-2.ensures.items
          (ids_more c.args.first.now c.args.later.now c.loop-i.i _ c.loop-i.base c.loop-i-test.true c.loop-i.invariant.keys c.loop-i.ids.items c.in-Some-3.id (rw (c.in-Some-3.is, c.index-later-i.is) at c.in_ok-id-2.ensures) c.loop-i.invariant.ids);
    }

pub returns : goal.returns
unfolding base_at
returns c =
    let past : length c.args.later.now ≤ c.loop-i.i = c.loop-i-test.false in
    let texts = joined_of c.args.later.now in
    record {
      keys = rw (take_all c.loop-i.i texts (rw length-map past)) at c.loop-i.invariant.keys;
      ids = rw (take_all c.loop-i.i c.args.later.now past) at c.loop-i.invariant.ids;
    }
