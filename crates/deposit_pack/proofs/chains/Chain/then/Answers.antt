use Rattle.std.proofs.Common.{◌≡◌, ◌++◌, ◌∷◌, ◌∙◌, [], List, Some, None, ap, inl, inr, sym}
use Rattle.std.proofs.lemmas.List.{map-append}
use Rattle.deposit_verify.specs.Bases.{base_at, base_then}
use Rattle.deposit_pack.specs.Chains.{joined_of}
use Rattle.deposit_pack.specs.declared.chains.NamedDeposit.{NamedDeposit}
use Rattle.deposit_pack.proofs.ChainSteps.{keys_then, zip_push}
use Rattle.deposit_pack.proofs.chains.Chain.then.Goals as goal

-- the deposits with one more, joined
behind : (deposits : List NamedDeposit) (d : NamedDeposit) → joined_of (deposits ++ d ∷ []) ≡ joined_of deposits ++ d.joined.now ∷ []
behind deposits d = map-append (λ (it : NamedDeposit). it.joined.now) deposits (d ∷ [])

pub returns-in_default-clause-broken : goal.returns-in_default-clause-broken
returns-in_default-clause-broken c = λ _ deposits chained. inl (rw c.in_default.is at c.in_ok-id.ensures)

pub returns-then-not-branch-clause-broken : goal.returns-then-not-branch-clause-broken
returns-then-not-branch-clause-broken c = λ _ deposits chained.
    let d = c.args.deposit.now in
    let none : base_then c.args.self.now.base d.joined.now ≡ None = sym (rw c.if-not-branch.true at c.in_ok-then.ensures.computed) in
    inr (ap base_at (behind deposits d) ∙ keys_then (joined_of deposits) d.joined.now c.args.self.now.base chained.keys ∙ none)

pub returns-clause-continues : goal.returns-clause-continues
returns-clause-continues c = λ _ deposits chained.
    let d = c.args.deposit.now in
    let next : Some c.then.new.self ≡ base_then c.args.self.now.base d.joined.now = rw c.if-not-branch.false at c.in_ok-then.ensures.computed in
    record {
      keys = ap base_at (behind deposits d) ∙ keys_then (joined_of deposits) d.joined.now c.args.self.now.base chained.keys ∙ sym next;
      ids = rw c.in_ok-push.ensures.items (zip_push deposits c.args.self.now.ids.items d c.in-Some.id chained.ids (rw c.in-Some.is at c.in_ok-id.ensures));
    }
