use Rattle.std.proofs.Common.{◌≡◌, ◌∙◌, ◌-◌, ℕ, List, [], ◌∷◌, Option, ap, drop, length, map, subst, take}
use Rattle.std.specs.Prelude.{IfOk}
use Rattle.deposit_name.specs.Name.{Name}
use Rattle.deposit_verify.specs.declared.base.Base.{Base}
use Rattle.deposit_verify.specs.Bases.{all_then, base_at}
use Rattle.custody_machine.specs.Machine.{joined_bytes}
use Rattle.plain_machine.specs.Plain.{state_view}
use Rattle.plain_machine.proofs.PlainChains.{base_of_chain, base_of_none}
use Rattle.plain_machine.proofs.PlainReleases.{front}
use Rattle.plain_machine.proofs.state.PlainState.base_at.Goals as goal

pub returns-in_default : goal.returns-in_default
returns-in_default c = base_of_none (joined_bytes (state_view c.args.self.now)) c.args.chain.now c.in_default.len_below

pub returns : goal.returns
returns c =
    let chain = c.args.chain.now in
    let first = c.first-item.result in
    let bytes_of = joined_bytes (state_view c.args.self.now) in
    let later = take (length chain - 1) (drop 1 chain) in
    let read = c.deref.ensures.value ∙ c.in_ok-joined.ensures ∙ ap bytes_of c.of.ensures in
    subst (λ (all : Option Base). IfOk c.all_then.result (λ base. base ≡ all))
    (ap (λ (full : Option Base). all_then full (map bytes_of later)) (c.in_ok-base.ensures.computed ∙ ap (λ (bytes : List ℕ). base_at (bytes ∷ [])) read)
    ∙ base_of_chain bytes_of first later
    ∙ ap (λ (names : List Name). base_at (map bytes_of names)) (front chain first c.in-len1-up.len_at_least c.first-item.is)) c.all_then.ensures
