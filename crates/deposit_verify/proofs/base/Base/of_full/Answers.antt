use Rattle.std.proofs.Common.{◌∙◌, ◌∷◌, [], Option, subst, sym}
use Rattle.std.specs.Prelude.{MatchOption}
use Rattle.deposit_verify.specs.declared.base.Base.{Base}
use Rattle.deposit_verify.specs.Chain.{IsBase, IsFirstOfChain}
use Rattle.deposit_verify.proofs.BaseLemmas.{at_one, first_law}
use Rattle.deposit_verify.proofs.Lifted.{if_ok}
use Rattle.deposit_verify.proofs.base.Base.of_full.Goals as goal

pub returns-clause-base : goal.returns-clause-base
returns-clause-base c =
    let joined = c.args.joined.now in
    let laws = c.law_reading.ensures in
    if_ok c.of_first.result _ _ c.of_first.ensures
    (λ base is. subst (λ (o : Option Base). MatchOption o (¬ IsFirstOfChain joined) (IsBase (joined ∷ []))) (sym is) (first_law laws.readers laws.tables laws.one joined))

pub returns-clause-computed : goal.returns-clause-computed
returns-clause-computed c = if_ok c.of_first.result _ _ c.of_first.ensures (λ base is. is ∙ sym (at_one c.args.joined.now))
