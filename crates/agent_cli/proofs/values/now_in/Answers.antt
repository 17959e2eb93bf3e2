use Rattle.std.proofs.Common.{◌∙◌, ◌≡◌, refl, subst, sym, codes, Some, None, Option, List, ℕ}
use Rattle.clap.specs.Words.{found_of}
use Rattle.clap.proofs.WalkLemmas.{first_value-rows}
use Rattle.agent_cli.specs.Forms.{ShowsIfGiven, ShowsMoment}
use Rattle.agent_cli.proofs.FormLemmas.{not_given}
use Rattle.agent_cli.proofs.values.now_in.Goals as goal

pub returns-in-Some-read_moment : goal.returns-in-Some-read_moment
returns-in-Some-read_moment c =
    let given = c.in-Some.ensures ∙ first_value-rows (found_of c.args.matches.now) (codes "now") in
    let moment = c.in-Some-read_moment.ensures.text in
    subst (λ (o : Option (List ℕ)). ShowsIfGiven ShowsMoment o (Some c.in-Some-read_moment.now)) given (moment.0, sym c.as_bytes.ensures.value ∙ moment.1)

pub returns-in-None-read_moment : goal.returns-in-None-read_moment
returns-in-None-read_moment c =
    let given = c.in-Some.ensures ∙ first_value-rows (found_of c.args.matches.now) (codes "now") in (
      refl,
      not_given c.in-Some.text.now _ given (λ s h. let clash : None ≡ Some s = c.in-None-read_moment.ensures.only s h.0 (c.as_bytes.ensures.value ∙ h.1) in cc),
    )

pub returns-in-None : goal.returns-in-None
returns-in-None c =
    let given = c.in-None.ensures ∙ first_value-rows (found_of c.args.matches.now) (codes "now") in
    subst (λ (o : Option (List ℕ)). ShowsIfGiven ShowsMoment o None) given refl
