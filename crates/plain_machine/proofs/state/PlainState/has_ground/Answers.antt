use Rattle.std.proofs.Common.{◌∙◌, ap}
use Rattle.desk.specs.Standing.{ground_stands}
use Rattle.plain_machine.proofs.PlainReleases.{rows_to}
use Rattle.plain_machine.proofs.state.PlainState.has_ground.Goals as goal

pub returns : goal.returns
returns c =
    let kept = c.args.self.now.notices in
    c.ground_stands.ensures ∙ ap (λ rows. ground_stands c.args.reason rows c.args.now) (c.deref.ensures.value ∙ c.in_ok-notices.ensures ∙ rows_to c.args.tld.now kept.rows.items kept.rising)
