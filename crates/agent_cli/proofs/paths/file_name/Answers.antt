use Rattle.std.proofs.Common.{◌∙◌, ap, arith}
use Rattle.std.specs.List.{after_last}
use Rattle.agent_cli.proofs.PathLemmas.{is_slash, last_part_is, no_slash_at_end, no_slash_before}
use Rattle.agent_cli.proofs.paths.file_name.Goals as goal
use Rattle.agent_cli.proofs.paths.file_name.Goals.{then-loop-start-test+else-bytes-start-ne47, else-loop-start-test}

pub loop-start-init : goal.loop-start-init
loop-start-init c = no_slash_at_end c.as_bytes-bytes.result.now

pub bounds-bytes-start : goal.bounds-bytes-start
bounds-bytes-start c = omega (arith, c.loop-start.invariant.within, c.loop-start-test.true)

pub loop-start-preserved : goal.loop-start-preserved
loop-start-preserved c = no_slash_before _ _ c.loop-start-test.true c.loop-start.invariant c.if-bytes-start-ne47.true

pub returns : goal.returns
returns c =
    last_part_is _ _ c.loop-start.invariant (λ positive. elim c.loop-start-test.branch [
      | then-loop-start-test+else-bytes-start-ne47 w ↦ w.if-bytes-start-ne47.false
      | else-loop-start-test w ↦ absurd (omega (arith, w.loop-start-test.false, positive))
    ])
    ∙ ap (after_last is_slash) c.as_bytes-bytes.ensures.value
