use Rattle.agent_program.proofs.mem_host.open_settled.Goals as goal

pub returns-in-Ok : goal.returns-in-Ok
returns-in-Ok c = λ clean. (
  _,
  c.settle-else-not-settle.ensures.settled c.if-not-settle-2.false,
  c.settle.ensures.settled c.if-not-settle.false,
  c.in-Ok.ensures.found clean,
)
