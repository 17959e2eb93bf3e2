use Rattle.agent_program.proofs.vault_calls.serve.Goals as goal

pub returns : goal.returns
returns g c =
    let opened = c.in-Ok.ensures.opened.0 in
    let answered = c.answer_connections-status.ensures in
    rw (c.with_vault.ensures.vault, c.with_vault.ensures.status) (record {
      old = c.in-Ok.custody;
      new = c.answer_connections-status.new.custody;
      served = answered.turns.0;
      opened = opened;
      at_most = answered.turns.1;
      all = answered.turns.2;
      turns = answered.turns.3;
      stays_open = λ until done. answered.stays_open until opened.opened.opened done;
      done = answered.status;
      told = answered.told;
      volume_is = c.with_vault.ensures.volume;
      store_is = c.with_vault.ensures.store;
    })
