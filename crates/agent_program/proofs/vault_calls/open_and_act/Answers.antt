use Rattle.std.proofs.Common.{subst}
use Rattle.answer_lines.specs.Printing.{Writer}
use Rattle.agent_cli.specs.Acts.{Acts}
use Rattle.agent_program.proofs.vault_calls.open_and_act.Goals as goal

pub returns : goal.returns
returns g c =
    let opened = c.in-Ok.ensures.opened in
    let output : Writer = record { before = g.W.Write.contents c.args.out.now; after = g.W.Write.contents c.act-status.new.out } in
    rw (c.with_vault.ensures.vault, c.with_vault.ensures.status) (record {
      old = c.in-Ok.custody;
      new = c.act-status.new.custody;
      opened = opened.0;
      acts = subst (λ before. Acts c.args.deed.now c.args.file.now c.args.now c.in-Ok.custody c.act-status.new.custody c.act-status.result output (record { before = before; after = g.E.Write.contents c.act-status.new.err })) opened.1 c.act-status.ensures.acts;
      volume_is = c.with_vault.ensures.volume;
      store_is = c.with_vault.ensures.store;
    })
