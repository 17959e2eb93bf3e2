use Rattle.std.proofs.Common.{subst}
use Rattle.answer_lines.specs.Printing.{Writer}
use Rattle.agent_program.specs.Batch.{AreLinesDone}
use Rattle.agent_program.proofs.vault_calls.batch.Goals as goal

pub returns : goal.returns
returns g c =
    let opened = c.in-Ok.ensures.opened in
    let output : Writer = record { before = g.W.Write.contents c.args.out.now; after = g.W.Write.contents c.do_lines-status.new.out } in
    rw (c.with_vault.ensures.vault, c.with_vault.ensures.status) (record {
      old = c.in-Ok.custody;
      new = c.do_lines-status.new.custody;
      opened = opened.0;
      done = subst (λ before. AreLinesDone (g.H.BlockFiles.holds c.args.host.now) (g.H.Host.shown c.args.host.now) c.args.folder.now (g.L.Read.remaining c.args.lines) c.in-Ok.custody c.do_lines-status.new.custody c.do_lines-status.result output (record { before = before; after = g.E.Write.contents c.do_lines-status.new.err })) opened.1 c.do_lines-status.ensures;
      volume_is = c.with_vault.ensures.volume;
      store_is = c.with_vault.ensures.store;
    })
