use Rattle.std.proofs.Common.{refl, subst}
use Rattle.custody.specs.Calls.{HasBegun}
use Rattle.agent_program.proofs.vault_calls.init_vault.Goals as goal

pub returns-in-Ok-clause-ends : goal.returns-in-Ok-clause-ends
returns-in-Ok-clause-ends g c =
    rw (c.with_vault.ensures.vault, c.with_vault.ensures.status) (record {
      custody = c.in-Ok.custody;
      begun = subst (λ n. HasBegun g.V.Volume g.S.Store c.args.files.0 c.args.files.1 n c.in-Ok.custody) c.get.ensures c.in-Ok.ensures.new;
      durable = c.in-Ok.ensures.kept;
      volume_is = c.with_vault.ensures.volume;
      store_is = c.with_vault.ensures.store;
      done = c.print_line-status.ensures.status;
      told = (c.print_line-status.ensures.printed, c.print_line-status.ensures.begun);
      unused = refl;
    })
