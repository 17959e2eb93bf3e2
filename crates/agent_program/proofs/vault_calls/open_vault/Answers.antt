use Rattle.std.proofs.Common.{refl}
use Rattle.agent_program.proofs.vault_calls.open_vault.Goals as goal

pub returns-in-Ok-clause-opened : goal.returns-in-Ok-clause-opened
returns-in-Ok-clause-opened g c = (
  record {
    opened = c.in-Ok.ensures.opened;
    loaded = c.in-Ok.ensures.loaded;
    cause = tt;
    damaged = λ _. tt;
    reads = c.in-Ok.ensures.reads;
    migrates = c.in-Ok.ensures.migrates;
  },
  refl,
)

pub returns-in-Err-clause-not_opened : goal.returns-in-Err-clause-not_opened
returns-in-Err-clause-not_opened g c = (
  refl,
  λ output unused. record {
    why = _;
    opened = record {
      opened = tt;
      loaded = tt;
      cause = c.in-Err.ensures.cause;
      damaged = c.in-Err.ensures.damaged;
      reads = c.in-Err.ensures.reads;
      migrates = c.in-Err.ensures.migrates;
    };
    unchanged = c.in-Err.ensures.unchanged;
    failed = c.tell.ensures.status;
    told = c.tell.ensures.begun;
    unused = unused;
  },
)
