use Rattle.std.proofs.Common.{sym, ap, ◌∙◌, Result, Ok, Err}
use Rattle.std.specs.Prelude.{IfOk}
use Rattle.std.specs.declared.alloc.AllocError.{AllocError}
use Rattle.sqlite.specs.Effect.{Database}
use Rattle.sqlite.specs.Held.{Held, state}
use Rattle.sqlite.specs.Steps.{over_memory, IsEmpty}
use Rattle.sqlite.proofs.Callers.{memory_is_clean}
use Rattle.custody_store.specs.Reading.{rows_in}
use Rattle.custody_store.specs.StoreState.{store_state}
use Rattle.theorems.proofs.sessions.new_database.Goals as goal

pub returns-clause-bare : goal.returns-clause-bare
returns-clause-bare c = by c.open_in_memory.result c.open_in_memory.ensures.empty
  where
    by : (r : Result (Held _) AllocError) → IfOk r (λ db. IsEmpty (state over_memory db)) → IfOk r (λ db. (store_state over_memory db).IsBare)
    by (Ok db) e = record {
      rest = record {
        is_open = e.0.is_open;
        autocommit = e.0.autocommit;
        committed = sym e.0.clean;
        only = λ rows left. left.2 ∙ ap rows_in left.1 ∙ ap (λ (d : Database). rows_in d.trees) (sym e.0.clean);
      };
      schema = e.2;
      sound = (e.1 e.0.is_open).0;
    }
    by (Err error) e = tt

pub returns-clause-honest : goal.returns-clause-honest
returns-clause-honest c = elim c.open_in_memory.result as (λ r. IfOk r (λ db. (store_state over_memory db).IsHonest)) [ Ok db ↦ memory_is_clean db | Err error ↦ tt ]
