use Rattle.std.proofs.Common.{ℕ, Option, inr, Result, Ok, Err}
use Rattle.std.specs.Prelude.{IfErr, OnOk}
use Rattle.vault_volume.specs.declared.volume.Volume as volume
use Rattle.sqlite.specs.Store.{Ghosts}
use Rattle.sqlite.proofs.Callers.{memory_is_clean}
use Rattle.custody.specs.declared.custody.Custody.{Custody}
use Rattle.custody.specs.Custody.{open_custody_of}
use Rattle.http_api.specs.declared.connections.ServiceError.{ServiceError}
use Rattle.http_api.specs.Connections.{AreConnections, ConnectionsEnd, ServerState}
use Rattle.theorems.specs.Connections.{ServerReturns}
use Rattle.theorems.proofs.serving.begin_and_serve.Goals as goal

either_way : {V S : Type 0} {g : volume.Ghosts V} {database : Ghosts S} (given : Option ℕ) (count : ℕ) (result : Result (Unit {0}) ServiceError) (old new : ServerState (Custody V S g database))
    → OnOk result (AreConnections given count old new) → IfErr result (λ fault. ConnectionsEnd given count fault old new) → ServerReturns given count result old new
either_way given count (Ok done) old new all fewer = all
either_way given count (Err fault) old new all fewer = fewer

pub returns : goal.returns
returns g c =
    let begun = c.in-Ok-init.custody in
    record {
      db = c.in-Ok.db;
      begun = begun;
      beginning = record { begun = c.in-Ok-init.ensures.new; durable = c.in-Ok-init.ensures.kept; tables = inr c.in-Ok.ensures.bare; honest = memory_is_clean (open_custody_of begun).store };
      result = c.serve_connections.result;
      returns = either_way _ _ _ _ _ c.serve_connections.ensures.all c.serve_connections.ensures.fewer;
      honest = memory_is_clean (open_custody_of c.serve_connections.new.custody).store;
    }
