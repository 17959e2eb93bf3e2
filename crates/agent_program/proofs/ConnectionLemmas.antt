-- What is left of a server where no further connection is served.
use Rattle.std.proofs.Common.{◌≡◌, ap, inl, inr, sym}
use Rattle.vault_volume.specs.declared.volume.Volume as volume
use Rattle.sqlite.specs.Store.{Ghosts}
use Rattle.custody.specs.declared.custody.Custody.{Custody}
use Rattle.http_api.specs.declared.connections.ServiceError.{ServiceError}
use Rattle.http_api.specs.declared.connections.ServiceError.TheVariants.{Socket, Clock, Closed}
use Rattle.http_api.specs.Connections.{ServerState, ServiceErrorLeaves}

module _ {V S : Type 0} {g : volume.Ghosts V} {database : Ghosts S} where
  -- its custody is as the last connection left it
  pub custody_left : (fault : ServiceError) (last new : ServerState (Custody V S g database)) → ServiceErrorLeaves fault last new → last.custody ≡ new.custody
  custody_left (Socket port cause) last new left = ap (λ state. state.custody) (sym left)
  custody_left Clock last new (inl nobody) = ap (λ state. state.custody) (sym nobody.1)
  custody_left Clock last new (inr came) = sym came.3
  custody_left (Closed why) last new left = ap (λ state. state.custody) (sym left)
