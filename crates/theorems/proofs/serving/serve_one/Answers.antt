use Rattle.std.proofs.Common.{◌≡◌, ℕ, List, Option, Some, None, IfSome, Result, Ok, Err, refl}
use Rattle.std.specs.Prelude.{OnOk}
use Rattle.std.specs.Io.KnownBytes.{Appends, Keeps}
use Rattle.desk.specs.Lines.{AppendsBeginning}
use Rattle.vault_volume.specs.declared.volume.Volume as volume
use Rattle.sqlite.specs.Store.{Ghosts}
use Rattle.custody.specs.declared.custody.Custody.{Custody}
use Rattle.http_api.specs.declared.handling.Served.{Served}
use Rattle.http_api.specs.declared.handling.ServeError.{ServeError}
use Rattle.http_api.specs.declared.handling.ServeError.TheVariants as failed
use Rattle.http_api.specs.Responses.{HttpResponse, response_bytes}
use Rattle.http_api.specs.Handling.{IsNoCommand, IsServed}
use Rattle.theorems.specs.Requests.{ServeReturns}
use Rattle.theorems.proofs.serving.serve_one.Goals as goal

ways_out : {V S : Type 0} {g : volume.Ghosts V} {database : Ghosts S} (known before after : Option (List ℕ)) (now : ℕ) (old new : Custody V S g database) (result : Result Served ServeError)
    → OnOk result ((answer : HttpResponse) × IsServed known now old answer new × Appends before after (response_bytes answer))
    → (result ≡ Err failed.Read → IsNoCommand known old new × Keeps before after)
    → (result ≡ Err failed.Write → (answer : HttpResponse) × IsServed known now old answer new × AppendsBeginning before after (response_bytes answer))
    → IfSome known (λ input. ServeReturns (record { input = input; now = now; before = before; after = after }) old result new)
ways_out None before after now old new result s r w = tt
ways_out (Some input) before after now old new (Ok ended) s r w = s
ways_out (Some input) before after now old new (Err failed.Read) s r w = r refl
ways_out (Some input) before after now old new (Err failed.Write) s r w = w refl

pub returns : goal.returns
returns g c = ways_out _ _ _ _ _ _ c.serve_one.result c.serve_one.ensures.served c.serve_one.ensures.read_failed c.serve_one.ensures.write_failed
