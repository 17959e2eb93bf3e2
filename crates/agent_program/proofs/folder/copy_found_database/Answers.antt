use Rattle.std.proofs.Common.{◌≡◌, ◌∙◌, subst}
use Rattle.std.proofs.lemmas.Result.{IfOk-weaker}
use Rattle.agent_program.specs.Copies.{IsCopyFound, IsCopyHeld}
use Rattle.agent_program.specs.Host.{database_path}
use Rattle.agent_program.proofs.CopyLemmas.{held_found}
use Rattle.agent_program.proofs.folder.copy_found_database.Goals as goal

pub returns-clause-found : goal.returns-clause-found
returns-clause-found g c = λ reveals.
    let held = g.H.BlockFiles.holds c.args.host.now in
    let is_there = g.H.Host.is_there c.args.host.now in
    let path = c.deref.result.now in
    let is : path ≡ database_path c.args.folder.now = c.deref.ensures ∙ c.in_ok-path.ensures in
    IfOk-weaker c.copy_database.result (IsCopyHeld held is_there path) (IsCopyFound held (database_path c.args.folder.now))
    (λ db copies. subst (λ it. IsCopyFound held it db) is (held_found held is_there path db copies)) (c.copy_database.ensures.found reveals)
