use Rattle.std.proofs.Common.{◌≡◌, ◌∙◌, List, ℕ, subst}
use Rattle.agent_program.specs.Copies.{IsReaderOf}
use Rattle.agent_program.specs.Host.{log_path}
use Rattle.agent_program.proofs.CopyLemmas.{copies_held}
use Rattle.agent_program.proofs.copies.copy_database.Goals as goal

pub returns-clause-found : goal.returns-clause-found
returns-clause-found g c = λ reveals.
    let held = g.H.BlockFiles.holds c.args.host.now in
    let there = g.H.Host.is_there c.args.host.now in
    let is : c.deref.result.now ≡ log_path c.args.path.now = c.deref.ensures ∙ c.in_ok-log_path.ensures in
    copies_held held there g.H.Reader.Read.remaining c.args.path.now c.in-Some.db c.in_ok-log.log c.open_copies.result
    (λ path known. g.met.H.Host.held_is_there c.args.host.now path reveals known)
    (subst (λ file. IsReaderOf held there g.H.Reader.Read.remaining c.args.path.now file) c.in-Some.is (c.in_ok-db.ensures.bytes reveals))
    (subst (λ (path : List ℕ). IsReaderOf held there g.H.Reader.Read.remaining path c.in_ok-log.log) is (c.in_ok-log.ensures.bytes reveals))
    c.open_copies.ensures.found
