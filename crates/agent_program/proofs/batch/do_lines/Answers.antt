use Rattle.std.proofs.Common.{refl, subst}
use Rattle.custody_machine.specs.declared.answers.Failure.TheVariants.{NoMemory}
use Rattle.agent_program.specs.declared.errors.ProgramError.TheVariants as error
use Rattle.agent_program.specs.Batch.{AreLinesDone}
use Rattle.agent_program.proofs.BatchLemmas.{buffered, ends_lost}
use Rattle.agent_program.proofs.batch.do_lines.Goals as goal

-- the buffer gives what the reader gives
pub returns-in-Ok : goal.returns-in-Ok
returns-in-Ok g c =
    subst (λ bytes. AreLinesDone (g.H.BlockFiles.holds c.args.host.now) (g.H.Host.shown c.args.host.now) c.args.folder.now bytes c.args.custody.now c.do_each_line.new.custody c.do_each_line.result (record { before = g.W.Write.contents c.args.out.now; after = g.W.Write.contents c.do_each_line.new.out })
    (record { before = g.E.Write.contents c.args.err.now; after = g.E.Write.contents c.do_each_line.new.err }))
    (buffered g.R.Read.remaining c.in-Ok.lines c.args.lines c.in-Ok.ensures.inner c.in-Ok.ensures.empty c.in-Ok.ensures.capacity) c.do_each_line.ensures

-- there is no memory for the buffer, and so no line is read
pub returns-in-Err : goal.returns-in-Err
returns-in-Err g c =
    ends_lost (g.H.BlockFiles.holds c.args.host.now) (g.H.Host.shown c.args.host.now) c.args.folder.now 0 c.args.custody.now c.args.custody.now c.tell.result (record { before = g.W.Write.contents c.args.out.now; after = g.W.Write.contents c.args.out.now })
    (record { before = g.E.Write.contents c.args.err.now; after = g.E.Write.contents c.tell.new.err }) (g.R.Read.remaining c.args.lines) (error.Failure NoMemory, refl, refl, c.tell.ensures.status, refl, c.tell.ensures.begun)
