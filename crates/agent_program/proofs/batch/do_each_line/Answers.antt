use Rattle.std.proofs.Common.{◌∙◌, Some, ap, refl, subst, sym}
use Rattle.std.specs.Prelude.{is_none}
use Rattle.agent_cli.specs.BatchLines.{ReadsLine}
use Rattle.agent_program.specs.Batch.{IsBatch}
use Rattle.agent_program.proofs.BatchLemmas.{ends_at, ends_closed, ends_done, ends_lost, goes_on, none_of_none, none_of_some}
use Rattle.agent_program.proofs.batch.do_each_line.Goals as goal

-- all lines are left
pub loop-number-init : goal.loop-number-init
loop-number-init g c = λ new status out err done. done

-- no line is left
pub returns-in-Ok-None : goal.returns-in-Ok-None
returns-in-Ok-None g c =
    let out = g.W.Write.contents c.loop-number.out in
    let err = g.E.Write.contents c.loop-number.err in
    c.loop-number.invariant c.loop-number.custody c.loop-number.highest out err
    (ends_done (g.H.BlockFiles.holds c.args.host.now) (g.H.Host.shown c.args.host.now) c.args.folder.now c.loop-number.highest c.loop-number.custody c.loop-number.custody c.loop-number.highest (record { before = out; after = out }) (record { before = err; after = err })
    (g.R.Read.remaining c.loop-number.lines) (g.R.Read.remaining c.next_line.new.input) (rw c.in-Ok-None.field-0-is at c.in-Ok-None.ensures) refl refl refl refl)

-- the next line cannot be read
pub returns-in-Err : goal.returns-in-Err
returns-in-Err g c =
    let out = g.W.Write.contents c.loop-number.out in
    let err = g.E.Write.contents c.tell_lost.new.err in
    let lost = c.tell_lost.ensures in
    c.loop-number.invariant c.loop-number.custody c.tell_lost.result out err
    (ends_lost (g.H.BlockFiles.holds c.args.host.now) (g.H.Host.shown c.args.host.now) c.args.folder.now c.loop-number.highest c.loop-number.custody c.loop-number.custody c.tell_lost.result (record { before = out; after = out }) (record { before = g.E.Write.contents c.loop-number.err; after = err })
    (g.R.Read.remaining c.loop-number.lines) (lost.0, lost.1, refl, lost.2, refl, lost.3))

-- the line is no order
pub returns-in-Err-do_line : goal.returns-in-Err-do_line
returns-in-Err-do_line g c =
    let bytes = g.R.Read.remaining c.loop-number.lines in
    let left = g.R.Read.remaining c.next_line.new.input in
    let out = g.W.Write.contents c.do_line.new.out in
    let err = g.E.Write.contents c.tell_end.new.err in
    let ended = c.in-Err-do_line.ensures.done in
    c.loop-number.invariant c.do_line.new.custody c.tell_end.result out err
    (ends_at (g.H.BlockFiles.holds c.args.host.now) (g.H.Host.shown c.args.host.now) c.args.folder.now c.loop-number.highest c.loop-number.custody c.do_line.new.custody c.tell_end.result (record { before = g.W.Write.contents c.loop-number.out; after = out }) (record { before = g.E.Write.contents c.loop-number.err; after = err })
    bytes c.deref.result.now left
    (subst (λ text. ReadsLine bytes (Some text) left) (sym c.deref.ensures.value) (rw c.in-Ok-Some.field-0-is at c.in-Ok-Some.ensures))
    (c.in-Err-do_line.fault, ended.0, ended.1, c.tell_end.ensures, ended.2))

-- the order of the line has closed the agent
pub returns-then-is_some : goal.returns-then-is_some
returns-then-is_some g c =
    let bytes = g.R.Read.remaining c.loop-number.lines in
    let left = g.R.Read.remaining c.next_line.new.input in
    let out = g.W.Write.contents c.do_line.new.out in
    let err = g.E.Write.contents c.do_line.new.err in
    let done = c.in-Ok.ensures.done in
    c.loop-number.invariant c.do_line.new.custody c.in-Ok.status out err
    (ends_closed (g.H.BlockFiles.holds c.args.host.now) (g.H.Host.shown c.args.host.now) c.args.folder.now c.loop-number.highest c.loop-number.custody c.do_line.new.custody c.in-Ok.status (record { before = g.W.Write.contents c.loop-number.out; after = out }) (record { before = g.E.Write.contents c.loop-number.err; after = err })
    bytes c.deref.result.now left
    (subst (λ text. ReadsLine bytes (Some text) left) (sym c.deref.ensures.value) (rw c.in-Ok-Some.field-0-is at c.in-Ok-Some.ensures))
    done.0 done.1 done.2
    (sym (ap is_none c.failure.ensures) ∙ none_of_some c.failure.result (sym c.is_some.ensures ∙ c.if-is_some.true)))

-- the order of the line is done
pub loop-number-preserved : goal.loop-number-preserved
loop-number-preserved g c = λ new status out err rest.
    let bytes = g.R.Read.remaining c.loop-number.lines in
    let left = g.R.Read.remaining c.next_line.new.input in
    let between = g.W.Write.contents c.do_line.new.out in
    let between_errors = g.E.Write.contents c.do_line.new.err in
    let done = c.in-Ok.ensures.done in
    c.loop-number.invariant new status out err
    (goes_on (g.H.BlockFiles.holds c.args.host.now) (g.H.Host.shown c.args.host.now) c.args.folder.now c.loop-number.highest c.loop-number.custody new status (record { before = g.W.Write.contents c.loop-number.out; after = out }) (record { before = g.E.Write.contents c.loop-number.err; after = err })
    bytes c.deref.result.now left
    (subst (λ text. ReadsLine bytes (Some text) left) (sym c.deref.ensures.value) (rw c.in-Ok-Some.field-0-is at c.in-Ok-Some.ensures))
    done.0 done.1 c.do_line.new.custody c.in-Ok.status between between_errors done.2
    (sym (ap is_none c.failure.ensures) ∙ none_of_none c.failure.result (sym c.is_some.ensures ∙ c.if-is_some.false))
    rest.0 rest.1
    (subst (λ most. IsBatch (g.H.BlockFiles.holds c.args.host.now) (g.H.Host.shown c.args.host.now) c.args.folder.now rest.0 most c.do_line.new.custody new status (record { before = between; after = out }) (record { before = between_errors; after = err })) c.max-highest.ensures rest.2))

-- more lines than can be counted
pub returns : goal.returns
returns g c =
    let out = g.W.Write.contents c.loop-number.out in
    let err = g.E.Write.contents c.tell_lost-2.new.err in
    let lost = c.tell_lost-2.ensures in
    c.loop-number.invariant c.loop-number.custody c.tell_lost-2.result out err
    (ends_lost (g.H.BlockFiles.holds c.args.host.now) (g.H.Host.shown c.args.host.now) c.args.folder.now c.loop-number.highest c.loop-number.custody c.loop-number.custody c.tell_lost-2.result (record { before = out; after = out }) (record { before = g.E.Write.contents c.loop-number.err; after = err })
    (g.R.Read.remaining c.loop-number.lines) (lost.0, lost.1, refl, lost.2, refl, lost.3))
