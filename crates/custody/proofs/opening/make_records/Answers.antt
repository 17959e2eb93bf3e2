use Rattle.std.proofs.Common.{inl, ◌*◌, sym, ◌∙◌, ap, subst, arith}
use Rattle.sqlite.specs.Held.{state}
use Rattle.custody_machine.specs.StoredState.{AreWhole}
use Rattle.custody.proofs.OpenCustodyLemmas.{err_is}
use Rattle.custody.proofs.Opened.{none_left, founds_err, founds_ok, may_be_begun, new_whole, only_memory}
use Rattle.custody.proofs.opening.make_records.Goals as goal

pub returns-in_err-map-clause-kind : goal.returns-in_err-map-clause-kind
returns-in_err-map-clause-kind g c =
    rw (err_is _ c.in_err-map.field-0.0 c.from_residual.ensures.1)
    (inl (only_memory _ _ (subst AreWhole (sym c.new-records.ensures) (new_whole c.args.number c.args.blocks)) c.in_err-map.ensures.failure))

pub returns-in_err-map-clause-at_exit : goal.returns-in_err-map-clause-at_exit
returns-in_err-map-clause-at_exit g c = λ tells honest bare rows image left _. inl (none_left (state g.S.Store c.args.store.now) bare rows left)

pub returns-in_default-clause-at_exit : goal.returns-in_default-clause-at_exit
returns-in_default-clause-at_exit g c = λ tells honest bare rows image left _. inl (none_left (state g.S.Store c.args.store.now) bare rows left)

pub returns-in-Ok-create-clause-founds : goal.returns-in-Ok-create-clause-founds
returns-in-Ok-create-clause-founds g c = founds_ok _ _ _ _ _ c.in-Ok-create.ensures.founds

pub returns-in-Ok-create-clause-at_exit : goal.returns-in-Ok-create-clause-at_exit
returns-in-Ok-create-clause-at_exit g c = λ tells honest bare rows image left there.
    may_be_begun c.args.number c.args.blocks (g.V.Volume.image c.write_head.new.volume) (omega arith) c.requires.fits (c.in-Ok.ensures.head tells)
    (g.met.V.Volume.image_length c.write_head.new.volume tells ∙ ap (λ n. 4096 * n) (c.in-Ok.ensures.size ∙ c.requires.blocks)) (state g.S.Store c.args.store.now) bare rows image
    ((c.in-Ok-create.ensures.founds.effect honest bare).left rows left) ((c.in-Ok.ensures.settled tells image).0 there)

pub returns-in-Err-clause-founds : goal.returns-in-Err-clause-founds
returns-in-Err-clause-founds g c = founds_err _ _ _ c.in-Err.field-0 _ c.in-Err.ensures.founds

pub returns-in-Err-clause-at_exit : goal.returns-in-Err-clause-at_exit
returns-in-Err-clause-at_exit g c = λ tells honest bare rows image left there.
    may_be_begun c.args.number c.args.blocks (g.V.Volume.image c.write_head.new.volume) (omega arith) c.requires.fits (c.in-Ok.ensures.head tells)
    (g.met.V.Volume.image_length c.write_head.new.volume tells ∙ ap (λ n. 4096 * n) (c.in-Ok.ensures.size ∙ c.requires.blocks)) (state g.S.Store c.args.store.now) bare rows image
    ((c.in-Err.ensures.founds.effect honest bare).left rows left) ((c.in-Ok.ensures.settled tells image).0 there)
