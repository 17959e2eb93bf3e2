use Rattle.std.proofs.Common.{false, ◌≡◌, Bor, Option, Some, refl, sym, ◌∙◌, ap, subst, Ok, Err}
use Rattle.std.specs.Prelude.{IfSome, option_copied}
use Rattle.std.specs.Option.{option_and_then, option_map}
use Rattle.custody_records.specs.inside.Orders.{text_total}
use Rattle.custody_records.specs.Records as recorded_in
use Rattle.custody_records.specs.Records.{Records, lifted_at, with_hold}
use Rattle.custody_records.specs.Rows.{with_lifting}
use Rattle.custody_records.specs.TypedRecords.{hold_key, hold_value}
use Rattle.custody_records.specs.declared.holds.Hold as ordered
use Rattle.custody_machine.specs.Machine.{Lift}
use Rattle.custody_machine.specs.Rulings.{LiftsHold, GoRuling}
use Rattle.custody_machine.proofs.Accepting.{insert_here}
use Rattle.custody.specs.declared.answers.Record.TheVariants as of
use Rattle.custody.specs.declared.open_custody.OpenCustody.{OpenCustody}
use Rattle.custody.specs.OpenCustody.{current_records, store_state_of}
use Rattle.custody.specs.ReplyRecords.{lifting_in}
use Rattle.custody.proofs.Done.{commits_done, commits_in_doubt}
use Rattle.custody.proofs.HoldRows.{lifting_means}
use Rattle.custody.proofs.Holds.{lift_change}
use Rattle.custody.proofs.open_custody.OpenCustody.lift.Goals as goal

pub returns-in_err-lift_hold : goal.returns-in_err-lift_hold
returns-in_err-lift_hold g c =
    let old = c.args.self.now in
    let reference = c.args.reference.now in
    let ruled = c.requires.ruled in
    commits_in_doubt g.S.Store old c.requires.order (Lift reference) c.args.now (record { vault = old.vault; store = c.lift_hold.new.self; records = old.records }) _ _
    (lift_change g.S.Store old c.requires.order reference c.args.now ruled c.lift_hold.new.self old.records).change
    (Err c.in_err-lift_hold.field-0.0) (with_lifting reference c.args.now (store_state_of g.S.Store old).rows) c.in_err-lift_hold.ensures.commits
    (λ is. (lifting_means (store_state_of g.S.Store old).rows (current_records old) is.1 is.0 reference c.args.now c.in_err-lift_hold.ensures.in_form ruled.0.1 ruled.0.2, is.1))
    c.in_err-lift_hold.ensures.kind c.from_residual.ensures.1
    (GoRuling (LiftsHold reference), ruled, refl)

pub returns : goal.returns
returns g c =
    let old = c.args.self.now in
    let reference = c.args.reference.now in
    let ruled = c.requires.ruled in
    let hold = lifted_at c.args.now ruled.0.1 in
    let kept = c.unwrap.result.now in
    let key : hold_key kept ≡ reference = subst (λ (o : Option (Bor ordered.Hold)). IfSome o (λ kept. hold_key kept.now ≡ reference)) c.unwrap.ensures c.hold.ensures.key in
    let found : Some (hold_value kept) ≡ Some ruled.0.1 = sym (ap (λ (o : Option (Bor ordered.Hold)). option_map hold_value (option_copied o)) c.unwrap.ensures) ∙ c.hold.ensures.found ∙ ruled.0.2 in
    let value : hold_value kept ≡ ruled.0.1 = cc in
    let new : OpenCustody g.row.V.Denot g.row.S.Denot g.V.Volume = record { vault = old.vault; store = c.lift_hold.new.self; records = c.lift_hold-2.new.self } in
    let same : current_records new ≡ with_hold (current_records old) reference hold = c.lift_hold-2.ensures ∙ (λ i. with_hold (current_records old) (key i) (lifted_at c.args.now (value i))) in
    commits_done g.S.Store old c.requires.order (Lift reference) c.args.now new _ _
    (lift_change g.S.Store old c.requires.order reference c.args.now ruled c.lift_hold.new.self c.lift_hold-2.new.self)
    (Ok tt) (with_lifting reference c.args.now (store_state_of g.S.Store old).rows) c.in_ok-lift_hold.ensures.commits
    (λ is. (lifting_means (store_state_of g.S.Store old).rows (current_records old) is.1 is.0 reference c.args.now c.in_ok-lift_hold.ensures.in_form ruled.0.1 ruled.0.2, is.1))
    refl same (record { «record» = of.Lifting reference c.args.now; is_repeat = false }) refl refl
    (GoRuling (LiftsHold reference), ruled, (refl, ruled.0.1, ruled.0.2, same))
    (ap (λ (r : Records). lifting_in r reference) same ∙ ap (option_and_then (λ (hold : recorded_in.Hold). hold.lifted)) (insert_here text_total (current_records old).holds reference hold))
    (λ _. tt)
