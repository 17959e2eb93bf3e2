use Rattle.std.proofs.Common.{false, ◌≡◌, None, refl, ◌∙◌, ap, Ok, Err, inr}
use Rattle.std.specs.FinMap.{get}
use Rattle.custody_records.specs.inside.Orders.{text_total}
use Rattle.custody_records.specs.Records.{Records, new_hold, with_hold}
use Rattle.custody_records.specs.Rows.{with_hold_row}
use Rattle.custody_records.specs.RowsOfRecords.{row_of_hold}
use Rattle.custody_machine.specs.Machine.{Hold}
use Rattle.custody_machine.specs.Rulings.{AddsHold, GoRuling}
use Rattle.custody_machine.proofs.Accepting.{insert_here}
use Rattle.custody.specs.declared.answers.Record.TheVariants as of
use Rattle.custody.specs.declared.open_custody.OpenCustody.{OpenCustody}
use Rattle.custody.specs.OpenCustody.{current_records, store_state_of}
use Rattle.custody.proofs.Done.{failed_as, commits_done, commits_in_doubt}
use Rattle.custody.proofs.HoldRows.{hold_means}
use Rattle.custody.proofs.Holds.{hold_change, unreserved_done}
use Rattle.custody.proofs.open_custody.OpenCustody.keep_hold.Goals as goal

pub returns-in_err-reserve_hold : goal.returns-in_err-reserve_hold
returns-in_err-reserve_hold g c = failed_as c.from_residual.ensures.1 (unreserved_done g.S.Store c.args.self.now c.requires.order c.args.reference c.args.tld c.args.day c.args.now c.requires.ruled c.reserve_hold.new.self c.in_err-reserve_hold.ensures.same)

pub returns-in_err-insert_hold : goal.returns-in_err-insert_hold
returns-in_err-insert_hold g c =
    let old = c.args.self.now in
    let hold = new_hold c.args.tld c.args.day c.args.now in
    commits_in_doubt g.S.Store old c.requires.order (Hold c.args.reference c.args.tld c.args.day) c.args.now (record { vault = old.vault; store = c.insert_hold.new.self; records = c.reserve_hold.new.self }) _ _
    (hold_change g.S.Store old c.requires.order c.args.reference c.args.tld c.args.day c.args.now c.requires.ruled c.insert_hold.new.self c.reserve_hold.new.self).change
    (Err c.in_err-insert_hold.field-0.0) (with_hold_row (row_of_hold c.args.reference hold) (store_state_of g.S.Store old).rows) c.in_err-insert_hold.ensures.commits
    (λ is. (hold_means (store_state_of g.S.Store old).rows (current_records old) is.1 is.0 c.args.reference hold c.in_err-insert_hold.ensures.in_form c.requires.ruled.0.1, is.1))
    c.in_err-insert_hold.ensures.kind c.from_residual-in_err-insert_hold.ensures.1
    (GoRuling (AddsHold c.args.reference c.args.tld c.args.day), c.requires.ruled, inr refl)

pub add_hold-requires-clause-new : goal.add_hold-requires-clause-new
add_hold-requires-clause-new g c = ap (λ (r : Records). get r.holds c.args.reference) c.in_ok-reserve_hold.ensures.same ∙ c.requires.ruled.0.1

pub returns : goal.returns
returns g c =
    let old = c.args.self.now in
    let hold = new_hold c.args.tld c.args.day c.args.now in
    let new : OpenCustody g.row.V.Denot g.row.S.Denot g.V.Volume = record { vault = old.vault; store = c.insert_hold.new.self; records = c.add_hold.new.self } in
    let same : current_records new ≡ with_hold (current_records old) c.args.reference hold = c.add_hold.ensures ∙ (λ i. with_hold (c.in_ok-reserve_hold.ensures.same i) c.args.reference hold) in
    commits_done g.S.Store old c.requires.order (Hold c.args.reference c.args.tld c.args.day) c.args.now new _ _
    (hold_change g.S.Store old c.requires.order c.args.reference c.args.tld c.args.day c.args.now c.requires.ruled c.insert_hold.new.self c.add_hold.new.self)
    (Ok tt) (with_hold_row (row_of_hold c.args.reference hold) (store_state_of g.S.Store old).rows) c.in_ok-insert_hold.ensures.commits
    (λ is. (hold_means (store_state_of g.S.Store old).rows (current_records old) is.1 is.0 c.args.reference hold c.in_ok-insert_hold.ensures.in_form c.requires.ruled.0.1, is.1))
    refl same
    (record { «record» = of.Hold (record { reference = c.args.reference; tld = c.args.tld; day = c.args.day; at = c.args.now; lifted = None }); is_repeat = false }) refl refl
    (GoRuling (AddsHold c.args.reference c.args.tld c.args.day), c.requires.ruled, (refl, refl, same))
    (ap (λ (r : Records). get r.holds c.args.reference) same ∙ insert_here text_total (current_records old).holds c.args.reference hold)
    (λ _. tt)
