use Rattle.std.proofs.Common.{false, ◌≡◌, refl, ◌∙◌, ap, Ok, Err, inr}
use Rattle.std.specs.FinMap.{get}
use Rattle.custody_records.specs.MemoryRecords.{records_of}
use Rattle.custody_records.specs.inside.Orders.{notice_total}
use Rattle.custody_records.specs.Records.{Records, with_notice}
use Rattle.custody_records.specs.Keys.{NoticeKey}
use Rattle.desk.specs.declared.notices.NoticeKind.TheVariants.{Absence}
use Rattle.custody_machine.specs.Machine.{Check, OfNotice, Accepted, absence_notice, next_key}
use Rattle.custody_machine.specs.Rulings.{AddsAbsence, GoRuling}
use Rattle.custody_machine.proofs.Accepting.{insert_here}
use Rattle.custody_machine.proofs.Entries.{next_is_new}
use Rattle.custody.specs.declared.answers.Record.TheVariants as of
use Rattle.custody.specs.declared.open_custody.OpenCustody.{OpenCustody}
use Rattle.custody.specs.OpenCustody.{current_records, store_state_of}
use Rattle.custody.proofs.Done.{failed_as, commits_done, commits_in_doubt}
use Rattle.custody.proofs.NewNotices.{notice_means}
use Rattle.custody.proofs.Absences.{unreserved_done, absence_change}
use Rattle.custody.proofs.open_custody.OpenCustody.keep_absence.Goals as goal

pub returns-in_err-number : goal.returns-in_err-number
returns-in_err-number g c = failed_as c.from_residual.ensures.1 (unreserved_done g.S.Store c.args.self.now c.requires.order c.args.tld c.args.day c.args.now c.requires.ruled c.reserve_number.new.records c.in_err-number.ensures.same)

pub returns-in_err-insert_notice : goal.returns-in_err-insert_notice
returns-in_err-insert_notice g c =
    let old = c.args.self.now in
    let tld = c.args.tld in
    let key : ◌≡◌ {A = NoticeKey} (record { tld = tld; number = c.in_ok-number.number }) (next_key (current_records old).notices tld) = λ i. record { tld = tld; number = c.in_ok-number.ensures.next i } in
    let notice = absence_notice c.args.day c.args.now in
    commits_in_doubt g.S.Store old c.requires.order (Check tld c.args.day) c.args.now (record { vault = old.vault; store = c.insert_notice.new.self; records = c.reserve_number.new.records }) _ _
    (absence_change g.S.Store old c.requires.order tld c.args.day c.args.now c.requires.ruled c.insert_notice.new.self c.reserve_number.new.records).change
    (Err c.in_err-insert_notice.field-0.0) _ c.in_err-insert_notice.ensures.commits
    (λ is. (
      notice_means (current_records old) tld (record { tld = tld; number = c.in_ok-number.number }) notice notice key refl c.in_ok-number.ensures.small c.in_err-insert_notice.ensures.in_form (store_state_of g.S.Store old).rows is.0,
      is.1,
    ))
    c.in_err-insert_notice.ensures.kind c.from_residual-in_err-insert_notice.ensures.1
    (GoRuling (AddsAbsence tld c.args.day), c.requires.ruled, inr refl)

pub add_notice-requires-clause-new : goal.add_notice-requires-clause-new
add_notice-requires-clause-new g c =
    let old = c.args.self.now in
    (λ i. get (c.in_ok-number.ensures.same i).notices (record { tld = c.args.tld; number = c.in_ok-number.ensures.next i })) ∙ next_is_new (current_records old).notices c.args.tld

pub returns : goal.returns
returns g c =
    let old = c.args.self.now in
    let tld = c.args.tld in
    let key : ◌≡◌ {A = NoticeKey} (record { tld = tld; number = c.in_ok-number.number }) (next_key (current_records old).notices tld) = λ i. record { tld = tld; number = c.in_ok-number.ensures.next i } in
    let notice = absence_notice c.args.day c.args.now in
    let new : OpenCustody g.row.V.Denot g.row.S.Denot g.V.Volume = record { vault = old.vault; store = c.insert_notice.new.self; records = c.add_notice.new.self } in
    let same : current_records new ≡ with_notice (current_records old) (next_key (current_records old).notices tld) notice = c.add_notice.ensures ∙ (λ i. with_notice (c.in_ok-number.ensures.same i) (key i) notice) in
    commits_done g.S.Store old c.requires.order (Check tld c.args.day) c.args.now new _ _
    (absence_change g.S.Store old c.requires.order tld c.args.day c.args.now c.requires.ruled c.insert_notice.new.self c.add_notice.new.self)
    (Ok tt) _ c.in_ok-insert_notice.ensures.commits
    (λ is. (
      notice_means (current_records old) tld (record { tld = tld; number = c.in_ok-number.number }) notice notice key refl c.in_ok-number.ensures.small c.in_ok-insert_notice.ensures.in_form (store_state_of g.S.Store old).rows is.0,
      is.1,
    ))
    refl same (record { «record» = of.Notice (record { number = c.in_ok-number.number; tld = tld; day = c.args.day; at = c.args.now; kind = Absence }); is_repeat = false }) refl
    (λ i. Accepted (record { entry = OfNotice (key i) notice; is_repeat = false }))
    (GoRuling (AddsAbsence tld c.args.day), c.requires.ruled, ((λ i. OfNotice (key i) notice), refl, same))
    (ap (λ (r : Records). get r.notices (record { tld = tld; number = c.in_ok-number.number })) c.add_notice.ensures ∙ insert_here notice_total (records_of c.reserve_number.new.records).notices (record { tld = tld; number = c.in_ok-number.number }) notice)
    (λ _. tt)
