use Rattle.std.proofs.Common.{false, ◌≡◌, ◌≤◌, refl, sym, ◌∙◌, ap, subst, Ok, Err, inl, inr}
use Rattle.std.specs.FinMap.{get}
use Rattle.custody_records.specs.MemoryRecords.{records_of, HasNoticeRoom}
use Rattle.custody_records.specs.inside.Orders.{notice_total}
use Rattle.custody_records.specs.Records.{Records, with_notice}
use Rattle.custody_records.specs.Rows.{greatest_integer}
use Rattle.custody_records.specs.Keys.{NoticeKey}
use Rattle.custody_records.specs.TypedRecords.{notice_key, notice_value}
use Rattle.custody_machine.specs.Machine.{Statement, OfNotice, Accepted, next_key, verdict_notice}
use Rattle.custody_machine.specs.Rulings.{AddsVerdict, GoRuling}
use Rattle.custody_machine.proofs.Accepting.{insert_here}
use Rattle.custody_machine.proofs.Entries.{next_is_new}
use Rattle.custody.specs.declared.answers.Record.TheVariants as of
use Rattle.custody.specs.declared.open_custody.OpenCustody.{OpenCustody}
use Rattle.custody.specs.OpenCustody.{current_records, store_state_of, image_of, HasExecuted}
use Rattle.custody.specs.inside.Verifying.{HasFirstPart, IsVerified}
use Rattle.custody.proofs.OpenCustodyLemmas.{err_is}
use Rattle.custody.proofs.Done.{failed_as, commits_done, commits_in_doubt}
use Rattle.custody.proofs.NewNotices.{notice_means}
use Rattle.custody.proofs.Verdicts.{first_recorded, unreserved_done, unverified_done, verdict_change}
use Rattle.custody.proofs.open_custody.OpenCustody.keep_verdict.Goals as goal

pub returns-in_err-number : goal.returns-in_err-number
returns-in_err-number g c = failed_as c.from_residual.ensures.1 (unreserved_done g.S.Store c.args.self.now c.requires.order c.args.statement.now c.args.now c.requires.ruled c.reserve_number.new.records c.in_err-number.ensures.same)

pub verify_stated-requires-clause-first : goal.verify_stated-requires-clause-first
verify_stated-requires-clause-first g c =
    subst (λ r. HasFirstPart r c.args.statement.now) (sym c.in_ok-number.ensures.same) (first_recorded (current_records c.args.self.now) c.requires.order.whole c.args.statement.now c.args.now c.requires.ruled)

pub returns-in_err-verdict : goal.returns-in_err-verdict
returns-in_err-verdict g c =
    let old = c.args.self.now in
    let new : OpenCustody g.row.V.Denot g.row.S.Denot g.V.Volume = record { vault = c.verify_stated.new.vault; store = old.store; records = c.reserve_number.new.records } in
    let h = c.in_err-verdict.ensures in
    subst (λ answer. HasExecuted g.S.Store old (Statement c.args.statement.now) c.args.now answer new) (sym (err_is _ c.in_err-verdict.field-0.0 c.from_residual-in_err-verdict.ensures.1))
    (unverified_done g.S.Store old c.requires.order c.args.statement.now c.args.now c.requires.ruled new c.in_ok-number.ensures.same refl h.read c.in_err-verdict.field-0.0 h.failures
    (λ tells. subst (λ r. IsVerified (Err c.in_err-verdict.field-0.0) r (image_of old) c.args.statement.now) c.in_ok-number.ensures.same (h.verified tells)))

pub returns-in_err-insert_notice : goal.returns-in_err-insert_notice
returns-in_err-insert_notice g c =
    let old = c.args.self.now in
    let stated = c.args.statement.now in
    let found = c.in_ok-verdict.verdict in
    let h = c.in_ok-verdict.ensures in
    let number = c.in_ok-number.ensures.next in
    let key : notice_key c.notice_of-notice.result ≡ next_key (current_records old).notices stated.tld = c.notice_of-notice.ensures.key ∙ (λ i. record { tld = stated.tld; number = number i }) in
    let new : OpenCustody g.row.V.Denot g.row.S.Denot g.V.Volume = record { vault = c.verify_stated.new.vault; store = c.insert_notice.new.self; records = c.reserve_number.new.records } in
    commits_in_doubt g.S.Store old c.requires.order (Statement stated) c.args.now new _ _
    (verdict_change g.S.Store old c.requires.order stated c.args.now c.requires.ruled found new h.read h.failures (λ tells. subst (λ r. IsVerified (Ok found) r (image_of old) stated) c.in_ok-number.ensures.same (h.verified tells))).change
    (Err c.in_err-insert_notice.field-0.0) _ c.in_err-insert_notice.ensures.commits
    (λ is. (
      notice_means (current_records old) stated.tld (notice_key c.notice_of-notice.result) (notice_value c.notice_of-notice.result) (verdict_notice stated found c.args.now) key c.notice_of-notice.ensures.value
          (subst (λ (k : NoticeKey). k.number ≤ greatest_integer) (sym c.notice_of-notice.ensures.key) c.in_ok-number.ensures.small) c.in_err-insert_notice.ensures.in_form (store_state_of g.S.Store old).rows is.0,
      is.1,
    ))
    c.in_err-insert_notice.ensures.kind c.from_residual-in_err-insert_notice.ensures.1
    (GoRuling (AddsVerdict stated), c.requires.ruled, inr (inr (inl refl)))

pub add_notice-requires-clause-room : goal.add_notice-requires-clause-room
add_notice-requires-clause-room g c = subst (λ (k : NoticeKey). HasNoticeRoom k.tld c.reserve_number.new.records) (sym c.notice_of-notice.ensures.key) c.in_ok-number.ensures.room

pub add_notice-requires-clause-new : goal.add_notice-requires-clause-new
add_notice-requires-clause-new g c =
    let old = c.args.self.now in
    let stated = c.args.statement.now in
    let number = c.in_ok-number.ensures.next in
    let key : notice_key c.notice_of-notice.result ≡ next_key (current_records old).notices stated.tld = c.notice_of-notice.ensures.key ∙ (λ i. record { tld = stated.tld; number = number i }) in
    (λ i. get (c.in_ok-number.ensures.same i).notices (key i)) ∙ next_is_new (current_records old).notices stated.tld

pub returns : goal.returns
returns g c =
    let old = c.args.self.now in
    let stated = c.args.statement.now in
    let found = c.in_ok-verdict.verdict in
    let h = c.in_ok-verdict.ensures in
    let number = c.in_ok-number.ensures.next in
    let key : notice_key c.notice_of-notice.result ≡ next_key (current_records old).notices stated.tld = c.notice_of-notice.ensures.key ∙ (λ i. record { tld = stated.tld; number = number i }) in
    let value : notice_value c.notice_of-notice.result ≡ verdict_notice stated found c.args.now = c.notice_of-notice.ensures.value in
    let new : OpenCustody g.row.V.Denot g.row.S.Denot g.V.Volume = record { vault = c.verify_stated.new.vault; store = c.insert_notice.new.self; records = c.add_notice.new.self } in
    let same : current_records new ≡ with_notice (current_records old) (next_key (current_records old).notices stated.tld) (verdict_notice stated found c.args.now) = c.add_notice.ensures ∙ (λ i. with_notice (c.in_ok-number.ensures.same i) (key i) (value i)) in
    commits_done g.S.Store old c.requires.order (Statement stated) c.args.now new _ _
    (verdict_change g.S.Store old c.requires.order stated c.args.now c.requires.ruled found new h.read h.failures (λ tells. subst (λ r. IsVerified (Ok found) r (image_of old) stated) c.in_ok-number.ensures.same (h.verified tells)))
    (Ok tt) _ c.in_ok-insert_notice.ensures.commits
    (λ is. (
      notice_means (current_records old) stated.tld (notice_key c.notice_of-notice.result) (notice_value c.notice_of-notice.result) (verdict_notice stated found c.args.now) key c.notice_of-notice.ensures.value
          (subst (λ (k : NoticeKey). k.number ≤ greatest_integer) (sym c.notice_of-notice.ensures.key) c.in_ok-number.ensures.small) c.in_ok-insert_notice.ensures.in_form (store_state_of g.S.Store old).rows is.0,
      is.1,
    ))
    refl same (record { «record» = of.Notice c.notice_of-notice.result; is_repeat = false }) refl
    (λ i. Accepted (record { entry = OfNotice (key i) (value i); is_repeat = false }))
    (GoRuling (AddsVerdict stated), c.requires.ruled, (found, (λ i. OfNotice (key i) (value i)), refl, same))
    (ap (λ (r : Records). get r.notices (notice_key c.notice_of-notice.result)) c.add_notice.ensures ∙ insert_here notice_total (records_of c.reserve_number.new.records).notices (notice_key c.notice_of-notice.result) (notice_value c.notice_of-notice.result))
    (λ _. tt)
