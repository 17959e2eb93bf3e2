use Rattle.std.proofs.Common.{false, ◌≡◌, Some, refl, sym, ◌∙◌, ap, subst, Ok, Err, inr}
use Rattle.std.specs.FinMap.{get}
use Rattle.custody_records.specs.MemoryRecords.{records_of}
use Rattle.custody_records.specs.inside.Orders.{text_total}
use Rattle.custody_records.specs.Records as recorded_in
use Rattle.custody_records.specs.Records.{Records, with_release}
use Rattle.custody_records.specs.Rows.{with_handover_row}
use Rattle.custody_records.specs.Form.{form_of}
use Rattle.custody_records.specs.RowsOfRecords.{IsRelease, row_of_release}
use Rattle.custody_records.specs.TypedRecords.{release_key, release_value}
use Rattle.custody_machine.specs.Machine.{Release, OfRelease, Accepted}
use Rattle.custody_machine.specs.Releases.{AreRecordedNames, held_record_names, release_of_records}
use Rattle.custody_machine.specs.Rulings.{AddsRelease, GoRuling}
use Rattle.custody_machine.proofs.Accepting.{insert_here}
use Rattle.custody.specs.declared.answers.Record.TheVariants as of
use Rattle.custody.specs.declared.open_custody.OpenCustody.{OpenCustody}
use Rattle.custody.specs.OpenCustody.{current_records, store_state_of}
use Rattle.custody.proofs.Done.{failed_as, commits_done, commits_in_doubt}
use Rattle.custody.proofs.Releases.{release_change, release_means, unlisted_done}
use Rattle.custody.proofs.open_custody.OpenCustody.keep_release.Goals as goal

pub returns-in_err-release : goal.returns-in_err-release
returns-in_err-release g c = failed_as c.from_residual.ensures.1 (unlisted_done g.S.Store c.args.self.now c.requires.order c.args.reference c.args.tld c.args.reason c.args.now c.requires.ruled c.list_release.new.records c.in_err-release.ensures.same)

pub returns-in_err-insert_release : goal.returns-in_err-insert_release
returns-in_err-insert_release g c =
    let old = c.args.self.now in
    let h = c.in_ok-release in
    let release = release_of_records (current_records old) c.args.tld c.args.reason c.args.now in
    let names : AreRecordedNames (current_records old) c.args.tld (held_record_names (current_records old) c.args.tld) = subst (λ (r : recorded_in.Release). AreRecordedNames (current_records old) c.args.tld r.names) h.ensures.value h.ensures.recorded in
    let in_form : IsRelease c.args.reference release = subst (λ k. IsRelease k release) h.ensures.key (subst (IsRelease (release_key h.release)) h.ensures.value c.in_err-insert_release.ensures.in_form) in
    commits_in_doubt g.S.Store old c.requires.order (Release c.args.reference c.args.tld c.args.reason) c.args.now (record { vault = old.vault; store = c.insert_release.new.self; records = c.list_release.new.records }) _ _
    (release_change g.S.Store old c.requires.order c.args.reference c.args.tld c.args.reason c.args.now c.requires.ruled names c.insert_release.new.self c.list_release.new.records).change
    (Err c.in_err-insert_release.field-0.0) _ c.in_err-insert_release.ensures.commits
    (λ is. (
      (λ i. form_of (with_handover_row (row_of_release (h.ensures.key i) (h.ensures.value i)) (store_state_of g.S.Store old).rows))
          ∙ release_means (current_records old) c.args.reference release in_form c.requires.ruled.0.1 (store_state_of g.S.Store old).rows is.0,
      is.1,
    ))
    c.in_err-insert_release.ensures.kind c.from_residual-in_err-insert_release.ensures.1
    (GoRuling (AddsRelease c.args.reference c.args.tld c.args.reason), c.requires.ruled, inr refl)

pub returns : goal.returns
returns g c =
    let old = c.args.self.now in
    let h = c.in_ok-release in
    let release = release_of_records (current_records old) c.args.tld c.args.reason c.args.now in
    let names : AreRecordedNames (current_records old) c.args.tld (held_record_names (current_records old) c.args.tld) = subst (λ (r : recorded_in.Release). AreRecordedNames (current_records old) c.args.tld r.names) h.ensures.value h.ensures.recorded in
    let in_form : IsRelease c.args.reference release = subst (λ k. IsRelease k release) h.ensures.key (subst (IsRelease (release_key h.release)) h.ensures.value c.in_ok-insert_release.ensures.in_form) in
    let new : OpenCustody g.row.V.Denot g.row.S.Denot g.V.Volume = record { vault = old.vault; store = c.insert_release.new.self; records = c.add_release.new.self } in
    let same : current_records new ≡ with_release (current_records old) c.args.reference release = c.add_release.ensures ∙ (λ i. with_release (c.in_ok-release.ensures.same i) (h.ensures.key i) (h.ensures.value i)) in
    let told : OfRelease (release_key h.told) (release_value h.told) ≡ OfRelease c.args.reference release = (λ i. OfRelease (release_key (h.ensures.copy i)) (release_value (h.ensures.copy i))) ∙ (λ i. OfRelease (h.ensures.key i) (h.ensures.value i)) in
    commits_done g.S.Store old c.requires.order (Release c.args.reference c.args.tld c.args.reason) c.args.now new _ _
    (release_change g.S.Store old c.requires.order c.args.reference c.args.tld c.args.reason c.args.now c.requires.ruled names c.insert_release.new.self c.add_release.new.self)
    (Ok tt) _ c.in_ok-insert_release.ensures.commits
    (λ is. (
      (λ i. form_of (with_handover_row (row_of_release (h.ensures.key i) (h.ensures.value i)) (store_state_of g.S.Store old).rows))
          ∙ release_means (current_records old) c.args.reference release in_form c.requires.ruled.0.1 (store_state_of g.S.Store old).rows is.0,
      is.1,
    ))
    refl same (record { «record» = of.Release h.told; is_repeat = false }) refl
    (λ i. Accepted (record { entry = told i; is_repeat = false }))
    (GoRuling (AddsRelease c.args.reference c.args.tld c.args.reason), c.requires.ruled, (told, refl, same))
    (subst (λ r. get (current_records new).releases (release_key r) ≡ Some (release_value r)) (sym h.ensures.copy)
    (ap (λ (r : Records). get r.releases (release_key h.release)) c.add_release.ensures ∙ insert_here text_total (records_of c.list_release.new.records).releases (release_key h.release) (release_value h.release)))
    (λ _. tt)
