use Rattle.std.proofs.Common.{◌≡◌, ℕ, length, false, refl, sym, ◌∙◌, ap, subst, Ok, Err, inr}
use Rattle.std.specs.FinMap.{get}
use Rattle.std.specs.Option.{option_map}
use Rattle.schedule.specs.Schedule.{day_of}
use Rattle.vault_volume.specs.Extents.{AreUsed, IsInAny, GivesBack}
use Rattle.vault_volume.specs.Vault.{volume_of, IsFree}
use Rattle.custody_records.specs.Form.{form_of}
use Rattle.custody_records.specs.Keys.{PartKey}
use Rattle.custody_records.specs.Purge.{dropped_if_among}
use Rattle.custody_store.specs.Dropping.{rows_without_bytes}
use Rattle.custody_machine.specs.Machine.{Purge, OfPurge, Accepted}
use Rattle.custody_machine.specs.Purge.{IsDueBlock, count_due_records, due_keys, records_without_due}
use Rattle.custody_machine.specs.Rulings.{DropsBytes, GoRuling}
use Rattle.custody_machine.proofs.DueKeys.{count_keys}
use Rattle.custody.specs.declared.answers.Record.TheVariants as of
use Rattle.custody.specs.declared.open_custody.OpenCustody.{OpenCustody}
use Rattle.custody.specs.OpenCustody.{current_records, store_state_of}
use Rattle.custody.proofs.Done.{failed_as, commits_done, commits_in_doubt}
use Rattle.custody.proofs.PurgeLemmas.{purge_means}
use Rattle.custody.proofs.Purges.{dropped_records, unlisted_done, purge_change, due_are_used, purge_goes_on}
use Rattle.custody.proofs.open_custody.OpenCustody.drop_bytes.Goals as goal

pub returns-in_err-due : goal.returns-in_err-due
returns-in_err-due g c = failed_as c.from_residual.ensures.1 (unlisted_done g.S.Store c.args.self.now c.requires.order c.args.now c.requires.ruled)

pub returns-in_err-drop_bytes : goal.returns-in_err-drop_bytes
returns-in_err-drop_bytes g c =
    let old = c.args.self.now in
    let database = g.S.Store in
    let keys = c.deref.ensures.value ∙ c.in_ok-due.ensures.keys ∙ ap (λ today. due_keys today (current_records old)) c.day.ensures.value in
    commits_in_doubt database old c.requires.order Purge c.args.now (record { vault = old.vault; store = c.drop_bytes.new.self; records = old.records }) _ _
    (purge_change database old c.requires.order c.args.now c.requires.ruled old.vault refl c.drop_bytes.new.self old.records)
    (Err c.in_err-drop_bytes.field-0.0) _ c.in_err-drop_bytes.ensures.commits
    (λ is. (ap (λ keys. form_of (rows_without_bytes keys (store_state_of database old).rows)) keys ∙ purge_means (day_of c.args.now) (store_state_of database old).rows (current_records old) is.0, is.1))
    c.in_err-drop_bytes.ensures.kind c.from_residual-in_err-drop_bytes.ensures.1
    (GoRuling DropsBytes, c.requires.ruled, inr refl)

pub give_back-requires-clause-used : goal.give_back-requires-clause-used
give_back-requires-clause-used g c =
    let old = c.args.self.now in
    let due = c.in_ok-due.due.extents.items in
    subst (λ due. AreUsed (g.V.Volume.size (volume_of old.vault)) (IsFree old.vault) due) (sym c.deref-3.ensures.value)
    (due_are_used g.S.Store old c.requires.order c.args.now c.requires.ruled due
    (subst (λ today. (b : ℕ) → (IsInAny due b → IsDueBlock today (current_records old) b) × (IsDueBlock today (current_records old) b → IsInAny due b)) c.day.ensures.value c.in_ok-due.ensures.exact)
    c.in_ok-due.ensures.in_range)

pub returns : goal.returns
returns g c =
    let old = c.args.self.now in
    let database = g.S.Store in
    let today = c.day.ensures.value in
    let due = c.in_ok-due.due.extents.items in
    let keys : c.in_ok-due.due.keys.items ≡ due_keys (day_of c.args.now) (current_records old) = c.in_ok-due.ensures.keys ∙ ap (λ day. due_keys day (current_records old)) today in
    let new : OpenCustody g.row.V.Denot g.row.S.Denot g.V.Volume = record { vault = c.give_back.new.self; store = c.drop_bytes.new.self; records = c.drop_bytes-2.new.self } in
    let same : current_records new ≡ records_without_due (day_of c.args.now) (current_records old) =
    c.drop_bytes-2.ensures.others
    ∙ dropped_records (day_of c.args.now) (current_records old) (current_records new).parts
    (subst (λ keys. (key : PartKey) → get (current_records new).parts key ≡ option_map (dropped_if_among keys key) (get (current_records old).parts key)) (c.deref-2.ensures.value ∙ keys) c.drop_bytes-2.ensures.parts) in
    let count : c.len-count.result ≡ count_due_records (day_of c.args.now) (current_records old) = c.len-count.ensures ∙ c.in_ok-due.due.keys.ok.0 ∙ ap length keys ∙ count_keys (day_of c.args.now) (current_records old) in
    commits_done database old c.requires.order Purge c.args.now new _ _
    (purge_goes_on database old c.requires.order c.args.now c.requires.ruled due
    (subst (λ day. (b : ℕ) → (IsInAny due b → IsDueBlock day (current_records old) b) × (IsDueBlock day (current_records old) b → IsInAny due b)) today c.in_ok-due.ensures.exact)
    c.give_back.new.self c.give_back.ensures.volume c.drop_bytes.new.self c.drop_bytes-2.new.self
    (subst (λ es. GivesBack (IsFree old.vault) es (IsFree c.give_back.new.self)) c.deref-3.ensures.value c.give_back.ensures.given_back))
    (Ok _) _ c.in_ok-drop_bytes.ensures.commits
    (λ is. (ap (λ keys. form_of (rows_without_bytes keys (store_state_of database old).rows)) (c.deref.ensures.value ∙ keys) ∙ purge_means (day_of c.args.now) (store_state_of database old).rows (current_records old) is.0, is.1))
    refl same (record { «record» = of.Purge c.len-count.result; is_repeat = false }) refl
    (λ i. Accepted (record { entry = OfPurge (count i); is_repeat = false }))
    (GoRuling DropsBytes, c.requires.ruled, ((λ i. record { «record» = of.Purge (count i); is_repeat = false }), same))
    tt
    (λ _. tt)
