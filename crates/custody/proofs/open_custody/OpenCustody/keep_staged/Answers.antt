use Rattle.std.proofs.Common.{false, ◌≡◌, refl, sym, ◌∙◌, subst, Result, Ok, Err, Some, inr}
use Rattle.custody_records.specs.Records.{key_of, with_part, staged_record}
use Rattle.custody_machine.specs.Machine.{Receive}
use Rattle.custody_machine.specs.Rulings.{AddsPart, GoRuling}
use Rattle.custody.specs.declared.answers.Record.TheVariants as of
use Rattle.custody.specs.declared.answers.Record.{Record}
use Rattle.custody.specs.ReplyRecords.{IsRecordOfPart}
use Rattle.custody.specs.declared.open_custody.OpenCustody.{OpenCustody}
use Rattle.custody.specs.OpenCustody.{current_records, store_state_of}
use Rattle.custody.proofs.Done.{commits_done, commits_in_doubt}
use Rattle.custody.proofs.KeptPart.{kept_means, kept_change, kept_ruled, kept_shown, kept_holds, kept_entry}
use Rattle.custody_store.specs.StoreState.{Commits, store_state}
use Rattle.sqlite.specs.Store.{Ghosts}
use Rattle.sqlite.specs.Held.{Held}
use Rattle.custody_records.specs.Rows.{Rows, with_part_row}
use Rattle.custody_records.specs.RowsOfRecords.{row_of_part}
use Rattle.custody.proofs.open_custody.OpenCustody.keep_staged.Goals as goal

-- what is committed over a store is committed over one that is the same
over_same : {S A E : Type 0} (database : Ghosts S) (first same new : Held S) (after : Rows → Rows) (result : Result A E) → first ≡ same
    → Commits (store_state database first) (store_state database new) (after (store_state database first).rows) result → Commits (store_state database same) (store_state database new) (after (store_state database same).rows) result
over_same database first same new after result is commits = subst (λ s. Commits (store_state database s) (store_state database new) (after (store_state database s).rows) result) is commits

pub returns-in_err-extents : goal.returns-in_err-extents
returns-in_err-extents g c = λ old text bytes order ruled staged.
    let new : OpenCustody g.row.V.Denot g.row.S.Denot g.V.Volume = record { vault = c.args.self.now.vault; store = c.insert_part.new.self; records = c.args.self.now.records } in
    commits_in_doubt g.S.Store old order (Receive text bytes) c.args.now new _ _
    (kept_change old new text bytes c.args.now c.args.name.now order ruled c.args.staged staged.placed g.S.Store staged.size staged.failures staged.settled staged.any_moment).change
    (Err c.in_err-extents.field-0.0) _ (over_same g.S.Store c.args.self.now.store old.store c.insert_part.new.self (with_part_row (row_of_part (key_of c.args.name.now) (staged_record c.args.name.now c.args.now c.args.staged))) (Err c.in_err-extents.field-0.0) staged.store c.in_err-extents.ensures.commits)
    (λ is. (kept_means old new text bytes c.args.now c.args.name.now order ruled c.args.staged staged.placed c.in_err-extents.ensures.in_form (store_state_of g.S.Store old).rows is.0, is.1))
    c.in_err-extents.ensures.kind c.from_residual.ensures.1
    (GoRuling (AddsPart c.args.name.now), ruled, inr (inr refl))

pub returns : goal.returns
returns g c = λ old text bytes order ruled staged.
    let new : OpenCustody g.row.V.Denot g.row.S.Denot g.V.Volume = record { vault = c.args.self.now.vault; store = c.insert_part.new.self; records = c.add_part.new.self } in
    let changed = with_part (current_records old) (key_of c.args.name.now) (staged_record c.args.name.now c.args.now c.args.staged) in
    let handed = c.in_ok-extents.ensures.handed in
    let same : current_records new ≡ changed = c.add_part.ensures
    ∙ (λ i. with_part (staged.records i) (key_of c.args.name.now) (record { kind = c.args.name.now.kind; received = c.args.now; len = handed.1 i; digest = handed.2 i; extents = Some (handed.0 i) })) in
    let told : Record = of.Part c.args.name.now c.args.now c.in_ok-extents.len c.in_ok-extents.digest c.copy_into.result in
    let shows : IsRecordOfPart told c.args.name.now (staged_record c.args.name.now c.args.now c.args.staged) =
    (refl, λ i. record { kind = c.args.name.now.kind; received = c.args.now; len = sym handed.1 i; digest = sym handed.2 i; extents = Some ((sym handed.0 ∙ sym (c.copy_into.ensures ∙ c.deref.ensures.value)) i) }) in
    commits_done g.S.Store old order (Receive text bytes) c.args.now new _ _
    (kept_change old new text bytes c.args.now c.args.name.now order ruled c.args.staged staged.placed g.S.Store staged.size staged.failures staged.settled staged.any_moment)
    (Ok (c.in_ok-extents.extents, c.in_ok-extents.len, c.in_ok-extents.digest)) _ (over_same g.S.Store c.args.self.now.store old.store c.insert_part.new.self (with_part_row (row_of_part (key_of c.args.name.now) (staged_record c.args.name.now c.args.now c.args.staged))) (Ok (c.in_ok-extents.extents, c.in_ok-extents.len, c.in_ok-extents.digest)) staged.store c.in_ok-extents.ensures.commits)
    (λ is. (kept_means old new text bytes c.args.now c.args.name.now order ruled c.args.staged staged.placed c.in_ok-extents.ensures.in_form (store_state_of g.S.Store old).rows is.0, is.1))
    refl same (record { «record» = told; is_repeat = false }) refl
    (kept_entry old new text bytes c.args.now c.args.name.now order ruled c.args.staged staged.placed same told shows)
    (kept_ruled old new text bytes c.args.now c.args.name.now order ruled c.args.staged staged.placed same told shows)
    (kept_shown old new text bytes c.args.now c.args.name.now order ruled c.args.staged staged.placed same told shows)
    (λ tells. kept_holds old new text bytes c.args.now c.args.name.now order ruled c.args.staged staged.placed same told shows (staged.settled tells).holds)
