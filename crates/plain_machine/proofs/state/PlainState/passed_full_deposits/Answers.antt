use Rattle.std.proofs.Common.{ℕ, List, ◌∙◌, ap, refl, subst, sym}
use Rattle.std.specs.Prelude.{◌≡◌, IfOk}
use Rattle.std.specs.FinMap.{entries}
use Rattle.std.specs.List.{filter, filter_map}
use Rattle.custody_records.specs.TypedRecords.{notice_entry}
use Rattle.custody_machine.specs.Machine.{passed_deposit, is_receipt_entry_of_full}
use Rattle.plain_machine.specs.Plain.{state_view}
use Rattle.plain_machine.proofs.NoticeRows.{tested_shown}
use Rattle.plain_machine.proofs.state.PlainState.passed_full_deposits.Goals as goal

pub returns : goal.returns
returns c =
    let tld = c.args.tld.now in
    let is_full = is_receipt_entry_of_full (state_view c.args.self.now) in
    subst (λ (all : List (ℕ × List ℕ)). IfOk c.read_all_passed.result (λ full. full.items ≡ all))
    (ap (filter_map (λ n. passed_deposit tld (notice_entry n))) (c.deref.ensures.value ∙ c.in_ok-full.ensures) ∙ tested_shown c.rows.result.now c.rows.result.now refl c.rows.ensures.rising is_full (passed_deposit tld)
    ∙ ap (λ notices. filter_map (passed_deposit tld) (filter is_full (entries notices))) (sym c.rows.ensures.all)) c.read_all_passed.ensures
