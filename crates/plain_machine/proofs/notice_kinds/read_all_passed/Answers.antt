use Rattle.std.proofs.Common.{ℕ, List, [], ◌∷◌, ◌++◌, sym, ap, ◌∙◌, arith}
use Rattle.std.specs.List.{filter_map}
use Rattle.custody_records.specs.TypedRecords.{notice_entry}
use Rattle.custody_machine.specs.Machine.{passed_deposit}
use Rattle.plain_machine.proofs.NoticeRows.{filter_more}
use Rattle.plain_machine.proofs.notice_kinds.read_all_passed.Goals as goal

pub loop-notice-preserved : goal.loop-notice-preserved
loop-notice-preserved c =
    let n = c.notice-item.result in
    c.in_ok-push_passed.ensures ∙ ap (λ (l : List (ℕ × List ℕ)). l ++ filter_map (λ m. passed_deposit c.args.tld.now (notice_entry m)) (n ∷ [])) c.loop-notice.invariant
    ∙ sym (filter_more (λ m. passed_deposit c.args.tld.now (notice_entry m)) c.args.rows.now c.loop-notice.notice-index n (omega arith) c.notice-item.is)
