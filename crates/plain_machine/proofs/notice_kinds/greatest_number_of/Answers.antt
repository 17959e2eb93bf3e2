use Rattle.std.specs.Prelude.{bytes_eq}
use Rattle.std.proofs.Common.{ℕ, max, cond, sym, ap, ◌∙◌, arith}
use Rattle.plain_machine.proofs.NoticeRows.{greatest_more}
use Rattle.plain_machine.proofs.notice_kinds.greatest_number_of.Goals as goal

pub loop-notice-preserved : goal.loop-notice-preserved
loop-notice-preserved c =
    let n = c.notice-item.result in
    c.greater_of-greatest.ensures ∙ ap (λ (g : ℕ). cond (bytes_eq n.tld c.args.tld.now) (max n.number g) g) c.loop-notice.invariant
    ∙ sym (greatest_more c.args.tld.now c.args.rows.now c.loop-notice.notice-index n (omega arith) c.notice-item.is)
