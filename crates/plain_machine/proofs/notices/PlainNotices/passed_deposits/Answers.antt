use Rattle.std.proofs.Common.{ℕ, List, subst}
use Rattle.std.specs.Prelude.{◌≡◌, IfOk}
use Rattle.custody_machine.specs.Machine.{passed_deposit}
use Rattle.plain_machine.proofs.NoticeRows.{filter_shown}
use Rattle.plain_machine.proofs.notices.PlainNotices.passed_deposits.Goals as goal

pub returns : goal.returns
returns c =
    subst (λ (all : List (ℕ × List ℕ)). IfOk c.read_all_passed.result (λ passed. passed.items ≡ all))
    (filter_shown c.args.self.now.rows.items c.deref.result.now c.deref.ensures.value c.args.self.now.rising (passed_deposit c.args.tld.now)) c.read_all_passed.ensures
