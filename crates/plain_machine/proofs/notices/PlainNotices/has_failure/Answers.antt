use Rattle.std.proofs.Common.{◌∙◌, rules, tests}
use Rattle.std.proofs.lemmas.Iterator.{YieldsList-from_slice}
use Rattle.std.proofs.lemmas.Iterator.Search.{any_from_yields_List}
use Rattle.custody_records.specs.TypedRecords.{notice_entry}
use Rattle.custody_machine.specs.State.{is_notice_of}
use Rattle.custody_machine.specs.Machine.{is_failure_of}
use Rattle.plain_machine.proofs.NoticeRows.{any_shown}
use Rattle.plain_machine.proofs.notices.PlainNotices.has_failure.Goals as goal

pub returns : goal.returns
returns c =
    any_from_yields_List (λ n. is_notice_of c.args.tld.now c.args.day (is_failure_of c.args.rev) (notice_entry n)) _ _ _ c.any.ensures.ran (YieldsList-from_slice c.deref.result.now cc) (λ x b q k. search (rules, tests))
    ∙ any_shown c.args.self.now.rows.items c.deref.result.now c.deref.ensures.value c.args.self.now.rising (is_notice_of c.args.tld.now c.args.day (is_failure_of c.args.rev))
