use Rattle.std.proofs.Common.{rules, tests, sym, subst, nat_lt}
use Rattle.std.proofs.lemmas.Result.{IfOk-weaker}
use Rattle.std.proofs.lemmas.Iterator.{YieldsList-from_slice, items_from_collect}
use Rattle.std.proofs.lemmas.Iterator.Consumers.{YieldsList-at, YieldsList-from_copied, YieldsList-from_filter}
use Rattle.desk.specs.declared.notices.Notice.{Notice}
use Rattle.custody_records.specs.Keys.{NoticeKey}
use Rattle.custody_records.specs.MemoryRecords.{records_of}
use Rattle.custody_machine.specs.Explaining.{records_before}
use Rattle.custody_rules.specs.Explaining.{AreNoticesOf}
use Rattle.custody_rules.proofs.Explained.{rows_before}
use Rattle.custody_rules.proofs.explaining.notices_before.Goals as goal

pub returns : goal.returns
returns c =
    let records = records_of c.args.records.now in
    let key : NoticeKey = record { tld = c.args.tld.now; number = c.args.number } in
    IfOk-weaker c.collect.result _ _ (λ notices is. subst (AreNoticesOf (records_before records key) key.tld) (sym is) (rows_before records key c.notices_of.result.now c.notices_of.ensures))
    (items_from_collect c.collect.result c.collect.ensures.ran (YieldsList-from_copied (YieldsList-at c.copied.ensures.source (YieldsList-from_filter _ (λ (n : Notice). nat_lt n.number c.args.number)
    (YieldsList-at c.filter.ensures.source (YieldsList-from_slice c.notices_of.result.now cc)) c.filter.ensures.closure (λ x b q k. search (rules, tests))))))
