use Rattle.std.proofs.Common.{◌≡◌, ◌↔◌, Bool, true, false, not, Option, Some, None, Result, Ok, Err, BTreeSet}
use Rattle.std.specs.Prelude.{IfNone, IfOk, IfSome, is_some}
use Rattle.std.specs.BTreeSet.{contains}
use Rattle.std.proofs.lemmas.Result.{IfOk-weaker}
use Rattle.custody_records.specs.MemoryRecords.{records_of}
use Rattle.custody_records.specs.RegistryRows.{rows_left}
use Rattle.custody_rules.specs.declared.unique_keys.FailedRevision.{FailedRevision}
use Rattle.custody_rules.specs.inside.Orders.{failed_revision_cmp}
use Rattle.custody_rules.specs.inside.UniqueKeys.{HaveNoRivals, HaveUniqueKeys, IsKeyAmong, has_failed, failed_revision_of, received_day_of, subject_of}
use Rattle.custody_rules.proofs.Rivals.{failures_are, failures_once, one_absence, one_receipt, one_verdict, received_days, subjects}
use Rattle.custody_rules.proofs.unique_keys.failed_revisions.Goals as goal
use Rattle.custody_rules.proofs.unique_keys.failed_revisions.Goals.{then-is_none-via-then-is_none, then-is_none-via-else-is_none+in_ok-collect_keys-2+then-is_none-2}

where_none : {A P : Type 0} (o : Option A) (none : Bool) → is_some o ≡ not none → none ≡ true → IfNone o P → P
where_none None none is there h = h
where_none (Some x) true is there h = cc
where_none (Some x) false is there h = cc

where_some : {A P : Type 0} (o : Option A) → is_some o ≡ true → IfSome o (λ _. P) → P
where_some None is h = cc
where_some (Some x) is h = h

if_none_weaker : {A P Q : Type 0} (o : Option A) → (P → Q) → IfNone o P → IfNone o Q
if_none_weaker None f h = f h
if_none_weaker (Some x) f h = tt

if_some_weaker : {A : Type 0} {P Q : A → Type 0} (o : Option A) → ((x : A) → P x → Q x) → IfSome o P → IfSome o Q
if_some_weaker None f h = tt
if_some_weaker (Some x) f h = f x h

if_any_found : {A E P : Type 0} (r : Result (Option A) E) → P → IfOk r (λ found. IfSome found (λ _. P))
if_any_found (Ok None) h = tt
if_any_found (Ok (Some x)) h = h
if_any_found (Err e) h = tt

pub returns-then-is_none-clause-twice : goal.returns-then-is_none-clause-twice
returns-then-is_none-clause-twice c = λ only.
    let notices = (records_of c.args.records.now).notices in
    elim c.then-is_none.branch [
      | then-is_none-via-then-is_none w ↦
          let rows = rows_left c.notices.result in
          let twice : ¬ HaveUniqueKeys subject_of rows = where_none c.in_ok-collect_keys.field-0 c.is_none.result c.is_none.ensures w.if-is_none.true c.in_ok-collect_keys.ensures.twice in
          twice (subjects notices rows c.notices.ensures.all c.notices.ensures.rising only)
      | then-is_none-via-else-is_none+in_ok-collect_keys-2+then-is_none-2 w ↦
          let rows = rows_left w.notices-else-is_none.result in
          let twice : ¬ HaveUniqueKeys received_day_of rows = where_none w.in_ok-collect_keys-2.field-0 w.is_none-else-is_none.result w.is_none-else-is_none.ensures w.if-is_none-2.true w.in_ok-collect_keys-2.ensures.twice in
          twice (received_days notices rows w.notices-else-is_none.ensures.all w.notices-else-is_none.ensures.rising only)
    ]

pub returns-clause-failed : goal.returns-clause-failed
returns-clause-failed c =
    let notices = (records_of c.args.records.now).notices in
    let rows = rows_left c.notices-2.result in
    IfOk-weaker c.collect_keys-2.result (λ (found : Option (BTreeSet FailedRevision)). IfSome found (λ failed. (t : FailedRevision) → (contains failed_revision_cmp failed t ≡ true) ↔ IsKeyAmong failed_revision_of rows t))
    (λ found. IfSome found (λ failed. (t : FailedRevision) → contains failed_revision_cmp failed t ≡ has_failed notices t))
    (λ found. if_some_weaker found (λ failed. failures_are notices rows c.notices-2.ensures.all c.notices-2.ensures.rising (contains failed_revision_cmp failed))) c.collect_keys-2.ensures.all

pub returns-clause-once : goal.returns-clause-once
returns-clause-once c =
    let notices = (records_of c.args.records.now).notices in
    let rows = rows_left c.notices.result in
    let rows_again = rows_left c.notices-else-is_none.result in
    let verdicts : HaveUniqueKeys subject_of rows = where_some c.in_ok-collect_keys.field-0 c.if-is_none.ensures c.in_ok-collect_keys.ensures.once in
    let receipts : HaveUniqueKeys received_day_of rows_again = where_some c.in_ok-collect_keys-2.field-0 c.if-is_none-2.ensures c.in_ok-collect_keys-2.ensures.once in
    let only : HaveNoRivals notices = record {
      one_verdict = one_verdict notices rows c.notices.ensures.all c.notices.ensures.rising verdicts;
      one_receipt = one_receipt notices rows_again c.notices-else-is_none.ensures.all c.notices-else-is_none.ensures.rising receipts;
      one_absence = one_absence notices rows c.notices.ensures.all c.notices.ensures.rising verdicts;
    } in
    if_any_found c.collect_keys-2.result only

pub returns-clause-twice : goal.returns-clause-twice
returns-clause-twice c =
    let notices = (records_of c.args.records.now).notices in
    let rows = rows_left c.notices-2.result in
    IfOk-weaker c.collect_keys-2.result (λ (found : Option (BTreeSet FailedRevision)). IfNone found (¬ HaveUniqueKeys failed_revision_of rows)) (λ found. IfNone found (¬ HaveNoRivals notices))
    (λ found. if_none_weaker found (λ twice only. twice (failures_once rows (subjects notices rows c.notices-2.ensures.all c.notices-2.ensures.rising only)))) c.collect_keys-2.ensures.twice
