use Rattle.std.proofs.Common.{◌≡◌, ◌∙◌, Bool, true, false, ◌&&◌, Option, BTreeSet, sym, ap, subst}
use Rattle.std.specs.Prelude.{IfNone, IfSome}
use Rattle.std.specs.BTreeSet.{contains}
use Rattle.custody_records.specs.Keys.{NoticeKey, PartKey, notice_cmp, part_cmp}
use Rattle.custody_records.specs.MemoryRecords.{records_of}
use Rattle.custody_records.specs.Records.{Notice, PartRecord}
use Rattle.custody_records.specs.RegistryRows.{rows_left}
use Rattle.custody_records.specs.TypedRecords.{key_of_part, notice_key, notice_value, part_value}
use Rattle.custody_rules.specs.declared.unique_keys.FailedRevision.{FailedRevision}
use Rattle.custody_rules.specs.inside.Links.{each_passes, is_notice_linked, is_part_linked}
use Rattle.custody_rules.specs.inside.Orders.{failed_revision_cmp}
use Rattle.custody_rules.specs.inside.UniqueKeys.{HaveNoRivals, has_failed}
use Rattle.custody_rules.proofs.LinkLemmas.{all_linked, linked_only, some_broken, passes, parts_test, notices_test, references_test}
use Rattle.custody_rules.proofs.Tables.{all_rows}
use Rattle.custody_rules.proofs.links.are_linked.Goals as goal
use Rattle.custody_rules.proofs.links.are_linked.Goals.{then-parts_are_linked, else-parts_are_linked, then-notices_are_linked, else-notices_are_linked}

both : (value result p n r : Bool) → value ≡ (p && n) → result ≡ (value && r) → result ≡ (p && (n && r))
both value result true n r e f = f ∙ ap (λ b. b && r) e
both value result false n r e f = f ∙ ap (λ b. b && r) e

-- the answer is that of the tests
answer_is : (c : goal.After-drop-failed) → c.if-notices_are_linked.result ≡ passes (records_of c.args.records.now)
answer_is c =
    let all = records_of c.args.records.now in
    let same : (t : FailedRevision) → contains failed_revision_cmp c.in-Some.failed t ≡ has_failed all.notices t =
    subst {A = Option (BTreeSet FailedRevision)} (λ found. IfSome found (λ failed. (t : FailedRevision) → contains failed_revision_cmp failed t ≡ has_failed all.notices t)) c.in-Some.is c.in_ok-failed.ensures.failed in
    let parts : c.parts_are_linked.result ≡ parts_test all =
    c.parts_are_linked.ensures
    ∙ all_rows part_cmp key_of_part part_value (rows_left c.parts.result) all.parts c.parts.ensures.all c.parts.ensures.rising (λ (e : PartKey × PartRecord). is_part_linked all (contains failed_revision_cmp c.in-Some.failed) e.0 e.1)
    ∙ (λ i. each_passes (is_part_linked all (λ t. same t i)) all.parts) in
    let value : c.if-parts_are_linked.value ≡ (parts_test all && notices_test all) = elim c.if-parts_are_linked.branch [
      | then-parts_are_linked w ↦
          let rows = w.notices in
          let notices : w.notices_are_linked.result ≡ notices_test all =
          w.notices_are_linked.ensures ∙ all_rows notice_cmp notice_key notice_value (rows_left rows.result) all.notices rows.ensures.all rows.ensures.rising (λ (e : NoticeKey × Notice). is_notice_linked all e.0 e.1) in
          w.value-is ∙ (notices ∙ ap (λ b. b && notices_test all) (sym (sym parts ∙ w.if-parts_are_linked.true)))
      | else-parts_are_linked w ↦ w.value-is ∙ (w.if-parts_are_linked.false ∙ ap (λ b. b && notices_test all) (sym (sym parts ∙ w.if-parts_are_linked.false)))
    ] in
    let result : c.if-notices_are_linked.result ≡ (c.if-parts_are_linked.value && references_test all) = elim c.if-notices_are_linked.branch [
      | then-notices_are_linked w ↦
          w.result-is ∙ (w.references_are_linked.ensures ∙ ap (λ b. b && references_test all) (sym w.if-notices_are_linked.true))
      | else-notices_are_linked w ↦ w.result-is ∙ (w.if-notices_are_linked.false ∙ ap (λ b. b && references_test all) (sym w.if-notices_are_linked.false))
    ] in
    both c.if-parts_are_linked.value c.if-notices_are_linked.result (parts_test all) (notices_test all) (references_test all) value result

pub returns-in_default-clause-broken : goal.returns-in_default-clause-broken
returns-in_default-clause-broken c = λ _ linked.
    let all = records_of c.args.records.now in
    let twice : ¬ HaveNoRivals all.notices = subst {A = Option (BTreeSet FailedRevision)} (λ found. IfNone found (¬ HaveNoRivals all.notices)) c.in_default.is c.in_ok-failed.ensures.twice in
    twice (linked_only all linked)

pub returns-clause-linked : goal.returns-clause-linked
returns-clause-linked c = λ is_true.
    let all = records_of c.args.records.now in
    let only : HaveNoRivals all.notices = subst {A = Option (BTreeSet FailedRevision)} (λ found. IfSome found (λ _. HaveNoRivals all.notices)) c.in-Some.is c.in_ok-failed.ensures.once in
    all_linked all only (sym (answer_is c) ∙ is_true)

pub returns-clause-broken : goal.returns-clause-broken
returns-clause-broken c = λ is_false. some_broken (records_of c.args.records.now) (sym (answer_is c) ∙ is_false)
