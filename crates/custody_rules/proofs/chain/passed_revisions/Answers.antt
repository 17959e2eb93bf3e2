use Rattle.std.proofs.Common.{◌≡◌, ℕ, ◌+◌, ◌==◌, ◌&&◌, ◌||◌, List, take, Bool, true, false, Some, None, cond, refl, sym, ◌∙◌, ap, nat_cmp, arith}
use Rattle.std.specs.BTreeMap.{is_at}
use Rattle.std.specs.BTreeSet.{BTreeSet, contains}
use Rattle.std.specs.List.{list_any}
use Rattle.std.specs.Ordering.{is_eq, ordering_then}
use Rattle.std.specs.declared.cmp.Ordering.{Ordering}
use Rattle.std.specs.declared.cmp.Ordering.TheVariants.{Less, Equal, Greater}
use Rattle.std.proofs.Math.Bool.{and-false, or-false}
use Rattle.std.proofs.lemmas.Bool.Decides.{nat_tests}
use Rattle.std.proofs.lemmas.List.Folds.{list_any_more}
use Rattle.desk.specs.declared.notices.Notice as desk
use Rattle.desk.specs.declared.notices.NoticeKind.{NoticeKind}
use Rattle.desk.specs.declared.notices.NoticeKind.TheVariants.{Receipt, Failure, Absence}
use Rattle.custody_records.specs.TypedRecords.{notice_entry}
use Rattle.custody_machine.specs.Machine.{is_receipt_of}
use Rattle.custody_machine.specs.State.{is_notice_of}
use Rattle.custody_rules.specs.declared.chain.PassedRevision.{PassedRevision}
use Rattle.custody_rules.specs.inside.Chains.{revision_if_receipt}
use Rattle.custody_rules.specs.inside.Orders.{passed_revision_cmp}
use Rattle.custody_rules.proofs.chain.passed_revisions.Goals as goal
use Rattle.custody_rules.proofs.chain.passed_revisions.Goals.{then-eq+in-Some+in_ok-insert, then-eq+in_default, else-eq}

-- what is equal in order is of the same day and revision
is_eq_numbers : (a b : ℕ) → is_eq (nat_cmp a b) ≡ (a == b)
is_eq_numbers a b = grind (arith, nat_tests)

is_eq_then : (o p : Ordering) → is_eq (ordering_then o p) ≡ (is_eq o && is_eq p)
is_eq_then Less p = refl
is_eq_then Equal p = refl
is_eq_then Greater p = refl

is_at_revision : (a b : PassedRevision) → is_at (passed_revision_cmp a) b ≡ (a.day == b.day && a.rev == b.rev)
is_at_revision a b = is_eq_then (nat_cmp a.day b.day) (nat_cmp a.rev b.rev) ∙ (λ i. is_eq_numbers a.day b.day i && is_eq_numbers a.rev b.rev i)

-- what was there, or is added
or_added : (at there : Bool) → cond at true there ≡ (there || at)
or_added true true = refl
or_added true false = refl
or_added false true = refl
or_added false false = refl

or_none : (there told : Bool) → told ≡ false → there ≡ (there || told)
or_none there told none = sym (or-false there) ∙ ap (λ b. there || b) (sym none)

abbrev tells : List ℕ → PassedRevision → desk.Notice → Bool
tells tld revision notice = is_notice_of tld revision.day (is_receipt_of revision.rev) (notice_entry notice)

-- a notice of the registry tells the revision that it is the receipt of, or none
told_own : (day : ℕ) (kind : NoticeKind) (told sought : PassedRevision) → revision_if_receipt day kind ≡ Some told
    → (day == sought.day && is_receipt_of sought.rev kind) ≡ (told.day == sought.day && told.rev == sought.rev)
told_own day (Receipt rev id) told sought is =
    let own : PassedRevision = record { day = day; rev = rev } in
    let same : own ≡ told = cc in
    ap (λ (r : PassedRevision). r.day == sought.day && r.rev == sought.rev) same
told_own day (Failure rev id check) told sought is = cc
told_own day Absence told sought is = cc

told_none : (day : ℕ) (kind : NoticeKind) (sought : PassedRevision) → revision_if_receipt day kind ≡ None → (day == sought.day && is_receipt_of sought.rev kind) ≡ false
told_none day (Receipt rev id) sought is = cc
told_none day (Failure rev id check) sought is = and-false (day == sought.day)
told_none day Absence sought is = and-false (day == sought.day)

pub loop-notice-preserved : goal.loop-notice-preserved
loop-notice-preserved c = λ revision.
    let next = c.notice-item.result in
    let of_day = next.day == revision.day && is_receipt_of revision.rev next.kind in
    let all = tells c.args.tld.now revision in
    let has = λ (passed : BTreeSet PassedRevision). contains passed_revision_cmp passed revision in
    let there = has c.loop-notice.passed in
    let step : has c.if-eq.passed ≡ (there || all next) = elim c.if-eq.branch [
      | then-eq+in-Some+in_ok-insert w ↦
          let told = w.in-Some.revision in
          let added : has c.if-eq.passed ≡ cond (is_at (passed_revision_cmp told) revision) true there = ap has w.passed-is ∙ w.in_ok-insert.ensures.updates.0 revision in
          let is : all next ≡ (told.day == revision.day && told.rev == revision.rev) =
          ap (λ b. b && of_day) (sym c.eq.ensures ∙ w.if-eq.true) ∙ told_own next.day next.kind told revision (sym w.passed_revision_of.ensures ∙ w.in-Some.is) in
          added ∙ or_added (is_at (passed_revision_cmp told) revision) there ∙ ap (λ b. there || b) (is_at_revision told revision ∙ sym is)
      | then-eq+in_default w ↦
          let untold : all next ≡ false = ap (λ b. b && of_day) (sym c.eq.ensures ∙ w.if-eq.true) ∙ told_none next.day next.kind revision (sym w.passed_revision_of.ensures ∙ w.in_default.is) in
          ap has w.passed-is ∙ or_none there (all next) untold
      | else-eq w ↦
          let untold : all next ≡ false = ap (λ b. b && of_day) (sym c.eq.ensures ∙ w.if-eq.false) in
          ap has w.passed-is ∙ or_none there (all next) untold
    ] in
    let seen = take c.loop-notice.notice-index c.args.notices.now in
    let more : list_any all (take (c.loop-notice.notice-index + 1) c.args.notices.now) ≡ (list_any all seen || all next) =
    list_any_more all c.args.notices.now c.loop-notice.notice-index next (omega arith) ∙ ap (λ n. list_any all seen || all n) (sym c.notice-item.is) in
    step ∙ ap (λ b. b || all next) (c.loop-notice.invariant revision) ∙ sym more
