-- Each failure tells of one statement, and its check is found again.
use Rattle.std.proofs.Common.{◌≡◌, ℕ, List, Some, Bool, true, false, not, ◌&&◌, ◌||◌, ◌==◌, count_by, is_some, refl, sym, ◌∙◌, ap, subst}
use Rattle.std.specs.List.{list_any}
use Rattle.std.specs.FinMap.{entries, get}
use Rattle.std.proofs.lemmas.Bool.{not-false}
use Rattle.std.proofs.lemmas.Bool.Decides.{Decides-eqb}
use Rattle.deposit_name.specs.Name.{is_same_kind}
use Rattle.deposit_name.proofs.KindLemmas.{same_kind_decides}
use Rattle.desk.specs.declared.checks.Check as checks
use Rattle.desk.specs.declared.notices.NoticeKind.{NoticeKind}
use Rattle.desk.specs.declared.notices.NoticeKind.TheVariants.{Receipt, Failure, Absence}
use Rattle.deposit_verify.specs.declared.verdict.Verdict.TheVariants.{Fail}
use Rattle.custody_records.specs.Keys.{NoticeKey}
use Rattle.custody_records.specs.Records.{Notice, key_of}
use Rattle.custody_machine.specs.declared.command.Statement as statement
use Rattle.custody_machine.specs.State.{State, Part, empty, part_numbers, is_notice_of}
use Rattle.custody_machine.specs.Machine.{TimedCommand, after, chain_before, count_parts, first_part, has_dropped_part, has_id, has_other_count, has_other_kind, has_part_of_other_kind, is_failure_of, is_verdict_of, kept_verdict, part_at, part_under_name, revision_part}
use Rattle.custody_machine.specs.Explaining.{IsFailureOf, failure_notice, is_revision_dropped, state_before, verdict_before}
use Rattle.custody_machine.proofs.Accepting.{recorded_is, recorded_of}
use Rattle.custody_machine.proofs.Continuing.{first_is_there, kept_tells, notice_tells}
use Rattle.custody_machine.proofs.Entries.{passes_found}
use Rattle.custody_machine.proofs.Options.{some_is}
use Rattle.custody_machine.proofs.SameValues.{text_decides}
use Rattle.theorems.specs.Explained.{IsFoundAgain, IsOfOneStatement}
use Rattle.theorems.proofs.PartSeries.{IsSeries, are_series, first_there}
use Rattle.theorems.proofs.RecalledFailures.{AreRecalled, are_recalled}
use Rattle.theorems.proofs.AlikeLists.{each_fails}

counted_as : (a b : ℕ) → (a == 0 || not (a == b)) ≡ false → a ≡ b
counted_as a b e = by (a == 0) (a == b) refl e
  where
    by : (x y : Bool) → (a == b) ≡ y → (x || not y) ≡ false → a ≡ b
    by true y is e = cc
    by false true is e = (Decides-eqb a b).0 is
    by false false is e = cc

not_both : (a b : Bool) → (not a && not b) ≡ true → (a ≡ false) × (b ≡ false)
not_both true b e = cc
not_both false true e = cc
not_both false false e = (refl, refl)

-- a failure is of the registry, the day, the revision and the id of what was stated
record IsTold (key : NoticeKey) (notice : Notice) (was : statement.Statement) (rev : ℕ) (id : List ℕ) : Type 0 where
  tld : was.tld ≡ key.tld
  day : was.day ≡ notice.day
  revision : was.rev ≡ rev
  deposit : was.id ≡ id

module _ (s : State) (key : NoticeKey) (notice : Notice) (was : statement.Statement) (kept : kept_verdict s was ≡ Some (key, notice)) where
  is_told : (rev : ℕ) (id : List ℕ) (check : checks.Check) → notice.kind ≡ Failure rev id check → IsTold key notice was rev id
  is_told rev id check told =
      let tells = kept_tells s was (key, notice) kept in
      let on = notice_tells was.tld was.day (is_verdict_of was.rev) (key, notice) (passes_found (is_notice_of was.tld was.day (is_verdict_of was.rev)) (entries s.notices) (key, notice) tells.1) in
      record {
        tld = sym on.0;
        day = sym on.1;
        revision = sym ((Decides-eqb rev was.rev).0 (ap (is_verdict_of was.rev) (sym told) ∙ on.2));
        deposit = sym ((text_decides id was.id).0 (ap (has_id was.id) (sym told) ∙ tells.2));
      }

  are_parts : (has_part_of_other_kind s (first_part was) ≡ false) × (has_other_count s was ≡ false)
  are_parts = not_both (has_part_of_other_kind s (first_part was)) (has_other_count s was) (kept_tells s was (key, notice) kept).0

  count_is : count_parts s (first_part was) ≡ was.parts
  count_is = counted_as (count_parts s (first_part was)) was.parts are_parts.1

  -- the part in the first place is of the stated kind
  kind_is : (part : Part) → revision_part s (first_part was) 1 ≡ Some part → is_same_kind part.kind was.kind ≡ true
  kind_is part at = not-false (is_same_kind part.kind was.kind) (ap (has_other_kind was.kind) (sym at) ∙ (each_fails (λ place. has_other_kind was.kind (revision_part s (first_part was) place)) part_numbers are_parts.0).0)

  -- no other statement is told of
  same_stated : (given : statement.Statement) (check : checks.Check) → IsFailureOf s key notice given check → was ≡ given
  same_stated given check failure =
      let ours = notice_tells given.tld given.day (is_failure_of given.rev) (key, notice) (passes_found (is_notice_of given.tld given.day (is_failure_of given.rev)) (entries s.notices) (key, notice) failure.found) in
      let told = is_told given.rev given.id check failure.told in
      let tld : was.tld ≡ given.tld = told.tld ∙ ours.0 in
      let day : was.day ≡ given.day = told.day ∙ ours.1 in
      let rev = told.revision in
      let parts : was.parts ≡ given.parts = sym count_is ∙ (λ i. count_by (λ place. is_some (part_at s (record { tld = tld i; day = day i; rev = rev i; part = place }))) part_numbers) ∙ failure.parts in
      let first = some_is (part_under_name s (first_part given)) failure.kind in
      let there = recorded_is s (first_part given) first.0 first.1 in
      let here : part_at s (key_of (first_part was)) ≡ Some first.0 = (λ i. part_at s (record { tld = tld i; day = day i; rev = rev i; part = 1 })) ∙ there.0 in
      let kind : was.kind ≡ given.kind = sym ((same_kind_decides first.0.kind was.kind).0 (kind_is first.0 here)) ∙ (same_kind_decides first.0.kind given.kind).0 there.1 in
      λ i. record { tld = tld i; day = day i; kind = kind i; rev = rev i; parts = parts i; id = told.deposit i }

  -- where the first part is there, it is recorded under its name
  recorded_first : IsSeries s → is_some (part_under_name s (first_part was)) ≡ true
  recorded_first series =
      let first = some_is (revision_part s (first_part was) 1) (first_there s series (first_part was) (or_left (count_parts s (first_part was) == 0) (not (count_parts s (first_part was) == was.parts)) are_parts.1)) in
      ap is_some (recorded_of s (first_part was) first.0 first.1 (kind_is first.0 first.1))
    where
      or_left : (a b : Bool) → (a || b) ≡ false → a ≡ false
      or_left true b e = cc
      or_left false b e = refl

-- a failure is of one check
same_check : (kind : NoticeKind) (rev of : ℕ) (id other : List ℕ) (a b : checks.Check) → kind ≡ Failure rev id a → kind ≡ Failure of other b → a ≡ b
same_check kind rev of id other a b is is_other = let both : Failure rev id a ≡ Failure of other b = sym is ∙ is_other in cc

found_again : (s : State) → AreRecalled s → IsFoundAgain s
found_again s all key notice given check failure =
    let at : get s.notices key ≡ Some notice = (first_is_there s given.tld given.day (is_failure_of given.rev) (key, notice) failure.found).0 in
    let was = all key notice given.rev given.id check at failure.told in
    subst (λ st. is_revision_dropped s st.tld st.day st.rev ≡ false → list_any (has_dropped_part s) (chain_before (state_before s key) st) ≡ false → verdict_before s key st ≡ Fail check)
    (same_stated s key notice was.stated was.kept given check failure) was.again

told_in : (rev : ℕ) (kind : NoticeKind) → is_failure_of rev kind ≡ true → (id : List ℕ) × (check : checks.Check) × (kind ≡ Failure rev id check)
told_in rev (Receipt of id) is = cc
told_in rev (Failure of id check) is = (id, check, ap (λ r. Failure r id check) ((Decides-eqb of rev).0 is))
told_in rev Absence is = cc

of_one_statement : (s : State) → IsSeries s → AreRecalled s → IsOfOneStatement s
of_one_statement s series all tld day rev key notice found =
    let on = notice_tells tld day (is_failure_of rev) (key, notice) (passes_found (is_notice_of tld day (is_failure_of rev)) (entries s.notices) (key, notice) found) in
    let told = told_in rev notice.kind on.2 in
    let at : get s.notices key ≡ Some notice = (first_is_there s tld day (is_failure_of rev) (key, notice) found).0 in
    let was = all key notice rev told.0 told.1 at told.2 in
    let is = is_told s key notice was.stated was.kept rev told.0 told.1 told.2 in
    let tld_is : was.stated.tld ≡ tld = is.tld ∙ on.0 in
    let day_is : was.stated.day ≡ day = is.day ∙ on.1 in
    let failure : IsFailureOf s key notice was.stated told.1 = record {
      found = (λ i. failure_notice s (tld_is i) (day_is i) (is.revision i)) ∙ found;
      told = told.2 ∙ (λ i. Failure (sym is.revision i) (sym is.deposit i) told.1);
      kind = recorded_first s key notice was.stated was.kept series;
      parts = count_is s key notice was.stated was.kept;
    } in (
      was.stated,
      told.1,
      tld_is,
      day_is,
      is.revision,
      failure,
      λ other another by_other. (
        sym (same_stated s key notice was.stated was.kept other another by_other),
        same_check notice.kind other.rev rev other.id told.0 another told.1 by_other.told told.2,
      ),
    )

pub failures_are_found_again : (commands : List TimedCommand) → IsFoundAgain (after empty commands)
failures_are_found_again commands = found_again (after empty commands) (are_recalled commands)

pub failures_are_of_one_statement : (commands : List TimedCommand) → IsOfOneStatement (after empty commands)
failures_are_of_one_statement commands = of_one_statement (after empty commands) (are_series commands) (are_recalled commands)
