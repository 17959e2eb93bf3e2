-- In each state that the machine reaches the statement of each failure is kept, and its verdict is found again.
use Rattle.std.proofs.Common.{◌≡◌, ℕ, List, [], ◌∷◌, Some, None, true, false, ◌&&◌, is_none, refl, sym, ◌∙◌, ap, subst}
use Rattle.std.specs.List.{list_any}
use Rattle.std.specs.FinMap.{FinMap, entries, get, get-empty}
use Rattle.schedule.specs.Schedule.{day_of}
use Rattle.deposit_name.specs.Name.{Name}
use Rattle.desk.specs.declared.checks.Check as checks
use Rattle.desk.specs.declared.notices.NoticeKind.TheVariants.{Failure}
use Rattle.deposit_verify.specs.declared.verdict.Verdict.{Verdict}
use Rattle.deposit_verify.specs.declared.verdict.Verdict.TheVariants.{Pass, Fail}
use Rattle.deposit_verify.specs.Verdict.{verdict}
use Rattle.custody_records.specs.Keys.{NoticeKey, notice_cmp}
use Rattle.custody_records.specs.Records.{Notice, key_of, lifted_at, new_hold}
use Rattle.custody_records.specs.inside.Orders.{notice_total, notice_exact}
use Rattle.custody_machine.specs.declared.command.Statement as statement
use Rattle.custody_machine.specs.State.{State, Part, empty, part_numbers, has_notice}
use Rattle.custody_machine.specs.Machine.{Command, Register, Receive, Statement, Check, Release, Hold, Lift, Purge, Reply, Step, Refuse, Accept, TimedCommand, OfNotice, Record, absence_notice, after, chain_before, first_part, has_dropped_part, has_part_of_other_kind, is_verdict_of, joined_bytes, kept_record, kept_verdict, known_of, new_release, next_key, notice_kind, part_at, passed_first_names, received_part, refusal_of, revision_part, state_after, state_of, state_with_hold, state_with_notice, state_with_part, state_with_registry, state_with_release, state_without_due, step, verdict_notice, verdict_on}
use Rattle.custody_machine.specs.Explaining.{state_before, verdict_before}
use Rattle.custody_machine.proofs.Accepting.{Makes, by_outcome, inserted, place_is_empty}
use Rattle.custody_machine.proofs.Continuing.{Continues, KeepsVerdict, kept_tells, step_continues, told_is_there}
use Rattle.custody_machine.proofs.Keeping.{Keeps, accepted_is_kept}
use Rattle.theorems.proofs.AlikeLists.{Each, each_fails, each_of, each_then}
use Rattle.theorems.proofs.EarlierNotices.{before_older}
use Rattle.theorems.proofs.AlikeStates.{AreSameParts, chain_alike, chain_dropped_alike, dropped_alike, each_of_chain, verdict_alike, ArePassedAlike}
use Rattle.theorems.proofs.LaterStates.{each_passed, passed_before_new, passed_purged, passed_received, same_purged, same_received}

-- ---- the invariant

-- where no part that it hangs on is dropped, the verdict is found again
abbrev pub IsAgain : State → NoticeKey → statement.Statement → checks.Check → Type 0
IsAgain s key st check = has_dropped_part s (first_part st) ≡ false → list_any (has_dropped_part s) (chain_before (state_before s key) st) ≡ false → verdict_before s key st ≡ Fail check

-- a failure is the verdict on a statement that is kept, and is found again
pub record IsRecalled (s : State) (key : NoticeKey) (notice : Notice) (check : checks.Check) : Type 0 where
  pub stated : statement.Statement
  pub kept : kept_verdict s stated ≡ Some (key, notice)
  pub again : IsAgain s key stated check

abbrev pub AreRecalled : State → Type 0
AreRecalled s = (key : NoticeKey) (notice : Notice) (rev : ℕ) (id : List ℕ) (check : checks.Check) → get s.notices key ≡ Some notice → notice.kind ≡ Failure rev id check → IsRecalled s key notice check

-- ---- an older failure

-- the revision of a verdict that is kept has one
has_one : (s : State) (st : statement.Statement) (kept : NoticeKey × Notice) → kept_verdict s st ≡ Some kept → has_notice s.notices st.tld st.day (is_verdict_of st.rev) ≡ true
has_one s st kept is = (told_is_there s st kept (kept_tells s st kept is).1).1

module _ (s : State) (key : NoticeKey) (st : statement.Statement) (check : checks.Check) (again : IsAgain s key st check) where
  again_after_notice : (tld : List ℕ) (notice old : Notice) → get s.notices key ≡ Some old → IsAgain (state_with_notice s (next_key s.notices tld) notice) key st check
  again_after_notice tld notice old at own chain =
      let same = before_older s.notices tld notice key old at in
      (λ i. verdict (joined_bytes s (first_part st)) (known_of (record s { notices = same i }) st))
      ∙ again own (ap (λ (m : FinMap notice_cmp Notice). list_any (has_dropped_part s) (chain_before (record s { notices = m }) st)) (sym same) ∙ chain)

  -- in a state with the same parts of the revisions that it hangs on
  again_with : (new : State) → ArePassedAlike (state_before new key) (state_before s key) st.tld → AreSameParts new s (first_part st) → Each (AreSameParts new s) (chain_before (state_before s key) st) → IsAgain new key st check
  again_with new passed own chain own_held chain_held =
      verdict_alike (state_before new key) (state_before s key) st passed chain own
      ∙ again (sym (dropped_alike new s (first_part st) own) ∙ own_held) (sym (chain_dropped_alike (state_before new key) (state_before s key) st passed chain) ∙ chain_held)

  again_after_part : (name : Name) (part : Part) → part_at s (key_of name) ≡ None → has_notice s.notices name.tld name.day (is_verdict_of name.rev) ≡ false → has_notice s.notices st.tld st.day (is_verdict_of st.rev) ≡ true
      → IsAgain (state_with_part s (key_of name) part) key st check
  again_after_part name part fresh unstated has = again_with (state_with_part s (key_of name) part) (passed_received s name part fresh unstated key st.tld) (same_received s name part fresh unstated (first_part st) has)
      (each_of_chain (AreSameParts (state_with_part s (key_of name) part) s) st.kind (passed_first_names (state_before s key) st.tld)
      (each_passed s key (AreSameParts (state_with_part s (key_of name) part) s) (same_received s name part fresh unstated) st.tld))

  again_after_purge : (today : ℕ) → IsAgain (state_without_due s today) key st check
  again_after_purge today own chain =
      let passed : ArePassedAlike (state_before (state_without_due s today) key) (state_before s key) st.tld = passed_purged s today key st.tld in
      let held : Each (λ name. has_dropped_part (state_without_due s today) name ≡ false) (chain_before (state_before s key) st) =
      subst (Each (λ name. has_dropped_part (state_without_due s today) name ≡ false)) (chain_alike (state_before (state_without_due s today) key) (state_before s key) st passed)
      (each_fails (has_dropped_part (state_without_due s today)) (chain_before (state_before (state_without_due s today) key) st) chain) in
      again_with (state_without_due s today) passed (same_purged s today (first_part st) own)
      (each_then (λ name. has_dropped_part (state_without_due s today) name ≡ false) (AreSameParts (state_without_due s today) s) (same_purged s today) (chain_before (state_before s key) st) held) own chain

-- ---- a new failure

module _ (s : State) (st : statement.Statement) (now : ℕ) where
  abbrev stated : State
  stated = state_with_notice s (next_key s.notices st.tld) (verdict_notice st (verdict_on s st) now)

  again_at_once : verdict_before stated (next_key s.notices st.tld) st ≡ verdict_on s st
  again_at_once = verdict_alike (state_before stated (next_key s.notices st.tld)) s st (passed_before_new s st.tld (verdict_notice st (verdict_on s st) now))
      (each_of (AreSameParts s s) (λ name. each_of (λ place. revision_part s name place ≡ revision_part s name place) (λ place. refl) part_numbers) (chain_before s st))
      (each_of (λ place. revision_part s (first_part st) place ≡ revision_part s (first_part st) place) (λ place. refl) part_numbers)

told_by : (st : statement.Statement) (v : Verdict) (rev : ℕ) (id : List ℕ) (check : checks.Check) → notice_kind st v ≡ Failure rev id check → v ≡ Fail check
told_by st Pass rev id check e = cc
told_by st (Fail other) rev id check e = let same : other ≡ check = cc in ap Fail same

-- ---- each step

-- a step goes on from the state, and keeps what it made
abbrev Goes : State → Command → Reply → State → Type 0
Goes s c reply new = Continues s new → Keeps new c reply.entry → AreRecalled new

module _ (s : State) (all : AreRecalled s) where
  -- a failure that was there is recalled in a state that goes on, where it is found again there
  recalled_on : (new : State) → Continues s new → (key : NoticeKey) (notice : Notice) (check : checks.Check) (old : IsRecalled s key notice check) → IsAgain new key old.stated check → IsRecalled new key notice check
  recalled_on new on key notice check old again = record { stated = old.stated; kept = on.verdicts old.stated (key, notice) old.kept; again = again }

  -- after a new notice that is no failure, or is recalled
  after_notice : (tld : List ℕ) (notice : Notice) → Continues s (state_with_notice s (next_key s.notices tld) notice)
      → ((rev : ℕ) (id : List ℕ) (check : checks.Check) → notice.kind ≡ Failure rev id check → IsRecalled (state_with_notice s (next_key s.notices tld) notice) (next_key s.notices tld) notice check)
      → AreRecalled (state_with_notice s (next_key s.notices tld) notice)
  after_notice tld notice on new key old rev id check at is =
      inserted notice_total notice_exact s.notices (next_key s.notices tld) notice (λ k n. (rev : ℕ) (id : List ℕ) (check : checks.Check) → n.kind ≡ Failure rev id check → IsRecalled (state_with_notice s (next_key s.notices tld) notice) k n check)
      new
      (λ k n at rev id check is.
      let was = all k n rev id check at is in
      recalled_on (state_with_notice s (next_key s.notices tld) notice) on k n check was (again_after_notice s k was.stated check was.again tld notice n at))
      key old at rev id check is

  after_statement : (st : statement.Statement) (now : ℕ) → Continues s (stated s st now) → KeepsVerdict (stated s st now) st (OfNotice (next_key s.notices st.tld) (verdict_notice st (verdict_on s st) now)) → AreRecalled (stated s st now)
  after_statement st now on kept = after_notice st.tld (verdict_notice st (verdict_on s st) now) on (λ rev id check is.
      let key : next_key s.notices st.tld ≡ kept.kept.0 = ap key_in kept.made in
      let notice : verdict_notice st (verdict_on s st) now ≡ kept.kept.1 = cc in
      record {
        stated = st;
        kept = kept.found ∙ (λ i. Some (sym key i, sym notice i));
        again = λ own chain. again_at_once s st now ∙ told_by st (verdict_on s st) rev id check is;
      })
    where
      key_in : Record → NoticeKey
      key_in (OfNotice key notice) = key
      key_in _ = next_key s.notices st.tld

  -- a change that leaves the notices
  after_change : (new : State) → Continues s new → new.notices ≡ s.notices
      → ((key : NoticeKey) (st : statement.Statement) (check : checks.Check) → has_notice s.notices st.tld st.day (is_verdict_of st.rev) ≡ true → IsAgain s key st check → IsAgain new key st check) → AreRecalled new
  after_change new on same again key notice rev id check at is =
      let was = all key notice rev id check (ap (λ (m : FinMap notice_cmp Notice). get m key) (sym same) ∙ at) is in
      recalled_on new on key notice check was (again key was.stated check (has_one s was.stated (key, notice) was.kept) was.again)

  makes : (c : Command) (now : ℕ) → refusal_of s c now ≡ None → kept_record s c ≡ None → Makes (λ reply new. Goes s c reply new) s c now
  makes (Register tld day) now none new = λ on kept. after_change (state_with_registry s tld day) on refl (λ key st check has again. again)
  makes (Receive text bytes) now none new = λ name named stand fresh on kept. after_change (state_with_part s (key_of name) (received_part name bytes now)) on refl (λ key st check has again.
      again_after_part s key st check again name (received_part name bytes now)
      (place_is_empty s text name named fresh (ap (λ o. is_none o && has_part_of_other_kind s name) (sym fresh) ∙ stand.kind))
      (ap (λ o. is_none o && has_notice s.notices name.tld name.day (is_verdict_of name.rev)) (sym fresh) ∙ stand.stated) has)
  makes (Statement st) now none new = after_statement st now
  makes (Check tld day) now none new = λ on kept. after_notice tld (absence_notice day now) on (λ rev id check is. cc)
  makes (Release reference tld reason) now none new = λ on kept. after_change (state_with_release s reference (new_release s tld reason now)) on refl (λ key st check has again. again)
  makes (Hold reference tld day) now none new = λ on kept. after_change (state_with_hold s reference (new_hold tld day now)) on refl (λ key st check has again. again)
  makes (Lift reference) now none new = λ hold there standing on kept. after_change (state_with_hold s reference (lifted_at now hold)) on refl (λ key st check has again. again)
  makes Purge now none new = λ on kept. after_change (state_without_due s (day_of now)) on refl (λ key st check has again. again_after_purge s key st check again (day_of now))

  recalled_then : (c : Command) (now : ℕ) → AreRecalled (state_after s c now)
  recalled_then c now = by (step s c now) refl
    where
      by : (r : Step) → step s c now ≡ r → AreRecalled (state_of s r)
      by (Refuse refusal) e = all
      by (Accept reply new) e = by_outcome s c now (λ reply new. Goes s c reply new) (λ entry none at on kept. all) (makes c now) reply new e (step_continues s c now reply new e) (accepted_is_kept s c now reply new e)

recalled_after : (s : State) → AreRecalled s → (entries : List TimedCommand) → AreRecalled (after s entries)
recalled_after s all [] = all
recalled_after s all (entry ∷ entries) = recalled_after (state_after s entry.0 entry.1) (recalled_then s all entry.0 entry.1) entries

none_at_first : AreRecalled empty
none_at_first key notice rev id check at is = let clash : None ≡ Some notice = sym (get-empty notice_cmp key) ∙ at in cc

pub are_recalled : (commands : List TimedCommand) → AreRecalled (after empty commands)
are_recalled commands = recalled_after empty none_at_first commands
