-- A new notice, as one change of the records: what a statement tells that is accepted and no repeat, and that records belong together with its notice.
use Rattle.std.proofs.Common.{◌≡◌, ℕ, zero, suc, ◌+◌, ◌-◌, ◌<◌, ◌^◌, List, Option, Some, None, Bool, true, false, not, ◌&&◌, ◌||◌, ◌==◌, refl, sym, ◌∙◌, ap, is_some, arith, Contains}
use Rattle.std.specs.Prelude.{option_map}
use Rattle.std.specs.List.{list_any}
use Rattle.std.proofs.lemmas.List.Folds.{list_any_at}
use Rattle.std.specs.FinMap.{FinMap, entries, get, insert}
use Rattle.std.specs.Prelude.{nat_lt}
use Rattle.std.proofs.lemmas.Bool.{not-false}
use Rattle.std.proofs.lemmas.Bool.Decides.{Decides-eqb, Decides-ltb, nat_tests}
use Rattle.deposit_name.proofs.KindLemmas.{same_kind_decides}
use Rattle.desk.specs.Standing.{is_receipt}
use Rattle.extent_map.specs.declared.extent.Extent.{Extent}
use Rattle.deposit_verify.specs.declared.verdict.Verdict.{Verdict}
use Rattle.deposit_verify.specs.declared.verdict.Verdict.TheVariants.{Pass, Fail}
use Rattle.desk.specs.declared.notices.NoticeKind.{NoticeKind}
use Rattle.desk.specs.declared.notices.NoticeKind.TheVariants.{Receipt, Failure, Absence}
use Rattle.custody_records.specs.Keys.{PartKey, NoticeKey, notice_cmp}
use Rattle.custody_records.specs.Records.{PartRecord, Notice, Records, key_of}
use Rattle.custody_records.specs.Records as recorded_in
use Rattle.custody_records.specs.inside.Orders.{notice_total, notice_exact}
use Rattle.custody_machine.specs.declared.command.Statement as statement
use Rattle.custody_machine.specs.State.{part_numbers, key_with_part, is_notice_of, has_notice}
use Rattle.custody_machine.specs.Machine.{Statement, Check, absence_of, absence_notice, is_absence, OfNotice, Accept, step, deciding_keys, is_failure_of, is_verdict_of, has_other_kind, is_dropped, are_bytes_dropped, revision_part, first_part, has_dropped_part, has_verdict, kept_verdict, next_key, notice_kind, verdict_notice, verdict_on, keys_if_made, verdict_keys}
use Rattle.custody_machine.specs.StoredState.{AreLinked, AreWhole, AreWholeOnVolume, AreOfOneDay, part_of, content_of, revision_of, state_in}
use Rattle.custody_machine.specs.Rulings.{AddsVerdict, AddsAbsence, GoRuling, Decides}
use Rattle.custody_machine.specs.Custody.{IsInOrder}
use Rattle.custody_machine.proofs.SameValues.{text_decides}
use Rattle.custody_machine.proofs.Options.{some_is, unmapped, is_there}
use Rattle.custody_machine.proofs.Accepting.{step_accepts, made_is_new, inserted, some_still}
use Rattle.custody_machine.proofs.Entries.{any_is_found, any_of_get, any_insert_grows, next_is_new, number_before, found_where_any, passes_found, get_found}
use Rattle.custody_machine.proofs.Stated.{NoneStandsOf, none_stand_of}
use Rattle.custody_machine.proofs.Checked.{none_stand_on}
use Rattle.custody_machine.proofs.Continuing.{notice_tells, unstated_of}
use Rattle.custody_machine.proofs.Composed.{IsChange, tables_change, tables_in_order, place_is, closed}
use Rattle.custody_machine.proofs.Series.{first_taken}

or_none : (a b : Bool) → (a || b) ≡ false → (a ≡ false) × (b ≡ false)
or_none true b h = cc
or_none false b h = (refl, h)

-- ---- notices of a day, in the records

-- a notice of a day that passes a test
pub record Finds (notices : FinMap notice_cmp Notice) (tld : List ℕ) (day : ℕ) (test : NoticeKind → Bool) : Type 0 where
  pub key : NoticeKey
  pub notice : Notice
  pub there : get notices key ≡ Some notice
  pub tld_is : key.tld ≡ tld
  pub day_is : notice.day ≡ day
  pub passes : test notice.kind ≡ true

pub finds : (notices : FinMap notice_cmp Notice) (tld : List ℕ) (day : ℕ) (test : NoticeKind → Bool) → has_notice notices tld day test ≡ true → Finds notices tld day test
finds notices tld day test h =
    let found = found_where_any (is_notice_of tld day test) (entries notices) h in
    let on = notice_tells tld day test found.0 (passes_found (is_notice_of tld day test) (entries notices) found.0 found.1) in
    record {
      key = found.0.0;
      notice = found.0.1;
      there = get_found notice_total notices (is_notice_of tld day test) found.0 found.1;
      tld_is = on.0;
      day_is = on.1;
      passes = on.2;
    }

failure_is : (rev : ℕ) (kind : NoticeKind) → is_failure_of rev kind ≡ true → (revision_of kind ≡ Some rev) × (is_receipt kind ≡ false) × (is_verdict_of rev kind ≡ true)
failure_is rev (Receipt r id) h = cc
failure_is rev (Failure r id check) h = (ap Some ((Decides-eqb r rev).0 h), refl, h)
failure_is rev Absence h = cc

receipt_is : (kind : NoticeKind) → is_receipt kind ≡ true → (rev : ℕ) × (revision_of kind ≡ Some rev) × (is_verdict_of rev kind ≡ true)
receipt_is (Receipt r id) h = (r, refl, (Decides-eqb r r).1 refl)
receipt_is (Failure r id check) h = cc
receipt_is Absence h = cc

-- ---- a day's revisions, in records that belong together

module _ (records : Records) (linked : AreLinked records) (tld : List ℕ) (day : ℕ) where
  abbrev first_of : ℕ → PartKey
  first_of rev = record { tld = tld; day = day; rev = rev; part = 1 }

  -- the revision before one with parts has failed, and has parts
  failed_before : (rev : ℕ) → is_some (get records.parts (first_of (suc rev))) ≡ true → Finds records.notices tld day (is_failure_of rev)
  failed_before rev h =
      let part = some_is (get records.parts (first_of (suc rev))) h in
      let same : suc rev - 1 ≡ rev = omega arith in
      finds records.notices tld day (is_failure_of rev) (ap (λ r. has_notice records.notices tld day (is_failure_of r)) (sym same) ∙ linked.due (first_of (suc rev)) part.0 part.1 (omega arith))

  has_parts : (rev : ℕ) (kind : NoticeKind → Bool) → ((k : NoticeKind) → kind k ≡ true → revision_of k ≡ Some rev) → Finds records.notices tld day kind → is_some (get records.parts (first_of rev)) ≡ true
  has_parts rev kind tells f = ap (λ (k : PartKey). is_some (get records.parts k)) (λ i. record { tld = sym f.tld_is i; day = sym f.day_is i; rev = rev; part = 1 })
      ∙ linked.verdict_parts f.key f.notice rev f.there (tells f.notice.kind f.passes)

  -- each revision before one with parts has failed
  failed_below : (gap rev top : ℕ) → top ≡ suc (gap + rev) → is_some (get records.parts (first_of top)) ≡ true → Finds records.notices tld day (is_failure_of rev)
  failed_below zero rev top e h =
      let same : top ≡ suc rev = omega (arith, e) in
      failed_before rev (ap (λ n. is_some (get records.parts (first_of n))) (sym same) ∙ h)
  failed_below (suc gap) rev top e h =
      let same : top ≡ suc (suc (gap + rev)) = omega (arith, e) in
      let f = failed_before (suc (gap + rev)) (ap (λ n. is_some (get records.parts (first_of n))) (sym same) ∙ h) in
      failed_below gap rev (suc (gap + rev)) refl (has_parts (suc (gap + rev)) (is_failure_of (suc (gap + rev))) (λ k p. (failure_is (suc (gap + rev)) k p).0) f)

  told_of : (test : NoticeKind → Bool) (f : Finds records.notices tld day test) (other : NoticeKind → Bool) → other f.notice.kind ≡ true → has_notice records.notices tld day other ≡ true
  told_of test f other p = any_of_get notice_total records.notices notice_exact (is_notice_of tld day other) f.key f.notice f.there
      (λ i. (text_decides f.key.tld tld).1 f.tld_is i && ((Decides-eqb f.notice.day day).1 f.day_is i && p i))

  -- a day on which a revision has parts and no verdict has no receipt
  no_receipt : (rev : ℕ) → is_some (get records.parts (first_of rev)) ≡ true → has_notice records.notices tld day (is_verdict_of rev) ≡ false → Finds records.notices tld day is_receipt → ⊥
  no_receipt rev parts none r = let is = receipt_is r.notice.kind r.passes in by is.0 is.1 is.2 (is.0 == rev) refl (nat_lt is.0 rev) refl
    where
      clash : has_notice records.notices tld day (is_verdict_of rev) ≡ true → ⊥
      clash h = let no : true ≡ false = sym h ∙ none in cc

      gap : (a b : ℕ) → a < b → suc ((b - a - 1) + a) ≡ b
      gap a b lt = omega (arith, lt)

      parts_of : (other : ℕ) → revision_of r.notice.kind ≡ Some other → is_some (get records.parts (first_of other)) ≡ true
      parts_of other is = ap (λ (k : PartKey). is_some (get records.parts k)) (λ i. record { tld = sym r.tld_is i; day = sym r.day_is i; rev = other; part = 1 }) ∙ linked.verdict_parts r.key r.notice other r.there is

      by : (other : ℕ) → revision_of r.notice.kind ≡ Some other → is_verdict_of other r.notice.kind ≡ true → (b : Bool) → (other == rev) ≡ b → (c : Bool) → nat_lt other rev ≡ c → ⊥
      by other is told true same c lt = clash (told_of is_receipt r (is_verdict_of rev) (ap (λ n. is_verdict_of n r.notice.kind) (sym ((Decides-eqb other rev).0 same)) ∙ told))
      by other is told false same true lt =
          let less : other < rev = (Decides-ltb other rev).0 lt in
          let f = failed_below (rev - other - 1) other rev (sym (gap other rev less)) parts in
          let failure = failure_is other f.notice.kind f.passes in
          let key : r.key ≡ f.key = linked.one_verdict r.key f.key r.notice f.notice other r.there f.there (r.tld_is ∙ sym f.tld_is, r.day_is ∙ sym f.day_is) is failure.0 in
          let at : Some r.notice ≡ Some f.notice = sym r.there ∙ ap (get records.notices) key ∙ f.there in
          let notice : r.notice ≡ f.notice = cc in
          let no : true ≡ false = sym r.passes ∙ ap (λ (m : Notice). is_receipt m.kind) notice ∙ failure.1 in
          cc
      by other is told false same false lt =
          let less : rev < other = above other rev same lt in
          let f = failed_below (other - rev - 1) rev other (sym (gap rev other less)) (parts_of other is) in
          clash (told_of (is_failure_of rev) f (is_verdict_of rev) (failure_is rev f.notice.kind f.passes).2)
        where
          above : (a b : ℕ) → (a == b) ≡ false → nat_lt a b ≡ false → b < a
          above a b e l = grind (arith, nat_tests)

-- ---- what is noticed

none_of : {X : Type 0} (test : X → Bool) (xs : List X) (x : X) → Contains xs x → list_any test xs ≡ false → test x ≡ false
none_of test xs x c h = by (test x) refl
  where
    by : (b : Bool) → test x ≡ b → b ≡ false
    by true is = let some : list_any test xs ≡ true = list_any_at test xs c.0 x c.1 (ap test c.2 ∙ is) in cc
    by false is = refl

-- ---- a new notice that belongs to the records

-- no other notice of the day tells the same
abbrev IsAlone : Records → List ℕ → ℕ → (NoticeKind → Type 0) → Type 0
IsAlone records tld day Same = (q : NoticeKey) (n : Notice) → get records.notices q ≡ Some n → q.tld ≡ tld → n.day ≡ day → Same n.kind → ⊥

-- its registry is known, the revision that it judges has parts, and it is the one verdict on it, the one receipt or the one absence of its day
pub record Belongs (records : Records) (tld : List ℕ) (notice : Notice) : Type 0 where
  pub registry : is_some (get records.registries tld) ≡ true
  pub parts : (rev : ℕ) → revision_of notice.kind ≡ Some rev → is_some (get records.parts (record { tld = tld; day = notice.day; rev = rev; part = 1 })) ≡ true
  pub verdict : (rev : ℕ) → revision_of notice.kind ≡ Some rev → IsAlone records tld notice.day (λ kind. revision_of kind ≡ Some rev)
  pub receipt : is_receipt notice.kind ≡ true → IsAlone records tld notice.day (λ kind. is_receipt kind ≡ true)
  pub absence : is_absence notice.kind ≡ true → IsAlone records tld notice.day (λ kind. is_absence kind ≡ true)

module _ (records : Records) (whole : AreWhole records) (tld : List ℕ) (notice : Notice) (belongs : Belongs records tld notice) where
  abbrev key : NoticeKey
  key = next_key records.notices tld

  abbrev noticed : Records
  noticed = recorded_in.with_notice records key notice

  number_is_new : get records.notices key ≡ None
  number_is_new = next_is_new records.notices tld

  -- of two notices of one day that tell the same there is one, where the new one is alone
  one_of_them : (Same : NoticeKind → Type 0) → (Same notice.kind → IsAlone records tld notice.day Same)
      → ((j k : NoticeKey) (m n : Notice) → get records.notices j ≡ Some m → get records.notices k ≡ Some n → AreOfOneDay j m k n → Same m.kind → Same n.kind → j ≡ k)
      → (j k : NoticeKey) (m n : Notice) → get (insert records.notices key notice) j ≡ Some m → get (insert records.notices key notice) k ≡ Some n → AreOfOneDay j m k n → Same m.kind → Same n.kind → j ≡ k
  one_of_them Same alone one j k m n at_j at_k day is_m is_n =
      inserted notice_total notice_exact records.notices key notice (λ j m. (k : NoticeKey) (n : Notice) → get (insert records.notices key notice) k ≡ Some n → AreOfOneDay j m k n → Same m.kind → Same n.kind → j ≡ k)
      (λ k n at day is_m is_n. inserted notice_total notice_exact records.notices key notice (λ k n. AreOfOneDay key notice k n → Same n.kind → key ≡ k) (λ _ _. refl)
      (λ k n at day is_n. absurd (alone is_m k n at (sym day.0) (sym day.1) is_n)) k n at day is_n)
      (λ j m at_old k n at day is_m is_n. inserted notice_total notice_exact records.notices key notice (λ k n. AreOfOneDay j m k n → Same n.kind → j ≡ k)
      (λ day is_n. absurd (alone is_n j m at_old day.0 day.1 is_m))
      (λ k n at day is_n. one j k m n at_old at day is_m is_n) k n at day is_n)
      j m at_j k n at_k day is_m is_n

  pub whole-with_notice : AreWhole (recorded_in.with_notice records (next_key records.notices tld) notice)
  whole-with_notice = let l = whole.linked in record {
    extents = whole.extents;
    once = record { within = whole.once.within; between = whole.once.between };
    linked = record {
      part_registry = l.part_registry;
      notice_registry = inserted notice_total notice_exact records.notices key notice (λ q n. is_some (get records.registries q.tld) ≡ true) belongs.registry l.notice_registry;
      release_registry = l.release_registry;
      hold_registry = l.hold_registry;
      released = l.released;
      series = l.series;
      numbers = inserted notice_total notice_exact records.notices key notice (λ q n. (m : ℕ) → q.number ≡ suc (suc m) → is_some (get (insert records.notices key notice) (record { tld = q.tld; number = suc m })) ≡ true)
          (λ m e. some_still notice_total records.notices key notice (record { tld = tld; number = suc m }) (number_before records.notices tld m e))
          (λ q n at m e. some_still notice_total records.notices key notice (record { tld = q.tld; number = suc m }) (l.numbers q n at m e));
      verdict_parts = λ q n rev at is. inserted notice_total notice_exact records.notices key notice (λ q n. (rev : ℕ) → revision_of n.kind ≡ Some rev → is_some (get records.parts (record { tld = q.tld; day = n.day; rev = rev; part = 1 })) ≡ true)
          belongs.parts (λ q n at rev is. l.verdict_parts q n rev at is) q n at rev is;
      one_verdict = λ j k m n rev. one_of_them (λ kind. revision_of kind ≡ Some rev) (belongs.verdict rev) (λ j k m n. l.one_verdict j k m n rev) j k m n;
      due = λ q p at lt. any_insert_grows notice_total records.notices key notice number_is_new (is_notice_of q.tld q.day (is_failure_of (q.rev - 1))) (l.due q p at lt);
      one_receipt = one_of_them (λ kind. is_receipt kind ≡ true) belongs.receipt l.one_receipt;
      one_absence = one_of_them (λ kind. is_absence kind ≡ true) belongs.absence l.one_absence;
    };
  }

  module _ (i : List ℕ) (size failures failures_then : ℕ) (free : ℕ → Type 0) (order : IsInOrder records size failures free) where
    pub notice_changes : AreWholeOnVolume records i → IsChange records i free (recorded_in.with_notice records (next_key records.notices tld) notice) i free
    notice_changes = tables_change records records.registries (insert records.notices key notice) records.releases records.holds i size failures free order whole-with_notice

    pub notice_in_order : failures_then < 2 ^ 64 - 1 → IsInOrder (recorded_in.with_notice records (next_key records.notices tld) notice) size failures_then free
    notice_in_order = tables_in_order records records.registries (insert records.notices key notice) records.releases records.holds i size failures free order whole-with_notice failures_then

-- ---- the notice of a verdict

module _ (records : Records) (i : List ℕ) (whole : AreWhole records) (st : statement.Statement) (now : ℕ) (d : Decides (GoRuling (AddsVerdict st)) records (Statement st) now) where
  none_stands : NoneStandsOf (state_in records i) st now
  none_stands = none_stand_of (state_in records i) st now (step_accepts (state_in records i) (Statement st) now _ _ (d.1 i)).0

  not_kept : kept_verdict (state_in records i) st ≡ None
  not_kept = unmapped _ (kept_verdict (state_in records i) st) (made_is_new (state_in records i) (Statement st) now _ _ (d.1 i) refl)

  pub no_verdict : has_verdict (state_in records i) st ≡ false
  no_verdict = unstated_of (state_in records i) st now none_stands not_kept

  pub registry_known : is_some (get records.registries st.tld) ≡ true
  registry_known = is_there (get records.registries st.tld) none_stands.registry

  pub verdict_accepted : step (state_in records i) (Statement st) now
      ≡ Accept (record { entry = OfNotice (next_key records.notices st.tld) (verdict_notice st (verdict_on (state_in records i) st) now); is_repeat = false })
      (state_in (recorded_in.with_notice records (next_key records.notices st.tld) (verdict_notice st (verdict_on (state_in records i) st) now)) i)
  verdict_accepted = d.1 i

  pub reads_stated : deciding_keys (state_in records i) (Statement st) now ≡ verdict_keys (state_in records i) st
  reads_stated = λ j. keys_if_made ((step_accepts (state_in records i) (Statement st) now _ _ (d.1 i)).0 j) (option_map (λ (e : NoticeKey × Notice). OfNotice e.0 e.1) (not_kept j)) (verdict_keys (state_in records i) st)

  -- a part of the revision is of the stated kind, and held
  pub held_at : (place : ℕ) (part : PartRecord) → Contains part_numbers place → get records.parts (key_with_part (key_of (first_part st)) place) ≡ Some part → (part.kind ≡ st.kind) × ((extents : List Extent) × (part.extents ≡ Some extents))
  held_at place part within at = (kind, held part.extents (none_of (λ place. is_dropped (revision_part (state_in records i) (first_part st) place)) part_numbers place within dropped))
    where
      is : revision_part (state_in records i) (first_part st) place ≡ Some (part_of i part)
      is = place_is records i whole (first_part st) place ∙ ap (option_map (part_of i)) at

      dropped : has_dropped_part (state_in records i) (first_part st) ≡ false
      dropped = ap (λ b. not b && has_dropped_part (state_in records i) (first_part st)) (sym no_verdict) ∙ none_stands.dropped

      kind : part.kind ≡ st.kind
      kind = (same_kind_decides part.kind st.kind).0 (not-false _ (ap (has_other_kind st.kind) (sym is) ∙ none_of (λ place. has_other_kind st.kind (revision_part (state_in records i) (first_part st) place)) part_numbers place within none_stands.kind))

      held : (o : Option (List Extent)) → is_dropped (revision_part (state_in records i) (first_part st) place) ≡ false → (extents : List Extent) × (part.extents ≡ Some extents)
      held o not_dropped = by part.extents refl (ap is_dropped (sym is) ∙ not_dropped)
        where
          by : (o : Option (List Extent)) → part.extents ≡ o → are_bytes_dropped (content_of i part.len o) ≡ false → (extents : List Extent) × (part.extents ≡ Some extents)
          by None e h = cc
          by (Some extents) e h = (extents, e)

  -- the first part is there
  pub first_there : is_some (get records.parts (key_of (first_part st))) ≡ true
  first_there =
      let counted = (or_none _ _ none_stands.number).0 in
      let taken = first_taken (λ place. is_some (revision_part (state_in records i) (first_part st) place)) (closed records i whole (first_part st)) (positive _ counted) in
      some_in (get records.parts (key_of (first_part st))) (ap is_some (sym (place_is records i whole (first_part st) 1)) ∙ taken)
    where
      positive : (n : ℕ) → (n == 0) ≡ false → 0 < n
      positive n e = grind (arith, nat_tests)

      some_in : (o : Option PartRecord) → is_some (option_map (part_of i) o) ≡ true → is_some o ≡ true
      some_in None h = cc
      some_in (Some p) h = refl

  -- its notice belongs to the records, whatever the verdict
  pub verdict_belongs : (v : Verdict) → Belongs records st.tld (verdict_notice st v now)
  verdict_belongs v = record {
    registry = registry_known;
    parts = λ rev is. ap (λ r. is_some (get records.parts (record { tld = st.tld; day = st.day; rev = r; part = 1 }))) (sym (one_rev v rev is)) ∙ first_there;
    verdict = λ rev is q n at tld day told. others q n at tld day (told ∙ ap Some (sym (one_rev v rev is)));
    receipt = λ _ q n at tld day is. no_receipt records whole.linked st.tld st.day st.rev first_there no_verdict (record { key = q; notice = n; there = at; tld_is = tld; day_is = day; passes = is });
    absence = λ is. absurd (no_absence v is);
  }
    where
      -- no other notice is a verdict on the revision
      others : (q : NoticeKey) (n : Notice) → get records.notices q ≡ Some n → q.tld ≡ st.tld → n.day ≡ st.day → revision_of n.kind ≡ Some st.rev → ⊥
      others q n at tld day is =
          let told : has_verdict (state_in records i) st ≡ true = any_of_get notice_total records.notices notice_exact (is_notice_of st.tld st.day (is_verdict_of st.rev)) q n at
          (λ j. (text_decides q.tld st.tld).1 tld j && ((Decides-eqb n.day st.day).1 day j && verdict_is n.kind is j)) in
          let clash : true ≡ false = sym told ∙ no_verdict in cc
        where
          verdict_is : (kind : NoticeKind) → revision_of kind ≡ Some st.rev → is_verdict_of st.rev kind ≡ true
          verdict_is (Receipt r id) e = let same : r ≡ st.rev = cc in (Decides-eqb r st.rev).1 same
          verdict_is (Failure r id check) e = let same : r ≡ st.rev = cc in (Decides-eqb r st.rev).1 same
          verdict_is Absence e = cc

      revision_is : (w : Verdict) → revision_of (notice_kind st w) ≡ Some st.rev
      revision_is Pass = refl
      revision_is (Fail check) = refl

      no_absence : (w : Verdict) → is_absence (notice_kind st w) ≡ true → ⊥
      no_absence Pass h = cc
      no_absence (Fail check) h = cc

      one_rev : (w : Verdict) (rev : ℕ) → revision_of (notice_kind st w) ≡ Some rev → st.rev ≡ rev
      one_rev w rev e = let both : Some st.rev ≡ Some rev = sym (revision_is w) ∙ e in cc

-- ---- the notice of an absence

module _ (records : Records) (i : List ℕ) (tld : List ℕ) (day now : ℕ) (d : Decides (GoRuling (AddsAbsence tld day)) records (Check tld day) now) where
  not_missed : absence_of (state_in records i) tld day ≡ None
  not_missed = unmapped _ (absence_of (state_in records i) tld day) (made_is_new (state_in records i) (Check tld day) now _ _ (d.1 i) refl)

  pub absence_accepted : step (state_in records i) (Check tld day) now
      ≡ Accept (record { entry = OfNotice (next_key records.notices tld) (absence_notice day now); is_repeat = false })
      (state_in (recorded_in.with_notice records (next_key records.notices tld) (absence_notice day now)) i)
  absence_accepted = d.1 i

  pub absence_belongs : Belongs records tld (absence_notice day now)
  absence_belongs = record {
    registry = is_there (get records.registries tld) (none_stand_on (state_in records i) tld day now (step_accepts (state_in records i) (Check tld day) now _ _ (d.1 i)).0).registry;
    parts = λ rev is. cc;
    verdict = λ rev is. cc;
    receipt = λ is. cc;
    absence = λ _ q n at tld_is day_is is.
        let there : has_notice records.notices tld day is_absence ≡ true = any_of_get notice_total records.notices notice_exact (is_notice_of tld day is_absence) q n at
        (λ j. (text_decides q.tld tld).1 tld_is j && ((Decides-eqb n.day day).1 day_is j && is j)) in
        let clash : true ≡ false = sym there ∙ any_is_found (is_notice_of tld day is_absence) (entries records.notices) ∙ ap is_some not_missed in cc;
  }
