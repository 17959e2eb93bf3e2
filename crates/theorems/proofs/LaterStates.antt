-- What is known of a deposit that was stated is the same after a later command: after a new notice, a new part, and a purge.
use Rattle.std.proofs.Common.{◌≡◌, ℕ, List, [], ◌∷◌, Option, Some, None, Bool, true, false, ◌&&◌, ◌==◌, is_some, refl, sym, ◌∙◌, ap, cond, map, subst}
use Rattle.std.specs.Prelude.{bytes_eq, option_map}
use Rattle.std.specs.List.{filter, filter_map, list_any}
use Rattle.std.specs.Option.{option_and_then}
use Rattle.std.specs.FinMap.{entries}
use Rattle.std.proofs.lemmas.Bool.Decides.{Decides-eqb}
use Rattle.deposit_name.specs.declared.kinds.Kind.{Kind}
use Rattle.deposit_name.specs.declared.kinds.Kind.TheVariants.{Full}
use Rattle.deposit_name.specs.Name.{Name, is_same_kind}
use Rattle.desk.specs.declared.notices.NoticeKind.{NoticeKind}
use Rattle.desk.specs.declared.notices.NoticeKind.TheVariants.{Receipt, Failure, Absence}
use Rattle.custody_records.specs.Keys.{PartKey, part_cmp, NoticeKey}
use Rattle.custody_records.specs.Records.{Notice, key_of, name_of}
use Rattle.custody_records.specs.inside.Orders.{part_total, part_exact}
use Rattle.custody_machine.specs.State.{State, Part, part_numbers, key_with_part, is_notice_of, has_notice}
use Rattle.custody_machine.specs.MapValues.{map_keyed_entries}
use Rattle.custody_machine.specs.Machine.{are_bytes_dropped, has_dropped_part, is_dropped, is_due_part, is_first_of_passed, is_full_revision, is_receipt_entry_of_full, is_receipt_of, is_receipt_of_full, is_verdict_of, next_key, part_at, part_dropped_if_due, part_of_kind, passed_deposit, passed_first_names, revision_part, state_with_notice, state_with_part, state_without_due, without_bytes}
use Rattle.custody_machine.specs.Explaining.{is_before, notices_before, state_before}
use Rattle.custody_machine.proofs.Continuing.{and_both, kind_stays, part_elsewhere}
use Rattle.custody_machine.proofs.MapValues.{entries-map_keyed, get-map_keyed}
use Rattle.custody_machine.proofs.SameValues.{text_decides}
use Rattle.theorems.proofs.AlikeLists.{Each, any_of_left, any_wider, each_fails, each_is_found, each_kept, each_left, each_mapped, each_of, each_then, filter_alike}
use Rattle.theorems.proofs.EarlierNotices.{before_new, entries_before, new_left_out, of_tld, passed_of_tld, passed_tests_of_tld, told_of_tld}
use Rattle.theorems.proofs.AlikeStates.{AreSameParts, ArePassedAlike}

-- ---- before a new notice

module _ (s : State) (tld : List ℕ) (notice : Notice) where
  abbrev key : NoticeKey
  key = next_key s.notices tld

  abbrev noticed : State
  noticed = state_with_notice s key notice

  are_all : entries (notices_before noticed.notices key) ≡ filter (of_tld tld) (entries s.notices)
  are_all = before_new s.notices tld notice

  told_alike : (day : ℕ) (test : NoticeKind → Bool) → has_notice (notices_before noticed.notices key) tld day test ≡ has_notice s.notices tld day test
  told_alike day test = ap (list_any (is_notice_of tld day test)) are_all ∙ told_of_tld tld (entries s.notices) day test

  pub passed_before_new : ArePassedAlike (state_before noticed key) s tld
  passed_before_new = record {
    deposits = ap (filter_map (passed_deposit tld)) are_all ∙ passed_of_tld tld (entries s.notices);
    full = ap (λ es. filter_map (passed_deposit tld) (filter (is_receipt_entry_of_full s) es)) are_all ∙ passed_tests_of_tld tld (entries s.notices) (is_receipt_entry_of_full s);
    names = λ i. map (λ (entry : PartKey × Part). name_of entry.0 entry.1.kind) (filter (λ (entry : PartKey × Part). bytes_eq entry.0.tld tld && (entry.0.part == 1 && told_alike entry.0.day (is_receipt_of entry.0.rev) i)) (entries s.parts));
  }

-- ---- a revision that passed has a verdict

receipt_is_verdict : (rev : ℕ) (kind : NoticeKind) → is_receipt_of rev kind ≡ true → is_verdict_of rev kind ≡ true
receipt_is_verdict rev (Receipt of id) is = is
receipt_is_verdict rev (Failure of id check) is = cc
receipt_is_verdict rev Absence is = cc

module _ (s : State) (q : NoticeKey) where
  has_verdict_then : (tld : List ℕ) (day rev : ℕ) → has_notice (notices_before s.notices q) tld day (is_receipt_of rev) ≡ true → has_notice s.notices tld day (is_verdict_of rev) ≡ true
  has_verdict_then tld day rev has =
      any_wider (is_notice_of tld day (is_receipt_of rev)) (is_notice_of tld day (is_verdict_of rev)) wider (entries s.notices)
      (any_of_left (is_before q) (is_notice_of tld day (is_receipt_of rev)) (entries s.notices) (ap (list_any (is_notice_of tld day (is_receipt_of rev))) (sym (entries_before s.notices q)) ∙ has))
    where
      wider : (e : NoticeKey × Notice) → is_notice_of tld day (is_receipt_of rev) e ≡ true → is_notice_of tld day (is_verdict_of rev) e ≡ true
      wider e is =
          let on = and_both (bytes_eq e.0.tld tld) (e.1.day == day && is_receipt_of rev e.1.kind) is in
          let rest = and_both (e.1.day == day) (is_receipt_of rev e.1.kind) on.1 in
          (λ i. on.0 i && (rest.0 i && receipt_is_verdict rev e.1.kind rest.1 i))

  -- what the first part of a deposit that passed tells of its revision
  first_tells : (tld : List ℕ) (entry : PartKey × Part) → is_first_of_passed (state_before s q) tld entry ≡ true → has_notice s.notices entry.0.tld entry.0.day (is_verdict_of entry.0.rev) ≡ true
  first_tells tld entry is =
      let on = and_both (bytes_eq entry.0.tld tld) (entry.0.part == 1 && has_notice (notices_before s.notices q) tld entry.0.day (is_receipt_of entry.0.rev)) is in
      let rest = and_both (entry.0.part == 1) (has_notice (notices_before s.notices q) tld entry.0.day (is_receipt_of entry.0.rev)) on.1 in
      ap (λ (t : List ℕ). has_notice s.notices t entry.0.day (is_verdict_of entry.0.rev)) ((text_decides entry.0.tld tld).0 on.0) ∙ has_verdict_then tld entry.0.day entry.0.rev rest.1

  -- what holds of each revision with a verdict holds of each that passed
  pub each_passed : (P : Name → Type 0) → ((name : Name) → has_notice s.notices name.tld name.day (is_verdict_of name.rev) ≡ true → P name) → (tld : List ℕ) → Each P (passed_first_names (state_before s q) tld)
  each_passed P holds tld =
      each_mapped (λ (entry : PartKey × Part). name_of entry.0 entry.1.kind) P (filter (is_first_of_passed (state_before s q) tld) (entries s.parts))
      (each_left (is_first_of_passed (state_before s q) tld) (λ (entry : PartKey × Part). P (name_of entry.0 entry.1.kind)) (λ entry is. holds (name_of entry.0 entry.1.kind) (first_tells tld entry is)) (entries s.parts))

-- ---- a new part

module _ (s : State) (name : Name) (part : Part) (fresh : part_at s (key_of name) ≡ None) (unstated : has_notice s.notices name.tld name.day (is_verdict_of name.rev) ≡ false) where
  abbrev received : State
  received = state_with_part s (key_of name) part

  -- a revision with a verdict has no new part
  pub same_received : (other : Name) → has_notice s.notices other.tld other.day (is_verdict_of other.rev) ≡ true → AreSameParts received s other
  same_received other has = each_of (λ place. revision_part received other place ≡ revision_part s other place)
      (part_elsewhere s (key_of name) part (record { tld = other.tld; day = other.day; kind = other.kind; rev = other.rev; parts = 1; id = [] }) elsewhere) part_numbers
    where
      elsewhere : (name.tld ≡ other.tld) → (name.day ≡ other.day) → (name.rev ≡ other.rev) → ⊥
      elsewhere a b c =
          let same : has_notice s.notices name.tld name.day (is_verdict_of name.rev) ≡ has_notice s.notices other.tld other.day (is_verdict_of other.rev) = (λ i. has_notice s.notices (a i) (b i) (is_verdict_of (c i))) in
          let clash : true ≡ false = sym has ∙ sym same ∙ unstated in cc

  module _ (q : NoticeKey) (tld : List ℕ) where
    full_alike : (e : NoticeKey × Notice) → ((test : NoticeKey × Notice → Bool) → test e ≡ true → list_any test (entries s.notices) ≡ true) → is_receipt_entry_of_full (state_before received q) e ≡ is_receipt_entry_of_full (state_before s q) e
    full_alike e found = of_kind e.1.kind refl
      where
        of_kind : (kind : NoticeKind) → e.1.kind ≡ kind → is_receipt_of_full (state_before received q) e.0.tld e.1.day kind ≡ is_receipt_of_full (state_before s q) e.0.tld e.1.day kind
        of_kind (Receipt rev id) is =
            let has : has_notice s.notices e.0.tld e.1.day (is_verdict_of rev) ≡ true = found (is_notice_of e.0.tld e.1.day (is_verdict_of rev))
            (λ i. (text_decides e.0.tld e.0.tld).1 refl i && ((Decides-eqb e.1.day e.1.day).1 refl i && (ap (is_verdict_of rev) is ∙ (Decides-eqb rev rev).1 refl) i)) in
            let first = (same_received (record { tld = e.0.tld; day = e.1.day; kind = Full; part = 1; rev = rev }) has).0 in
            ap (λ o. is_some (option_and_then (part_of_kind Full) o)) first
        of_kind (Failure rev id check) is = refl
        of_kind Absence is = refl

    misses : is_first_of_passed (state_before s q) tld (key_of name, part) ≡ false
    misses = by (is_first_of_passed (state_before s q) tld (key_of name, part)) refl
      where
        by : (b : Bool) → is_first_of_passed (state_before s q) tld (key_of name, part) ≡ b → b ≡ false
        by false is = refl
        by true is = let clash : true ≡ false = sym (first_tells s q tld (key_of name, part) is) ∙ unstated in cc

    pub passed_received : ArePassedAlike (state_before received q) (state_before s q) tld
    passed_received = record {
      deposits = refl;
      full = ap (filter_map (passed_deposit tld)) (filter_alike (is_receipt_entry_of_full (state_before received q)) (is_receipt_entry_of_full (state_before s q)) (entries (notices_before s.notices q))
          (subst (Each (λ (e : NoticeKey × Notice). is_receipt_entry_of_full (state_before received q) e ≡ is_receipt_entry_of_full (state_before s q) e)) (sym (entries_before s.notices q))
          (each_kept (is_before q) _ (entries s.notices) (each_then _ (λ (e : NoticeKey × Notice). is_receipt_entry_of_full (state_before received q) e ≡ is_receipt_entry_of_full (state_before s q) e) full_alike (entries s.notices) (each_is_found (entries s.notices))))));
      names = ap (map (λ (entry : PartKey × Part). name_of entry.0 entry.1.kind)) (new_left_out part_total s.parts (key_of name) part fresh (is_first_of_passed (state_before s q) tld) misses);
    }

-- ---- a purge

module _ (s : State) (today : ℕ) where
  abbrev purged : State
  purged = state_without_due s today

  at_purged : (key : PartKey) → part_at purged key ≡ option_map (part_dropped_if_due s.holds today key) (part_at s key)
  at_purged key = get-map_keyed part_cmp part_exact (part_dropped_if_due s.holds today) s.parts key

  -- a revision without a dropped part has the parts that it had
  pub same_purged : (other : Name) → has_dropped_part purged other ≡ false → AreSameParts purged s other
  same_purged other none = each_then (λ place. is_dropped (revision_part purged other place) ≡ false) (λ place. revision_part purged other place ≡ revision_part s other place)
      (λ place held. at_purged (key_with_part (key_of other) place) ∙ by (key_with_part (key_of other) place) (revision_part s other place) (ap is_dropped (sym (at_purged (key_with_part (key_of other) place))) ∙ held))
      part_numbers (each_fails (λ place. is_dropped (revision_part purged other place)) part_numbers none)
    where
      by : (key : PartKey) (o : Option Part) → is_dropped (option_map (part_dropped_if_due s.holds today key) o) ≡ false → option_map (part_dropped_if_due s.holds today key) o ≡ o
      by key None held = refl
      by key (Some part) held = due (is_due_part s.holds today key part) held
        where
          due : (b : Bool) → are_bytes_dropped (cond b (without_bytes part) part).content ≡ false → Some (cond b (without_bytes part) part) ≡ Some part
          due true held = cc
          due false held = refl

  full_still : (tld : List ℕ) (day rev : ℕ) → is_full_revision purged tld day rev ≡ is_full_revision s tld day rev
  full_still tld day rev = ap (λ o. is_some (option_and_then (part_of_kind Full) o)) (at_purged (record { tld = tld; day = day; rev = rev; part = 1 })) ∙ by (record { tld = tld; day = day; rev = rev; part = 1 }) (part_at s (record { tld = tld; day = day; rev = rev; part = 1 }))
    where
      is_it : (part : Part) (b : Bool) → is_some (cond b (Some part) None) ≡ b
      is_it part true = refl
      is_it part false = refl

      by : (k : PartKey) (o : Option Part) → is_some (option_and_then (part_of_kind Full) (option_map (part_dropped_if_due s.holds today k) o)) ≡ is_some (option_and_then (part_of_kind Full) o)
      by k None = refl
      by k (Some part) = is_it (part_dropped_if_due s.holds today k part) (is_same_kind (part_dropped_if_due s.holds today k part).kind Full) ∙ ap (λ (kind : Kind). is_same_kind kind Full) (kind_stays s.holds today k part) ∙ sym (is_it part (is_same_kind part.kind Full))

  module _ (q : NoticeKey) (tld : List ℕ) where
    full_alike_purged : (e : NoticeKey × Notice) → is_receipt_entry_of_full (state_before purged q) e ≡ is_receipt_entry_of_full (state_before s q) e
    full_alike_purged e = of_kind e.1.kind
      where
        of_kind : (kind : NoticeKind) → is_receipt_of_full (state_before purged q) e.0.tld e.1.day kind ≡ is_receipt_of_full (state_before s q) e.0.tld e.1.day kind
        of_kind (Receipt rev id) = full_still e.0.tld e.1.day rev
        of_kind (Failure rev id check) = refl
        of_kind Absence = refl

    names_still : (es : List (PartKey × Part)) → map (λ (entry : PartKey × Part). name_of entry.0 entry.1.kind) (filter (is_first_of_passed (state_before s q) tld) (map_keyed_entries (part_dropped_if_due s.holds today) es))
        ≡ map (λ (entry : PartKey × Part). name_of entry.0 entry.1.kind) (filter (is_first_of_passed (state_before s q) tld) es)
    names_still [] = refl
    names_still (e ∷ es) = by (is_first_of_passed (state_before s q) tld e) (names_still es)
      where
        by : (b : Bool) → map (λ (entry : PartKey × Part). name_of entry.0 entry.1.kind) (filter (is_first_of_passed (state_before s q) tld) (map_keyed_entries (part_dropped_if_due s.holds today) es)) ≡ map (λ (entry : PartKey × Part). name_of entry.0 entry.1.kind) (filter (is_first_of_passed (state_before s q) tld) es)
            → map (λ (entry : PartKey × Part). name_of entry.0 entry.1.kind) (cond b ((e.0, part_dropped_if_due s.holds today e.0 e.1) ∷ filter (is_first_of_passed (state_before s q) tld) (map_keyed_entries (part_dropped_if_due s.holds today) es)) (filter (is_first_of_passed (state_before s q) tld) (map_keyed_entries (part_dropped_if_due s.holds today) es)))
            ≡ map (λ (entry : PartKey × Part). name_of entry.0 entry.1.kind) (cond b (e ∷ filter (is_first_of_passed (state_before s q) tld) es) (filter (is_first_of_passed (state_before s q) tld) es))
        by true rest = λ i. name_of e.0 (kind_stays s.holds today e.0 e.1 i) ∷ rest i
        by false rest = rest

    pub passed_purged : ArePassedAlike (state_before purged q) (state_before s q) tld
    passed_purged = record {
      deposits = refl;
      full = λ i. filter_map (passed_deposit tld) (filter (λ (e : NoticeKey × Notice). full_alike_purged e i) (entries (notices_before s.notices q)));
      names = ap (λ es. map (λ (entry : PartKey × Part). name_of entry.0 entry.1.kind) (filter (is_first_of_passed (state_before s q) tld) es)) (entries-map_keyed part_cmp part_exact (part_dropped_if_due s.holds today) s.parts) ∙ names_still (entries s.parts);
    }
