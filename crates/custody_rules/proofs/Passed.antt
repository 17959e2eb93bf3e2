-- The latest of the deposits that passed, and what notices of a registry tell of them.
use Rattle.std.proofs.Common.{get_or, subst, ◌+◌, ◌≡◌, ℕ, ◌<◌, ◌≤◌, List, [], ◌∷◌, ◌++◌, map, take, Option, Some, None, Bool, true, false, ◌&&◌, refl, sym, ◌∙◌, ap, cond, nat_lt, length, append-nil, append_assoc, arith}
use Rattle.std.specs.Prelude.{is_some, nat_le, option_map, bytes_eq}
use Rattle.std.specs.List.{filter, filter_map, cons_option, find, list_all}
use Rattle.std.specs.FinMap.{FinMap, entries, get}
use Rattle.std.specs.Option.{option_and_then}
use Rattle.std.specs.Ordering.{is_eq}
use Rattle.std.proofs.Math.Bool.{and-false}
use Rattle.std.proofs.lemmas.Bool.{and_parts, and_from}
use Rattle.std.proofs.lemmas.Bool.Decides.{nat_tests}
use Rattle.std.proofs.lemmas.List.Folds.{list_all-append}
use Rattle.std.proofs.lemmas.List.{take_more, take_all}
use Rattle.deposit_name.specs.declared.kinds.Kind.TheVariants.{Full}
use Rattle.deposit_name.specs.Name.{Name, is_same_kind}
use Rattle.deposit_verify.specs.declared.base.Base.{Base}
use Rattle.deposit_verify.specs.Known.{Known}
use Rattle.custody_machine.specs.declared.command.Statement as stated
use Rattle.std.proofs.lemmas.List.Elements.{filter_map-append}
use Rattle.std.proofs.lemmas.Map.Text.{is_eq-slice_cmp}
use Rattle.desk.specs.declared.notices.Notice as desk
use Rattle.desk.specs.declared.notices.NoticeKind.{NoticeKind}
use Rattle.desk.specs.declared.notices.NoticeKind.TheVariants.{Receipt}
use Rattle.custody_records.specs.Keys.{NoticeKey, notice_cmp, text_cmp}
use Rattle.custody_records.specs.Records.{Notice, PartRecord, Records, key_of, notices_of}
use Rattle.custody_records.specs.Tables.{row_entries}
use Rattle.custody_records.specs.TypedRecords.{notice_entry, notice_key, notice_value}
use Rattle.custody_records.proofs.GroupLemmas.{filter_entries, filter_swap}
use Rattle.custody_machine.specs.Explaining.{passed_day, with_notices}
use Rattle.custody_machine.specs.Machine.{first_part, passed_full_deposits, is_full_revision, is_receipt_of_full, known_of, latest_id, passed_id, passed_deposit, passed_deposits, is_receipt_entry_of_full}
use Rattle.custody_machine.specs.StoredState.{is_part_of, part_of, state_in}
use Rattle.custody_rules.specs.Judging.{if_of_kind}
use Rattle.custody_rules.specs.inside.PassedDeposits.{has_passed, is_of_id, is_receipt_of_full_in, later_pair, passed_deposit_of, passed_deposits_of, tells_full_in}
use Rattle.custody_rules.proofs.Judged.{recorded_in_state}
use Rattle.custody_rules.proofs.Tables.{filter_map_kept}

-- ---- the latest

-- another deposit is earlier, or no later
abbrev pub is_earlier : ℕ × List ℕ → ℕ × List ℕ → Bool
is_earlier one other = nat_lt other.0 one.0

abbrev pub is_no_later : ℕ × List ℕ → ℕ × List ℕ → Bool
is_no_later one other = nat_le other.0 one.0

-- no deposit of the list is later
abbrev is_latest : List (ℕ × List ℕ) → ℕ × List ℕ → Bool
is_latest all one = list_all (is_no_later one) all

-- those before it are earlier, and those behind it no later
pub record IsBest (all : List (ℕ × List ℕ)) (best : ℕ × List ℕ) : Type 0 where
  pub before : List (ℕ × List ℕ)
  pub behind : List (ℕ × List ℕ)
  pub split : all ≡ before ++ best ∷ behind
  pub earlier : list_all (is_earlier best) before ≡ true
  pub no_later : list_all (is_no_later best) behind ≡ true

-- what is found so far
abbrev pub IsLatest : List (ℕ × List ℕ) → Option (ℕ × List ℕ) → Type 0
IsLatest all None = all ≡ []
IsLatest all (Some best) = IsBest all best

all_weaker : {X : Type 0} (p q : X → Bool) → ((x : X) → p x ≡ true → q x ≡ true) → (xs : List X) → list_all p xs ≡ true → list_all q xs ≡ true
all_weaker p q weaker [] h = refl
all_weaker p q weaker (x ∷ xs) h = let both = and_parts (p x) (list_all p xs) h in and_from _ _ (weaker x both.0) (all_weaker p q weaker xs both.1)

lt_le : (a b : ℕ) → nat_lt a b ≡ true → nat_le a b ≡ true
lt_le a b e = grind (arith, nat_tests)

le_itself : (a : ℕ) → nat_le a a ≡ true
le_itself a = grind (arith, nat_tests)

lt_not_le : (a b : ℕ) → nat_lt a b ≡ true → nat_le b a ≡ false
lt_not_le a b e = grind (arith, nat_tests)

not_le_lt : (a b : ℕ) → nat_le a b ≡ false → nat_lt b a ≡ true
not_le_lt a b e = grind (arith, nat_tests)

le_lt : (a b c : ℕ) → nat_le a b ≡ true → nat_lt b c ≡ true → nat_lt a c ≡ true
le_lt a b c e h = grind (arith, nat_tests)

-- it is the first that no other is later than
pub best_found : (all : List (ℕ × List ℕ)) (best : ℕ × List ℕ) → IsBest all best → find (is_latest all) all ≡ Some best
best_found all best h = ap (find (is_latest all)) h.split ∙ search_in h.before h.earlier
  where
    top : is_latest all best ≡ true
    top = ap (list_all (is_no_later best)) h.split ∙ list_all-append (is_no_later best) h.before (best ∷ h.behind)
        ∙ (λ i. all_weaker (is_earlier best) (is_no_later best) (λ x e. lt_le x.0 best.0 e) h.before h.earlier i && (le_itself best.0 i && h.no_later i))

    off : (x : ℕ × List ℕ) → nat_lt x.0 best.0 ≡ true → is_latest all x ≡ false
    off x e = ap (list_all (is_no_later x)) h.split ∙ list_all-append (is_no_later x) h.before (best ∷ h.behind)
        ∙ ap (λ b. list_all (is_no_later x) h.before && (b && list_all (is_no_later x) h.behind)) (lt_not_le x.0 best.0 e) ∙ and-false (list_all (is_no_later x) h.before)

    search_in : (xs : List (ℕ × List ℕ)) → list_all (is_earlier best) xs ≡ true → find (is_latest all) (xs ++ best ∷ h.behind) ≡ Some best
    search_in [] e = ap (λ b. cond b (Some best) (find (is_latest all) h.behind)) top
    search_in (x ∷ xs) e =
        let both = and_parts (is_earlier best x) (list_all (is_earlier best) xs) e in
        ap (λ b. cond b (Some x) (find (is_latest all) (xs ++ best ∷ h.behind))) (off x both.0) ∙ search_in xs both.1

pub latest_is : (all : List (ℕ × List ℕ)) (latest : Option (ℕ × List ℕ)) → IsLatest all latest → option_map (λ (one : ℕ × List ℕ). one.1) latest ≡ latest_id all
latest_is all None h = ap latest_id (sym h)
latest_is all (Some best) h = ap (option_map (λ (one : ℕ × List ℕ). one.1)) (sym (best_found all best h))

-- one more
pub later_is : (all : List (ℕ × List ℕ)) (latest : Option (ℕ × List ℕ)) (next : ℕ × List ℕ) → IsLatest all latest → IsLatest (all ++ next ∷ []) (Some (later_pair latest next))
later_is all None next h = record { before = []; behind = []; split = ap (λ l. l ++ next ∷ []) h; earlier = refl; no_later = refl }
later_is all (Some best) next h = by (nat_le next.0 best.0) refl
  where
    by : (b : Bool) → nat_le next.0 best.0 ≡ b → IsBest (all ++ next ∷ []) (cond b best next)
    by true e = record {
      before = h.before;
      behind = h.behind ++ next ∷ [];
      split = ap (λ l. l ++ next ∷ []) h.split ∙ append_assoc h.before (best ∷ h.behind) (next ∷ []);
      earlier = h.earlier;
      no_later = list_all-append (is_no_later best) h.behind (next ∷ []) ∙ (λ i. h.no_later i && (e i && true));
    }
    by false e = record {
      before = all;
      behind = [];
      split = refl;
      earlier =
          ap (list_all (is_earlier next)) h.split ∙ list_all-append (is_earlier next) h.before (best ∷ h.behind)
          ∙ (λ i. all_weaker (is_earlier best) (is_earlier next) (λ x l. le_lt x.0 best.0 next.0 (lt_le x.0 best.0 l) (not_le_lt next.0 best.0 e)) h.before h.earlier i
          && (not_le_lt next.0 best.0 e i
          && all_weaker (is_no_later best) (is_earlier next) (λ x l. le_lt x.0 best.0 next.0 l (not_le_lt next.0 best.0 e)) h.behind h.no_later i));
      no_later = refl;
    }

-- ---- rows

-- what an entry tells, of any registry
abbrev unique_key_of : NoticeKey × Notice → Option (ℕ × List ℕ)
unique_key_of e = option_map (λ (id : List ℕ). (e.1.day, id)) (passed_id e.1.kind)

rows_as_entries : (rows : List desk.Notice) → passed_deposits_of rows ≡ filter_map unique_key_of (row_entries notice_key notice_value rows)
rows_as_entries [] = refl
rows_as_entries (n ∷ rows) = ap (cons_option (passed_deposit_of n)) (rows_as_entries rows)

of_registry : (tld : List ℕ) (es : List (NoticeKey × Notice)) → filter_map unique_key_of (filter (λ (e : NoticeKey × Notice). is_eq (text_cmp e.0.tld tld)) es) ≡ filter_map (passed_deposit tld) es
of_registry tld es =
    (λ i. filter_map unique_key_of (filter (λ (e : NoticeKey × Notice). is_eq-slice_cmp e.0.tld tld i) es)) ∙ filter_map_kept (λ (e : NoticeKey × Notice). bytes_eq e.0.tld tld) unique_key_of es

-- the ids alone
ids_are : (rows : List desk.Notice) → filter_map (λ (n : desk.Notice). passed_id n.kind) rows ≡ map (λ (one : ℕ × List ℕ). one.1) (passed_deposits_of rows)
ids_are [] = refl
ids_are (n ∷ rows) = by (passed_id n.kind) (ids_are rows)
  where
    by : (o : Option (List ℕ)) → filter_map (λ (n : desk.Notice). passed_id n.kind) rows ≡ map (λ (one : ℕ × List ℕ). one.1) (passed_deposits_of rows)
        → cons_option o (filter_map (λ (n : desk.Notice). passed_id n.kind) rows) ≡ map (λ (one : ℕ × List ℕ). one.1) (cons_option (option_map (λ (id : List ℕ). (n.day, id)) o) (passed_deposits_of rows))
    by None rest = rest
    by (Some id) rest = ap (λ l. id ∷ l) rest

-- the rows of a registry's notices tell what its notices do
pub rows_of_registry : (records : Records) (tld : List ℕ) (rows : List desk.Notice) → row_entries notice_key notice_value rows ≡ notices_of records tld → passed_deposits_of rows ≡ passed_deposits records.notices tld
rows_of_registry records tld rows is = rows_as_entries rows ∙ ap (filter_map unique_key_of) is ∙ of_registry tld (entries records.notices)

-- ---- rows of full deposits

module _ (records : Records) (image : List ℕ) where
  -- the first part of a revision is one of a full deposit in the records as in their state
  full_in_state : (tld : List ℕ) (day rev : ℕ) → is_part_of Full (get records.parts (record { tld = tld; day = day; rev = rev; part = 1 })) ≡ is_full_revision (state_in records image) tld day rev
  full_in_state tld day rev = sym (ap is_some (recorded_in_state records image name) ∙ by (get records.parts (key_of name)))
    where
      name : Name
      name = record { tld = tld; day = day; kind = Full; part = 1; rev = rev }

      if_same : (b : Bool) (part : PartRecord) → is_some (option_map (part_of image) (cond b (Some part) None)) ≡ b
      if_same true part = refl
      if_same false part = refl

      by : (o : Option PartRecord) → is_some (option_map (part_of image) (option_and_then (if_of_kind Full) o)) ≡ is_part_of Full o
      by None = refl
      by (Some part) = if_same (is_same_kind part.kind Full) part

  receipt_in_state : (tld : List ℕ) (day : ℕ) (kind : NoticeKind) → is_receipt_of_full_in records tld day kind ≡ is_receipt_of_full (state_in records image) tld day kind
  receipt_in_state tld day (Receipt rev _) = full_in_state tld day rev
  receipt_in_state tld day _ = refl

  -- the rows of full deposits tell what the state does
  pub full_of_registry : (tld : List ℕ) (rows : List desk.Notice) → row_entries notice_key notice_value rows ≡ notices_of records tld → passed_deposits_of (filter (tells_full_in records) rows) ≡ passed_full_deposits (state_in records image) tld
  full_of_registry tld rows is =
      (λ i. passed_deposits_of (filter (λ n. receipt_in_state n.tld n.day n.kind i) rows)) ∙ rows_as_entries (filter (λ n. is_receipt_entry_of_full (state_in records image) (notice_entry n)) rows)
      ∙ ap (filter_map unique_key_of) (sym (filter_entries notice_key notice_value (is_receipt_entry_of_full (state_in records image)) rows) ∙ ap (filter (is_receipt_entry_of_full (state_in records image))) is
      ∙ filter_swap (is_receipt_entry_of_full (state_in records image)) (λ (e : NoticeKey × Notice). is_eq (text_cmp e.0.tld tld)) (entries records.notices)) ∙ of_registry tld (filter (is_receipt_entry_of_full (state_in records image)) (entries records.notices))

-- which of them are full is told by the parts alone
pub full_by_parts : (records : Records) (told : FinMap notice_cmp Notice) (rows : List desk.Notice) → filter (tells_full_in records) rows ≡ filter (tells_full_in (with_notices records told)) rows
full_by_parts records told rows = λ i. filter (λ n. by_kind n.tld n.day n.kind i) rows
  where
    by_kind : (tld : List ℕ) (day : ℕ) (kind : NoticeKind) → is_receipt_of_full_in records tld day kind ≡ is_receipt_of_full_in (with_notices records told) tld day kind
    by_kind tld day (Receipt rev _) = refl
    by_kind tld day _ = refl

-- ---- the first deposit with an id

-- a deposit has the id
abbrev pub has_id_of : List ℕ → ℕ × List ℕ → Bool
has_id_of id one = bytes_eq one.1 id

abbrev first_day : List (ℕ × List ℕ) → List ℕ → Option ℕ
first_day all id = option_map (λ (one : ℕ × List ℕ). one.0) (find (has_id_of id) all)

abbrev first_row_day : List desk.Notice → List ℕ → Option ℕ
first_row_day rows id = option_map (λ (n : desk.Notice). n.day) (find (has_passed id) rows)

day_by_rows : (id : List ℕ) (rows : List desk.Notice) → first_row_day rows id ≡ first_day (passed_deposits_of rows) id
day_by_rows id [] = refl
day_by_rows id (n ∷ rows) = by (passed_id n.kind) (day_by_rows id rows)
  where
    by_test : (passed : List ℕ) (b : Bool) → first_row_day rows id ≡ first_day (passed_deposits_of rows) id
        → option_map (λ (n : desk.Notice). n.day) (cond b (Some n) (find (has_passed id) rows)) ≡ option_map (λ (one : ℕ × List ℕ). one.0) (cond b (Some (n.day, passed)) (find (has_id_of id) (passed_deposits_of rows)))
    by_test passed true rest = refl
    by_test passed false rest = rest

    by : (o : Option (List ℕ)) → first_row_day rows id ≡ first_day (passed_deposits_of rows) id
        → option_map (λ (n : desk.Notice). n.day) (cond (is_of_id id o) (Some n) (find (has_passed id) rows)) ≡ first_day (cons_option (option_map (λ (id : List ℕ). (n.day, id)) o) (passed_deposits_of rows)) id
    by None rest = rest
    by (Some passed) rest = by_test passed (bytes_eq passed id) rest

-- the rows of a registry tell it
pub day_of_registry : (records : Records) (tld id : List ℕ) (rows : List desk.Notice) → row_entries notice_key notice_value rows ≡ notices_of records tld → first_row_day rows id ≡ passed_day records.notices tld id
day_of_registry records tld id rows is = day_by_rows id rows ∙ ap (λ (all : List (ℕ × List ℕ)). first_day all id) (rows_of_registry records tld rows is)

-- ---- a loop over the rows

-- the rows up to the next one, and what they tell
pub rows_up_to : (rows : List desk.Notice) (i : ℕ) (n : desk.Notice) → i < length rows → get_or rows i n ≡ n → passed_deposits_of (take (i + 1) rows) ≡ passed_deposits_of (take i rows) ++ cons_option (passed_deposit_of n) []
rows_up_to rows i n lt at = ap passed_deposits_of (take_more rows i n lt ∙ ap (λ m. take i rows ++ m ∷ []) at) ∙ filter_map-append passed_deposit_of (take i rows) (n ∷ [])

pub latest_more : (rows : List desk.Notice) (i : ℕ) (n : desk.Notice) (latest next : Option (ℕ × List ℕ)) → i < length rows → get_or rows i n ≡ n → IsLatest (passed_deposits_of (take i rows)) latest
    → ((pair : ℕ × List ℕ) → passed_deposit_of n ≡ Some pair → next ≡ Some (later_pair latest pair)) → (passed_deposit_of n ≡ None → next ≡ latest) → IsLatest (passed_deposits_of (take (i + 1) rows)) next
latest_more rows i n latest next lt at so_far told nothing = by (passed_deposit_of n) refl (rows_up_to rows i n lt at)
  where
    by : (o : Option (ℕ × List ℕ)) → passed_deposit_of n ≡ o → passed_deposits_of (take (i + 1) rows) ≡ passed_deposits_of (take i rows) ++ cons_option o [] → IsLatest (passed_deposits_of (take (i + 1) rows)) next
    by None is rest = subst (λ (z : List (ℕ × List ℕ)). IsLatest z next) (sym (rest ∙ append-nil (passed_deposits_of (take i rows)))) (subst (IsLatest (passed_deposits_of (take i rows))) (sym (nothing is)) so_far)
    by (Some pair) is rest = subst (λ (z : List (ℕ × List ℕ)). IsLatest z next) (sym rest) (subst (IsLatest (passed_deposits_of (take i rows) ++ pair ∷ [])) (sym (told pair is)) (later_is (passed_deposits_of (take i rows)) latest pair so_far))

pub latest_at_end : (rows : List desk.Notice) (i : ℕ) (latest : Option (ℕ × List ℕ)) → length rows ≤ i → IsLatest (passed_deposits_of (take i rows)) latest → option_map (λ (one : ℕ × List ℕ). one.1) latest ≡ latest_id (passed_deposits_of rows)
latest_at_end rows i latest end h = latest_is (passed_deposits_of rows) latest (subst (λ l. IsLatest (passed_deposits_of l) latest) (take_all i rows end) h)

-- what is known of a stated deposit, put together
pub known_is : (st : stated.Statement) (records : Records) (image : List ℕ) (base : Option Base) (name : Name) (rows full_rows : List desk.Notice) (latest full : Option (List ℕ)) (ids : List (List ℕ)) → name ≡ first_part st
    → row_entries notice_key notice_value rows ≡ notices_of records st.tld → full_rows ≡ filter (tells_full_in records) rows → latest ≡ latest_id (passed_deposits_of rows) → full ≡ latest_id (passed_deposits_of full_rows)
    → ids ≡ filter_map (λ (n : desk.Notice). passed_id n.kind) rows
    → ◌≡◌ {A = Known} (record { name = name; id = st.id; latest = latest; full = full; passed = ids; base = base }) (record (known_of (state_in records image) st) { base = base })
known_is st records image base name rows full_rows latest full ids named is among late latest_full all = λ i. record {
  name = named i;
  id = st.id;
  latest = (late ∙ ap latest_id (rows_of_registry records st.tld rows is)) i;
  full = (latest_full ∙ ap (λ l. latest_id (passed_deposits_of l)) among ∙ ap latest_id (full_of_registry records image st.tld rows is)) i;
  passed = (all ∙ ids_are rows ∙ ap (map (λ (one : ℕ × List ℕ). one.1)) (rows_of_registry records st.tld rows is)) i;
  base = base;
}
