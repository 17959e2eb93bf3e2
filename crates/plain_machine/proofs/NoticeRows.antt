-- What the plain program finds among its notices is what the map of them has.
use Rattle.std.proofs.Common.{◌≡◌, ◌<◌, ◌+◌, ℕ, max, take, length, get_or, List, [], ◌∷◌, ◌++◌, map, Option, Some, None, Bool, true, false, cond, refl, sym, ◌∙◌, ap, find, arith}
use Rattle.std.specs.Prelude.{option_map, bytes_eq}
use Rattle.std.specs.List.{cons_option, filter, filter_map, list_any}
use Rattle.std.specs.FinMap as fin
use Rattle.std.specs.FinMap.{FinMap, entries, get}
use Rattle.std.specs.Cmp.{Equal-is}
use Rattle.std.specs.Ordering.{eq_by_cmp}
use Rattle.std.proofs.lemmas.List.{take_more}
use Rattle.std.proofs.lemmas.List.Elements.{filter_map-append}
use Rattle.desk.specs.declared.notices.Notice as desk
use Rattle.custody_records.specs.Keys.{NoticeKey, notice_cmp}
use Rattle.custody_records.specs.Records.{Notice}
use Rattle.custody_records.specs.Tables.{is_rising, table_map}
use Rattle.custody_records.specs.TypedRecords.{notice_entry, notice_key, notice_value}
use Rattle.custody_records.specs.inside.Orders.{notice_exact}
use Rattle.custody_records.proofs.GroupLemmas.{filter_entries}
use Rattle.custody_records.proofs.TableLemmas.{any_entries, entries-table_map}
use Rattle.custody_machine.specs.Machine.{greatest_number, next_key}
use Rattle.custody_machine.proofs.SameValues.{text_decides}
use Rattle.plain_machine.specs.Plain.{greatest_number_of}

find_mapped : (test : NoticeKey × Notice → Bool) (rows : List desk.Notice) → option_map notice_entry (find (λ n. test (notice_entry n)) rows) ≡ find test (map notice_entry rows)
find_mapped test [] = refl
find_mapped test (n ∷ rows) = by (test (notice_entry n)) (find_mapped test rows)
  where
    by : (b : Bool) → option_map notice_entry (find (λ n. test (notice_entry n)) rows) ≡ find test (map notice_entry rows)
        → option_map notice_entry (cond b (Some n) (find (λ n. test (notice_entry n)) rows)) ≡ cond b (Some (notice_entry n)) (find test (map notice_entry rows))
    by true rest = refl
    by false rest = rest

filter_mapped : {X : Type 0} (f : NoticeKey × Notice → Option X) (rows : List desk.Notice) → filter_map (λ n. f (notice_entry n)) rows ≡ filter_map f (map notice_entry rows)
filter_mapped f [] = refl
filter_mapped f (n ∷ rows) = ap (cons_option (f (notice_entry n))) (filter_mapped f rows)

module _ (rows found : List desk.Notice) (is : found ≡ rows) (rising : is_rising notice_cmp notice_key rows ≡ true) where
  pub entries_are : map notice_entry found ≡ entries (table_map notice_cmp notice_key notice_value rows)
  entries_are = ap (map notice_entry) is ∙ sym (entries-table_map notice_cmp notice_key notice_value rows rising)

  pub any_shown : (test : NoticeKey × Notice → Bool) → list_any (λ n. test (notice_entry n)) found ≡ list_any test (entries (table_map notice_cmp notice_key notice_value rows))
  any_shown test = sym (any_entries notice_key notice_value test found) ∙ ap (list_any test) entries_are

  pub find_shown : (test : NoticeKey × Notice → Bool) → option_map notice_entry (find (λ n. test (notice_entry n)) found) ≡ find test (entries (table_map notice_cmp notice_key notice_value rows))
  find_shown test = find_mapped test found ∙ ap (find test) entries_are

  pub filter_shown : {X : Type 0} (f : NoticeKey × Notice → Option X) → filter_map (λ n. f (notice_entry n)) found ≡ filter_map f (entries (table_map notice_cmp notice_key notice_value rows))
  filter_shown f = filter_mapped f found ∙ ap (filter_map f) entries_are

  pub tested_shown : {X : Type 0} (test : NoticeKey × Notice → Bool) (f : NoticeKey × Notice → Option X)
      → filter_map (λ n. f (notice_entry n)) (filter (λ n. test (notice_entry n)) found) ≡ filter_map f (filter test (entries (table_map notice_cmp notice_key notice_value rows)))
  tested_shown test f = filter_mapped f (filter (λ n. test (notice_entry n)) found) ∙ ap (filter_map f) (sym (filter_entries notice_key notice_value test found) ∙ ap (filter test) entries_are)

-- ---- a row more

pub row_more : {Row : Type 0} (rows : List Row) (i : ℕ) (n : Row) → i < length rows → n ≡ get_or rows i n → take (i + 1) rows ≡ take i rows ++ n ∷ []
row_more {Row} rows i n lt is = take_more rows i n lt ∙ ap (λ (r : Row). take i rows ++ r ∷ []) (sym is)

pub filter_more : {X : Type 0} (f : desk.Notice → Option X) (rows : List desk.Notice) (i : ℕ) (n : desk.Notice) → i < length rows → n ≡ get_or rows i n
    → filter_map f (take (i + 1) rows) ≡ filter_map f (take i rows) ++ filter_map f (n ∷ [])
filter_more f rows i n lt is = ap (filter_map f) (row_more rows i n lt is) ∙ filter_map-append f (take i rows) (n ∷ [])

max_swap : (a b c : ℕ) → max a (max b c) ≡ max b (max a c)
max_swap a b c = omega arith

-- the greatest number, with one entry more
greatest_push : (tld : List ℕ) (rows : List desk.Notice) (n : desk.Notice) → greatest_number_of tld (map notice_entry (rows ++ n ∷ [])) ≡ cond (bytes_eq n.tld tld) (max n.number (greatest_number_of tld (map notice_entry rows))) (greatest_number_of tld (map notice_entry rows))
greatest_push tld [] n = by (bytes_eq n.tld tld)
  where
    by : (b : Bool) → greatest_number (cond b (notice_entry n ∷ []) []) ≡ cond b (max n.number 0) 0
    by true = refl
    by false = refl
greatest_push tld (m ∷ rows) n = by (bytes_eq m.tld tld) (bytes_eq n.tld tld) (greatest_push tld rows n)
  where
    all : List (NoticeKey × Notice)
    all = filter (λ (e : NoticeKey × Notice). bytes_eq e.0.tld tld) (map notice_entry (rows ++ n ∷ []))

    old : List (NoticeKey × Notice)
    old = filter (λ (e : NoticeKey × Notice). bytes_eq e.0.tld tld) (map notice_entry rows)

    by : (a b : Bool) → greatest_number all ≡ cond b (max n.number (greatest_number old)) (greatest_number old)
        → greatest_number (cond a (notice_entry m ∷ all) all) ≡ cond b (max n.number (greatest_number (cond a (notice_entry m ∷ old) old))) (greatest_number (cond a (notice_entry m ∷ old) old))
    by true true rest = ap (max m.number) rest ∙ max_swap m.number n.number (greatest_number old)
    by true false rest = ap (max m.number) rest
    by false true rest = rest
    by false false rest = rest

pub greatest_more : (tld : List ℕ) (rows : List desk.Notice) (i : ℕ) (n : desk.Notice) → i < length rows → n ≡ get_or rows i n
    → greatest_number_of tld (map notice_entry (take (i + 1) rows)) ≡ cond (bytes_eq n.tld tld) (max n.number (greatest_number_of tld (map notice_entry (take i rows)))) (greatest_number_of tld (map notice_entry (take i rows)))
greatest_more tld rows i n lt is = ap (λ (l : List desk.Notice). greatest_number_of tld (map notice_entry l)) (row_more rows i n lt is) ∙ greatest_push tld (take i rows) n

-- ---- the next number is new

same_key : (a b : NoticeKey) → bytes_eq a.tld b.tld ≡ false → eq_by_cmp notice_cmp b a ≡ false
same_key a b other = by (eq_by_cmp notice_cmp b a) refl
  where
    by : (e : Bool) → eq_by_cmp notice_cmp b a ≡ e → e ≡ false
    by false e = refl
    by true e = let same = notice_exact b a ((Equal-is (notice_cmp b a)).0 e) in let clash : true ≡ false = sym ((text_decides a.tld b.tld).1 (ap (λ (k : NoticeKey). k.tld) (sym same))) ∙ other in cc

same_number : (a b : NoticeKey) → eq_by_cmp notice_cmp b a ≡ true → a.number ≡ b.number
same_number a b e = ap (λ (k : NoticeKey). k.number) (sym (notice_exact b a ((Equal-is (notice_cmp b a)).0 e)))

below_rest : (b : Bool) (e : NoticeKey × Notice) (rest : List (NoticeKey × Notice)) (n : ℕ) → greatest_number (cond b (e ∷ rest) rest) < n → greatest_number rest < n
below_rest true e rest n less = omega (arith, less)
below_rest false e rest n less = less

not_found : (key : NoticeKey) (es : List (NoticeKey × Notice)) → greatest_number_of key.tld es < key.number → fin.find notice_cmp key es ≡ None
not_found key [] lt = refl
not_found key (e ∷ es) lt = by (bytes_eq e.0.tld key.tld) (eq_by_cmp notice_cmp key e.0) refl refl lt (not_found key es (below_rest (bytes_eq e.0.tld key.tld) e rest key.number lt))
  where
    rest : List (NoticeKey × Notice)
    rest = filter (λ (one : NoticeKey × Notice). bytes_eq one.0.tld key.tld) es

    by : (a b : Bool) → bytes_eq e.0.tld key.tld ≡ a → eq_by_cmp notice_cmp key e.0 ≡ b → greatest_number (cond a (e ∷ rest) rest) < key.number → fin.find notice_cmp key es ≡ None
        → cond b (Some e.1) (fin.find notice_cmp key es) ≡ None
    by a false same eq less others = others
    by true true same eq less others = absurd (omega (arith, less, same_number e.0 key eq))
    by false true same eq less others = let clash : true ≡ false = sym eq ∙ same_key e.0 key same in cc

pub number_is_new : (m : FinMap notice_cmp Notice) (tld : List ℕ) → get m (next_key m tld) ≡ None
number_is_new m tld = fin.get-entries m (next_key m tld) ∙ not_found (next_key m tld) (entries m) (omega arith)
