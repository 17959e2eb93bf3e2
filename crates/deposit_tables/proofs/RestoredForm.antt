-- The tables after a chain are in form, and no two rows of one have one key.
use Rattle.std.proofs.Common.{◌≡◌, ◌≢◌, ◌↔◌, ◌⊎◌, ◌<◌, ◌≤◌, ◌++◌, ◌∷◌, ◌∙◌, [], ℕ, All, AllPairs, Bool, Contains, IsTrue, List, ap, arith, false, get_or, inl, inr, length, refl, subst, sym, take, true}
use Rattle.std.specs.List.{AllZip}
use Rattle.std.proofs.lemmas.List.{get_or-map, get_or_default, length-map, take_all}
use Rattle.std.proofs.lemmas.List.Elements.{All-cons, All-contains, All-weaker, Contains-append_right, Contains-get_or}
use Rattle.deposit_name.specs.Tables.{has_deletes}
use Rattle.deposit_name.specs.declared.table.TableName.{TableName}
use Rattle.deposit_name.specs.declared.table.TableName.TheVariants.{Domain, DomainContacts, DomainStatuses, DomainNameServers, Host, HostAddresses, Contact, Registrar}
use Rattle.dnrd_csv.specs.Form.{HasForm}
use Rattle.dnrd_csv.specs.Readers.{IsTableReader}
use Rattle.dnrd_csv.specs.Table.{HaveDistinctKeys, columns_of, key_columns_of}
use Rattle.dnrd_csv.specs.Text.{table_text}
use Rattle.dnrd_csv.specs.inside.Spellings.{BeginsWithKey}
use Rattle.dnrd_csv.proofs.FormTexts.{table_of_forms}
use Rattle.dnrd_csv.proofs.KeyLemmas.{ascend_differ}
use Rattle.envelope.specs.declared.envelope.FileEntry.{FileEntry}
use Rattle.deposit_verify.specs.Chain.{DepositContains, IsChain, IsKeyOf, IsLaterOfChain, IsRead}
use Rattle.deposit_verify.specs.Deposit.{HasEnvelope, IsTableOf, contents_files}
use Rattle.deposit_verify.specs.Keys.{AnyZip, IsNumberOf}
use Rattle.deposit_verify.specs.References.{column}
use Rattle.deposit_verify.specs.Rows.{rows_under}
use Rattle.deposit_verify.specs.Verdict.{tables_at}
use Rattle.deposit_verify.specs.inside.Reading.{OneReading}
use Rattle.deposit_verify.proofs.Columns.{get_or-column, length-column}
use Rattle.deposit_verify.proofs.FilesDecided.{some_of, table_decides}
use Rattle.deposit_verify.proofs.Readings.{under_once}
use Rattle.deposit_tables.specs.Owners.{owner_key}
use Rattle.deposit_tables.specs.Restored.{AreRestored, AreTablesOf, DepositHasRow, DepositRenews, HasRow, IsRowAfter}
use Rattle.deposit_tables.proofs.Ascending.{only_tables}
use Rattle.deposit_tables.proofs.ChainRows.{chain_rows, contained_key, key_of_row, row_of_key}
use Rattle.deposit_tables.proofs.Decisions.{Rows, Tables, contains_here}
use Rattle.deposit_tables.proofs.RowReadings.{deposit_row}

-- ---- forms

form_in : (name : TableName) (row : List (List ℕ)) (es : List FileEntry) (fs : List (List ℕ)) → AnyZip (HasRow name row) es fs → (length row ≡ length (columns_of name)) × AllZip HasForm (columns_of name) row
form_in name row [] fs any = absurd any
form_in name row (e ∷ es) [] any = absurd any
form_in name row (e ∷ es) (f ∷ fs) (inl here) =
    subst (λ (n : TableName). (length row ≡ length (columns_of n)) × AllZip HasForm (columns_of n) row) here.0 (
      All-contains (λ (r : List (List ℕ)). length r ≡ length (columns_of e.name)) here.1 row here.2.columns_right here.3,
      All-contains (λ (r : List (List ℕ)). AllZip HasForm (columns_of e.name) r) here.1 row here.2.forms_right here.3,
    )
form_in name row (e ∷ es) (f ∷ fs) (inr later) = form_in name row es fs later

row_form : (chain : List (List ℕ)) (name : TableName) (row : List (List ℕ)) → IsRowAfter chain name row → (length row ≡ length (columns_of name)) × AllZip HasForm (columns_of name) row
row_form chain name row h = form_in name row h.4.0.contents _ h.4.3.2

pub begins : (name : TableName) → BeginsWithKey (columns_of name)
begins Domain = tt
begins DomainContacts = tt
begins DomainStatuses = tt
begins DomainNameServers = tt
begins Host = tt
begins HostAddresses = tt
begins Contact = tt
begins Registrar = tt

-- ---- one row of a key

-- two places among all are the same, or one is before the other
pub tell : (m n : ℕ) → (m < n) ⊎ ((m ≡ n) ⊎ (n < m))
tell m n = grind arith

pub row_at : (rows : Rows) (k : ℕ) (row : List (List ℕ)) → k < length rows → get_or rows k row ≡ row → get_or rows k [] ≡ row
row_at rows k row inside is = get_or_default rows k [] row inside ∙ is

key_at : (rows : Rows) (k : ℕ) (row : List (List ℕ)) (d : List ℕ) → k < length rows → get_or rows k row ≡ row → get_or (column 0 rows) k d ≡ owner_key row
key_at rows k row d inside is = get_or-column 0 rows k d inside ∙ ap owner_key (row_at rows k row inside is)

one_of_key : (rows : Rows) → AllPairs (λ one other. one ≢ other) (column 0 rows) → (one other : List (List ℕ)) → Contains rows one → Contains rows other → owner_key one ≡ owner_key other → one ≡ other
one_of_key rows once one other (i, in_i, at_i) (j, in_j, at_j) same =
    let size = length-column 0 rows in
    elim (tell i j) [
      | inl below ↦ absurd (once i j [] below (omega (arith, in_j, size)) (key_at rows i one [] in_i at_i ∙ same ∙ sym (key_at rows j other [] in_j at_j)))
      | inr more ↦ elim more [
        | inl equal ↦ sym (row_at rows i one in_i at_i) ∙ ap (λ (k : ℕ). get_or rows k []) equal ∙ row_at rows j other in_j at_j
        | inr above ↦ absurd (once j i [] above (omega (arith, in_i, size)) (key_at rows j other [] in_j at_j ∙ sym same ∙ sym (key_at rows i one [] in_i at_i)))
      ]
    ]

abbrev IsReadDeposit : List ℕ → Type 0
IsReadDeposit joined = HasEnvelope joined IsRead

chain_read : (chain : List (List ℕ)) → IsChain chain → All IsReadDeposit chain
chain_read [] is = absurd is
chain_read (first ∷ later) is =
    All-cons IsReadDeposit first later (is.0.0, is.0.1, is.0.2, is.0.3.1)
    (All-weaker IsLaterOfChain IsReadDeposit (λ joined h. (h.0, h.1, h.2, h.3.1)) later is.1)

-- two places in a chain are the same, or one is behind the other
meet : (b a b' a' : List (List ℕ)) (l l' : List ℕ) → b ++ l ∷ a ≡ b' ++ l' ∷ a' → (l ≡ l') ⊎ (Contains a l' ⊎ Contains a' l)
meet [] a [] a' l l' e = inl (cc e)
meet [] a (c ∷ b') a' l l' e =
    let tail : a ≡ b' ++ l' ∷ a' = cc e in
    inr (inl (subst (λ (xs : List (List ℕ)). Contains xs l') (sym tail) (Contains-append_right b' (l' ∷ a') l' (contains_here l' a'))))
meet (c ∷ b) a [] a' l l' e =
    let tail : b ++ l ∷ a ≡ a' = cc e in
    inr (inr (subst (λ (xs : List (List ℕ)). Contains xs l) tail (Contains-append_right b (l ∷ a) l (contains_here l a))))
meet (c ∷ b) a (c' ∷ b') a' l l' e = let tail : b ++ l ∷ a ≡ b' ++ l' ∷ a' = cc e in meet b a b' a' l l' tail

module _ (reader : IsTableReader) (one : OneReading) where
  -- a deposit that is read has one row of a key
  deposit_one : (joined : List ℕ) → IsReadDeposit joined → (name : TableName) → IsTrue (has_deletes name) → (row other : List (List ℕ)) → DepositHasRow joined name row → DepositHasRow joined name other
      → owner_key row ≡ owner_key other → row ≡ other
  deposit_one joined (v, rest, deposit, read) name keyed row other has too same =
      let files = read.tables.0 in
      let are = read.tables.1 in
      let there = some_of (tables_at v.contents (contents_files v files)) ((table_decides reader v rest files are).1 read.tables) in
      one_of_key (rows_under v.contents there.0 name) (under_once reader name keyed v.contents (contents_files v files) there.0 there.1) row other
      ((deposit_row reader name row one joined v rest deposit read.menu files are there.0 there.1).0 has)
      ((deposit_row reader name other one joined v rest deposit read.menu files are there.0 there.1).0 too) same

  -- and so has a chain
  chain_one : (chain : List (List ℕ)) → IsChain chain → (name : TableName) → IsTrue (has_deletes name) → (row other : List (List ℕ)) → IsRowAfter chain name row → IsRowAfter chain name other
      → owner_key row ≡ owner_key other → row ≡ other
  chain_one chain is name keyed row other h k same = elim (meet h.0 h.2 k.0 k.2 h.1 k.1 (sym h.3 ∙ k.3)) [
    | inl here ↦
        let inside : Contains chain h.1 = subst (λ (xs : List (List ℕ)). Contains xs h.1) (sym h.3) (Contains-append_right h.0 (h.1 ∷ h.2) h.1 (contains_here h.1 h.2)) in
        deposit_one h.1 (All-contains IsReadDeposit chain h.1 (chain_read chain is) inside) name keyed row other h.4 (subst (λ (d : List ℕ). DepositHasRow d name other) (sym here) k.4) same
    | inr apart ↦ elim apart [
      | inl later ↦ absurd (All-contains (λ d. ¬ DepositRenews d name (owner_key row)) h.2 k.1 h.5 later
          (inl (subst (λ (key : List ℕ). DepositContains k.1 name key) (sym same) (contained_key k.1 name other k.4))))
      | inr earlier ↦ absurd (All-contains (λ d. ¬ DepositRenews d name (owner_key other)) k.2 h.1 k.5 earlier
          (inl (subst (λ (key : List ℕ). DepositContains h.1 name key) same (contained_key h.1 name row h.4))))
    ]
  ]

-- ---- the key of a row

object_key : (name : TableName) → IsTrue (has_deletes name) → key_columns_of name ≡ 1
object_key Domain h = refl
object_key _ h = cc h

child_key : (name : TableName) → has_deletes name ≡ false → length (columns_of name) ≤ key_columns_of name
child_key Domain h = cc h
child_key DomainContacts h = omega arith
child_key DomainStatuses h = omega arith
child_key DomainNameServers h = omega arith
child_key Host h = cc h
child_key HostAddresses h = omega arith
child_key Contact h = cc h
child_key Registrar h = cc h

owner_of_take : (row : List (List ℕ)) → owner_key (take 1 row) ≡ owner_key row
owner_of_take [] = refl
owner_of_take (x ∷ xs) = refl

module _ (reader : IsTableReader) (one : OneReading) (chain : List (List ℕ)) (tables : Tables) (is : AreTablesOf chain tables) (name : TableName) where
  abbrev rows : Rows
  rows = tables name

  of_chain : (k : ℕ) (d : List (List ℕ)) → k < length rows → IsRowAfter chain name (get_or rows k d)
  of_chain k d inside = ((is.rows name).same (get_or rows k d)).0 (Contains-get_or rows k d inside)

  same_keys : (i j : ℕ) (d : List (List ℕ)) → i < length rows → j < length rows → (b : Bool) → has_deletes name ≡ b → take (key_columns_of name) (get_or rows i d) ≡ take (key_columns_of name) (get_or rows j d)
      → get_or rows i d ≡ get_or rows j d
  same_keys i j d in_i in_j true keyed same =
      let first = subst (λ (n : ℕ). take n (get_or rows i d) ≡ take n (get_or rows j d)) (object_key name keyed) same in
      chain_one reader one chain is.chained name keyed (get_or rows i d) (get_or rows j d) (of_chain i d in_i) (of_chain j d in_j)
      (sym (owner_of_take (get_or rows i d)) ∙ ap owner_key first ∙ owner_of_take (get_or rows j d))
  same_keys i j d in_i in_j false child same =
      let key = child_key name child in
      let wide_i = (row_form chain name (get_or rows i d) (of_chain i d in_i)).0 in
      let wide_j = (row_form chain name (get_or rows j d) (of_chain j d in_j)).0 in
      sym (take_all (key_columns_of name) (get_or rows i d) (omega (arith, key, wide_i))) ∙ same ∙ take_all (key_columns_of name) (get_or rows j d) (omega (arith, key, wide_j))

  distinct : HaveDistinctKeys (key_columns_of name) rows
  distinct i j d below inside same =
      let size = length-map rows (take {A = List ℕ} (key_columns_of name)) in
      let in_j : j < length rows = omega (arith, inside, size) in
      let in_i : i < length rows = omega (arith, below, in_j) in
      ascend_differ rows (is.rows name).ascend i j [] below in_j
      (same_keys i j [] in_i in_j (has_deletes name) refl
      (sym (get_or-map (take (key_columns_of name)) rows i [] d in_i) ∙ same ∙ get_or-map (take (key_columns_of name)) rows j [] d in_j))

  in_form : IsTableOf name (table_text rows) rows
  in_form =
      table_of_forms (columns_of name) (key_columns_of name) rows (begins name)
      (λ k d inside. (row_form chain name (get_or rows k d) (of_chain k d inside)).0)
      (λ k d inside. (row_form chain name (get_or rows k d) (of_chain k d inside)).1) distinct

  module _ (keyed : IsTrue (has_deletes name)) where
    keys_are : (key : List ℕ) → Contains (column 0 rows) key ↔ IsKeyOf chain name key
    keys_are key =
        let law = chain_rows.keys chain name key keyed in (
          λ has. let found = row_of_key rows key has in law.1 (found.0, ((is.rows name).same found.0).0 found.1, found.2),
          λ of. let found = law.0 of in subst (λ (k : List ℕ). Contains (column 0 rows) k) found.2 (key_of_row rows found.0 (((is.rows name).same found.0).1 found.1)),
        )

    keys_once : AllPairs (λ one other. one ≢ other) (column 0 rows)
    keys_once i j d below inside same =
        let size = length-column 0 rows in
        let in_j : j < length rows = omega (arith, inside, size) in
        let in_i : i < length rows = omega (arith, below, in_j) in
        ascend_differ rows (is.rows name).ascend i j [] below in_j
        (chain_one reader one chain is.chained name keyed (get_or rows i []) (get_or rows j []) (of_chain i [] in_i) (of_chain j [] in_j)
        (sym (get_or-column 0 rows i d in_i) ∙ same ∙ get_or-column 0 rows j d in_j))

    number_is : IsNumberOf (IsKeyOf chain name) (length rows)
    number_is = (column 0 rows, record { once = keys_once; same = keys_are }, length-column 0 rows)

pub restored : IsTableReader → OneReading → AreRestored
restored reader one = record {
  only = only_tables;
  in_form = in_form reader one;
  keys = λ chain tables is name keyed. keys_are reader one chain tables is name keyed;
  numbers = λ chain tables is name keyed. number_is reader one chain tables is name keyed;
}
