-- The tables after a deposit that is read have the rows of the chain that ends with it.
use Rattle.std.proofs.Common.{◌≡◌, ◌↔◌, ◌⊎◌, ◌++◌, ◌∷◌, ◌∙◌, [], ℕ, Bool, Contains, List, Some, ap, cond, false, filter, inl, inr, not, refl, subst, sym, true}
use Rattle.std.specs.Set.{is_member}
use Rattle.std.specs.Str.{bytes_eq}
use Rattle.std.proofs.lemmas.Bool.Decides.{not_from_Decides}
use Rattle.std.proofs.lemmas.List.Elements.{Contains-append_cases, Contains-append_left, Contains-append_right}
use Rattle.deposit_name.specs.declared.table.TableName.{TableName}
use Rattle.dnrd_csv.specs.Readers.{IsTableReader}
use Rattle.envelope.specs.Readers.{AreReaders}
use Rattle.deposit_verify.specs.Bases.{DepositReading, reading_at}
use Rattle.deposit_verify.specs.Chain.{DepositContains, DepositNames}
use Rattle.deposit_verify.specs.Deposit.{deletes_of}
use Rattle.deposit_verify.specs.References.{column}
use Rattle.deposit_verify.specs.Rows.{rows_under}
use Rattle.deposit_verify.specs.inside.Reading.{OneReading}
use Rattle.deposit_verify.proofs.BaseLemmas.{IsReading, contained_in, named_in, reading_found}
use Rattle.deposit_verify.proofs.CountsDecided.{contained_is, deleted_is}
use Rattle.deposit_verify.proofs.KeyCounts.{member_decides}
use Rattle.deposit_tables.specs.Owners.{owner_key, owner_table}
use Rattle.deposit_tables.specs.Restored.{DepositHasRow, DepositRenews, HasRowsOf, IsRowAfter}
use Rattle.deposit_tables.specs.RowsAfter.{AreTablesAfter, is_kept, renewed_by, deposit_rows, tables_after}
use Rattle.deposit_tables.proofs.ChainRows.{chain_rows}
use Rattle.deposit_tables.proofs.Decisions.{Tables, contains_cases, contains_here, contains_later, nothing}
use Rattle.deposit_tables.proofs.RowReadings.{deposit_row}

-- ---- what a filter keeps

not_true : (b : Bool) → not b ≡ true → b ≡ false
not_true true e = cc e
not_true false e = refl

pub kept_there : {X : Type 0} (p : X → Bool) (xs : List X) (q : X) → Contains (filter p xs) q → Contains xs q × (p q ≡ true)
kept_there p [] q has = absurd (nothing q has)
kept_there p (x ∷ xs) q has = by (kept_there p xs q) (p x) refl has
  where
    moved : x ≡ q → p x ≡ true → p q ≡ true
    moved is passes = ap p (sym is) ∙ passes

    by : (Contains (filter p xs) q → Contains xs q × (p q ≡ true)) → (b : Bool) → p x ≡ b → Contains (cond b (x ∷ filter p xs) (filter p xs)) q → Contains (x ∷ xs) q × (p q ≡ true)
    by more false passes has = let rest = more has in (contains_later x xs q rest.0, rest.1)
    by more true passes has = elim (contains_cases x (filter p xs) q has) [
      | inl is ↦ (subst (Contains (x ∷ xs)) is (contains_here x xs), moved is passes)
      | inr later ↦ let rest = more later in (contains_later x xs q rest.0, rest.1)
    ]

pub kept_back : {X : Type 0} (p : X → Bool) (xs : List X) (q : X) → Contains xs q → p q ≡ true → Contains (filter p xs) q
kept_back p [] q has passes = absurd (nothing q has)
kept_back p (x ∷ xs) q has passes = by (λ there. kept_back p xs q there passes) (p x) refl (contains_cases x xs q has)
  where
    by : (Contains xs q → Contains (filter p xs) q) → (b : Bool) → p x ≡ b → (x ≡ q) ⊎ Contains xs q → Contains (cond b (x ∷ filter p xs) (filter p xs)) q
    by more true is (inl same) = subst (Contains (x ∷ filter p xs)) same (contains_here x (filter p xs))
    by more true is (inr later) = contains_later x (filter p xs) q (more later)
    by more false is (inl same) = let clash : true ≡ false = sym passes ∙ ap p (sym same) ∙ is in cc clash
    by more false is (inr later) = more later

-- a row is kept just where its object is not renewed
pub kept_if : (renewed : List (List ℕ)) (row : List (List ℕ)) → is_kept renewed row ≡ true → ¬ Contains renewed (owner_key row)
kept_if renewed row kept = not_from_Decides _ (member_decides renewed (owner_key row)) (not_true _ kept)

pub if_kept : (renewed : List (List ℕ)) (row : List (List ℕ)) → (¬ Contains renewed (owner_key row)) → is_kept renewed row ≡ true
if_kept renewed row none = by (is_member bytes_eq renewed (owner_key row)) refl
  where
    by : (b : Bool) → is_member bytes_eq renewed (owner_key row) ≡ b → not b ≡ true
    by true is = absurd (none ((member_decides renewed (owner_key row)).0 is))
    by false is = refl

module _ (readers : AreReaders) (reader : IsTableReader) (one : OneReading) (joined : List ℕ) (r : DepositReading) (at : reading_at joined ≡ Some r) where
  h : IsReading joined r
  h = reading_found readers joined r at

  has_row : (name : TableName) (row : List (List ℕ)) → DepositHasRow joined name row ↔ Contains (deposit_rows r name) row
  has_row name row = deposit_row reader name row one joined r.envelope h.rest h.deposit h.menu h.files h.are r.tables h.tables

  contains : (name : TableName) (key : List ℕ) → DepositContains joined name key ↔ Contains (column 0 (deposit_rows r name)) key
  contains name key =
      let here = contained_in one joined r.envelope h.rest h.deposit name key in
      let found = contained_is reader r.envelope h.rest h.files h.menu h.are r.tables h.tables name key in
      (λ c. found.1 (here.0 c), λ c. here.1 (found.0 c))

  abbrev Named : TableName → List ℕ → Type 0
  Named name key = Contains (column 0 (deposit_rows r name) ++ column 0 (rows_under (deletes_of r.envelope) r.deleted name)) key

  named_there : (name : TableName) (key : List ℕ) → DepositNames joined name key → Named name key
  named_there name key names = elim ((named_in one joined r.envelope h.rest h.deposit name key).0 names) [
    | inl c ↦ Contains-append_left (column 0 (deposit_rows r name)) (column 0 (rows_under (deletes_of r.envelope) r.deleted name)) key ((contained_is reader r.envelope h.rest h.files h.menu h.are r.tables h.tables name key).1 c)
    | inr d ↦ Contains-append_right (column 0 (deposit_rows r name)) (column 0 (rows_under (deletes_of r.envelope) r.deleted name)) key ((deleted_is reader r.envelope h.rest h.files h.menu h.are r.deleted h.deleted name key).1 d)
  ]

  named_back : (name : TableName) (key : List ℕ) → Named name key → DepositNames joined name key
  named_back name key has = (named_in one joined r.envelope h.rest h.deposit name key).1
      (elim (Contains-append_cases (column 0 (deposit_rows r name)) (column 0 (rows_under (deletes_of r.envelope) r.deleted name)) key has) [
        | inl c ↦ inl ((contained_is reader r.envelope h.rest h.files h.menu h.are r.tables h.tables name key).0 c)
        | inr d ↦ inr ((deleted_is reader r.envelope h.rest h.files h.menu h.are r.deleted h.deleted name key).0 d)
      ])

  renews_there : (name : TableName) (key : List ℕ) → DepositRenews joined name key → Contains (renewed_by r name) key
  renews_there name key (inl c) = Contains-append_left (column 0 (deposit_rows r name)) _ key ((contains name key).0 c)
  renews_there name key (inr n) = Contains-append_right (column 0 (deposit_rows r name)) _ key (named_there (owner_table name) key n)

  renews_back : (name : TableName) (key : List ℕ) → Contains (renewed_by r name) key → DepositRenews joined name key
  renews_back name key has = elim (Contains-append_cases (column 0 (deposit_rows r name)) (column 0 (deposit_rows r (owner_table name)) ++ column 0 (rows_under (deletes_of r.envelope) r.deleted (owner_table name))) key has) [
    | inl c ↦ inl ((contains name key).1 c)
    | inr n ↦ inr (named_back (owner_table name) key n)
  ]

  first_rows : HasRowsOf (joined ∷ []) (deposit_rows r)
  first_rows name row =
      let law = chain_rows.one joined name row in
      (λ has. law.1 ((has_row name row).1 has), λ of. (has_row name row).0 (law.0 of))

  later_rows : (chain : List (List ℕ)) (before : Tables) → HasRowsOf chain before → HasRowsOf (chain ++ joined ∷ []) (tables_after before r)
  later_rows chain before was name row = (there, back)
    where
      there : Contains (tables_after before r name) row → IsRowAfter (chain ++ joined ∷ []) name row
      there has = (chain_rows.more chain joined name row).1 (elim (Contains-append_cases (filter (is_kept (renewed_by r name)) (before name)) (deposit_rows r name) row has) [
        | inr now ↦ inl ((has_row name row).1 now)
        | inl old ↦
            let kept = kept_there (is_kept (renewed_by r name)) (before name) row old in
            inr ((was name row).0 kept.0, λ renews. kept_if (renewed_by r name) row kept.1 (renews_there name (owner_key row) renews))
      ])

      back : IsRowAfter (chain ++ joined ∷ []) name row → Contains (tables_after before r name) row
      back of = elim ((chain_rows.more chain joined name row).0 of) [
        | inl now ↦ Contains-append_right (filter (is_kept (renewed_by r name)) (before name)) (deposit_rows r name) row ((has_row name row).0 now)
        | inr old ↦ Contains-append_left (filter (is_kept (renewed_by r name)) (before name)) (deposit_rows r name) row
            (kept_back (is_kept (renewed_by r name)) (before name) row ((was name row).1 old.0) (if_kept (renewed_by r name) row (λ has. old.1 (renews_back name (owner_key row) has))))
      ]

pub tables_are : AreReaders → IsTableReader → OneReading → AreTablesAfter
tables_are readers reader one = record {
  first = λ joined r at. first_rows readers reader one joined r at;
  later = λ chain joined r before at was. later_rows readers reader one joined r at chain before was;
}
