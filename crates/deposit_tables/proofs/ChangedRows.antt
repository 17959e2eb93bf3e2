-- The rows and keys of objects that are not the same as before.
use Rattle.std.proofs.Common.{◌≡◌, ◌↔◌, ◌<◌, ◌≤◌, ◌+◌, ◌++◌, ◌∷◌, ◌∙◌, [], ℕ, All, Bool, Bor, Contains, Err, IsTrue, List, Ok, Ordering, Result, ap, arith, cond, filter, get_or, length, not, refl, subst, sym, take, true, false}
use Rattle.std.specs.Bool.{Decides}
use Rattle.std.specs.Cmp.Lexicographic.{slice_cmp}
use Rattle.std.specs.List.Sorted.{IsSorted}
use Rattle.std.specs.Ordering.{is_lt, nat_cmp, ordering_reverse, ordering_then}
use Rattle.std.specs.Result.{IfOk}
use Rattle.std.specs.Set.{is_member}
use Rattle.std.specs.Str.{bytes_eq}
use Rattle.std.specs.declared.cmp.Ordering.TheVariants.{Equal, Less}
use Rattle.std.proofs.lemmas.Bool.Decides.{same_from_decides}
use Rattle.std.proofs.lemmas.Cmp.{nat_list_cmp_total}
use Rattle.std.proofs.lemmas.List.{get_or-map, length-map}
use Rattle.std.proofs.lemmas.List.Elements.{All-filter, Contains-get_or, filter_more}
use Rattle.std.proofs.lemmas.List.Kept.{AllPairs-filter}
use Rattle.deposit_name.specs.Tables.{has_deletes}
use Rattle.deposit_name.specs.declared.table.TableName.{TableName}
use Rattle.deposit_name.specs.declared.table.TableName.TheVariants.{Domain, DomainContacts, DomainStatuses, DomainNameServers, Host, HostAddresses, Contact, Registrar}
use Rattle.dnrd_csv.specs.Table.{HaveWidth}
use Rattle.dnrd_csv.specs.Text.{key_rows}
use Rattle.dnrd_csv.specs.inside.RowKeys.{borrowed_texts}
use Rattle.dnrd_csv.proofs.RowLemmas.{flat}
use Rattle.deposit_verify.specs.References.{column}
use Rattle.deposit_verify.specs.inside.SortedKeys.{borrowed_text_cmp}
use Rattle.deposit_verify.proofs.KeyCounts.{member_decides}
use Rattle.deposit_tables.specs.Owners.{owner_key, owner_table}
use Rattle.deposit_tables.specs.Restored.{AreRows, RowsAscend}
use Rattle.deposit_tables.specs.Unchanged.{IsChangedRow, IsGoneKey, IsUnchanged}
use Rattle.deposit_tables.specs.declared.changed_keys.ChangedKeys.{ChangedKeys}
use Rattle.deposit_tables.specs.inside.Changing.{AreChangedKeys, KeysAscend, changed_keys_of, is_owned_by, is_gone}
use Rattle.deposit_tables.proofs.Brought.{owner_keyed}
use Rattle.deposit_tables.proofs.Computed.{if_kept, kept_back, kept_if, kept_there}
use Rattle.deposit_tables.proofs.Decisions.{Rows, Tables}
use Rattle.deposit_tables.proofs.RowsKept.{kept_more}

-- ---- keys in order

-- keys that ascend are in order
pub keys_sorted : (keys : List (Bor (List ℕ))) → KeysAscend (borrowed_texts keys) → IsSorted borrowed_text_cmp keys
keys_sorted keys up k d low inside =
    let placed : k + 1 < length (borrowed_texts keys) = omega (arith, length-map keys (λ (key : Bor (List ℕ)). key.now), inside) in
    let one : get_or (borrowed_texts keys) k [] ≡ (get_or keys k d).now = get_or-map (λ key. key.now) keys k d [] (omega (arith, inside)) in
    let other : get_or (borrowed_texts keys) (k + 1) [] ≡ (get_or keys (k + 1) d).now = get_or-map (λ key. key.now) keys (k + 1) d [] inside in
    let less : slice_cmp nat_cmp (get_or keys k d).now (get_or keys (k + 1) d).now ≡ Less = (λ i. slice_cmp nat_cmp (sym one i) (sym other i)) ∙ up k (k + 1) [] (omega arith) placed in
    ap is_lt (nat_list_cmp_total.antisymm (get_or keys (k + 1) d).now (get_or keys k d).now ∙ ap ordering_reverse less)

-- as rows of one field they ascend too
key_rows_ascend : (keys : List (List ℕ)) → KeysAscend keys → RowsAscend (key_rows keys)
key_rows_ascend keys up i j d below inside =
    let placed : j < length keys = omega (arith, length-map keys (λ (key : List ℕ). key ∷ []), inside) in
    let one : get_or (key_rows keys) i d ≡ get_or keys i [] ∷ [] = get_or-map (λ key. key ∷ []) keys i [] d (omega (arith, below, placed)) in
    let other : get_or (key_rows keys) j d ≡ get_or keys j [] ∷ [] = get_or-map (λ key. key ∷ []) keys j [] d placed in
    rw (one, other) (ap (λ (o : Ordering). ordering_then o Equal) (up i j [] below placed))

-- ---- the rows of some objects

-- one row more of these objects, or not
pub among_more : (keys : List (List ℕ)) (rows : Rows) (i : ℕ) (found : Bool) (before now next : List (List ℕ)) → i < length rows → Decides found (Contains keys (owner_key (get_or rows i [])))
    → now ≡ before ++ flat (filter (is_owned_by keys) (take i rows)) → next ≡ now ++ cond found (get_or rows i []) [] → next ≡ before ++ flat (filter (is_owned_by keys) (take (i + 1) rows))
among_more keys rows i found before now next inside decides was is =
    let row = get_or rows i [] in
    let same : found ≡ is_owned_by keys row = same_from_decides _ _ decides (member_decides keys (owner_key row)) in
    kept_more (is_owned_by keys) rows i before now next inside was (is ∙ ap (λ (b : Bool). now ++ cond b row []) same)

pub among_wide : (width : ℕ) (keys : List (List ℕ)) (rows : Rows) → HaveWidth width rows → HaveWidth width (filter (is_owned_by keys) rows)
among_wide width keys rows wide = All-filter (is_owned_by keys) (λ (row : List (List ℕ)). length row ≡ width) rows wide

-- in ascending order they are the rows of these objects
among_rows : (keys : List (List ℕ)) (rows kept sorted : Rows) → kept ≡ filter (is_owned_by keys) rows → RowsAscend sorted → ((row : List (List ℕ)) → Contains sorted row ↔ Contains kept row)
    → AreRows (λ row. Contains rows row × Contains keys (owner_key row)) sorted
among_rows keys rows kept sorted is up same = record {
  ascend = up;
  same = λ row. (
    λ has.
        let there = kept_there (is_owned_by keys) rows row (subst (λ (t : Rows). Contains t row) is ((same row).0 has)) in
        (there.0, (member_decides keys (owner_key row)).0 there.1),
    λ h. (same row).1 (subst (λ (t : Rows). Contains t row) (sym is) (kept_back (is_owned_by keys) rows row h.0 ((member_decides keys (owner_key row)).1 h.1))),
  );
}

pub among_sorted : {E : Type 0} (keys : List (List ℕ)) (rows kept : Rows) (sorted : Result Rows E) → kept ≡ filter (is_owned_by keys) rows → IfOk sorted RowsAscend
    → IfOk sorted (λ found. (row : List (List ℕ)) → Contains found row ↔ Contains kept row) → IfOk sorted (AreRows (λ row. Contains rows row × Contains keys (owner_key row)))
among_sorted keys rows kept (Ok found) is up same = among_rows keys rows kept found is up same
among_sorted keys rows kept (Err e) is up same = tt

-- ---- the keys that are gone

pub some_wide : (width : ℕ) (rows : Rows) → 2 ≤ width → HaveWidth width rows → All (λ row. 0 < length row) rows
some_wide width rows two wide k d inside = omega (arith, wide k d inside, two)

-- one key more that is gone, or not
pub gone_more : (own sorted texts : List (List ℕ)) (i : ℕ) (key : List ℕ) (found : Bool) (now next : List (List ℕ)) → i < length texts → get_or texts i [] ≡ key → Decides found (Contains sorted key)
    → ((text : List ℕ) → Contains sorted text ↔ Contains own text) → now ≡ filter (is_gone own) (take i texts) → next ≡ now ++ cond found [] (key ∷ [])
    → next ≡ filter (is_gone own) (take (i + 1) texts)
gone_more own sorted texts i key found now next inside at decides same was is =
    let told : found ≡ is_member bytes_eq own key = same_from_decides _ _ (λ e. (same key).0 (decides.0 e), λ has. decides.1 ((same key).1 has)) (member_decides own key) in
    is ∙ ap (λ (b : Bool). now ++ cond b [] (key ∷ [])) told ∙ ap (λ (ts : List (List ℕ)). now ++ ts) (turned (is_member bytes_eq own key))
    ∙ (λ j. was j ++ cond (is_gone own (sym at j)) (sym at j ∷ []) []) ∙ sym (filter_more (is_gone own) texts i [] inside)
  where
    turned : (b : Bool) → cond b [] (key ∷ []) ≡ cond (not b) (key ∷ []) []
    turned true = refl
    turned false = refl

-- ---- all that has changed

module _ (olds : List Tables) (new : Tables) (c : ChangedKeys) (are : AreChangedKeys olds new c) where
  of_owner : (name : TableName) → changed_keys_of c (owner_table name) ≡ changed_keys_of c name
  of_owner Domain = refl
  of_owner DomainContacts = refl
  of_owner DomainStatuses = refl
  of_owner DomainNameServers = refl
  of_owner Host = refl
  of_owner HostAddresses = refl
  of_owner Contact = refl
  of_owner Registrar = refl

  changed_key : (name : TableName) (key : List ℕ) → Contains (changed_keys_of c name) key ↔ ¬ IsUnchanged olds new (owner_table name) key
  changed_key name key = subst (λ (keys : List (List ℕ)). Contains keys key ↔ ¬ IsUnchanged olds new (owner_table name) key) (of_owner name) (are.same (owner_table name) (owner_keyed name) key)

  pub changed_rows : (name : TableName) (rows : Rows) → AreRows (λ row. Contains (new name) row × Contains (changed_keys_of c name) (owner_key row)) rows → AreRows (IsChangedRow olds new name) rows
  changed_rows name rows is = record {
    ascend = is.ascend;
    same = λ row. (
      λ has. let there = (is.same row).0 has in (there.0, (changed_key name (owner_key row)).0 there.1),
      λ h. (is.same row).1 (h.0, (changed_key name (owner_key row)).1 h.1),
    );
  }

  module _ (name : TableName) (keyed : IsTrue (has_deletes name)) where
    abbrev gone : List (List ℕ)
    gone = filter (is_gone (column 0 (new name))) (changed_keys_of c name)

    gone_there : (row : List (List ℕ)) → Contains (key_rows gone) row → IsGoneKey olds new name row
    gone_there row has =
        let inside : has.0 < length gone = omega (arith, length-map gone (λ (key : List ℕ). key ∷ []), has.1) in
        let key = get_or gone has.0 [] in
        let kept = kept_there (is_gone (column 0 (new name))) (changed_keys_of c name) key (Contains-get_or gone has.0 [] inside) in
        (key, sym has.2 ∙ get_or-map (λ k. k ∷ []) gone has.0 [] row inside, (are.same name keyed key).0 kept.0, kept_if (column 0 (new name)) (key ∷ []) kept.1)

    gone_back : (row : List (List ℕ)) → IsGoneKey olds new name row → Contains (key_rows gone) row
    gone_back row h =
        let key = h.0 in
        let has = kept_back (is_gone (column 0 (new name))) (changed_keys_of c name) key ((are.same name keyed key).1 h.2) (if_kept (column 0 (new name)) (key ∷ []) h.3) in
        let inside : has.0 < length (key_rows gone) = omega (arith, length-map gone (λ (k : List ℕ). k ∷ []), has.1) in
        (has.0, inside, get_or-map (λ k. k ∷ []) gone has.0 key row has.1 ∙ ap (λ (k : List ℕ). k ∷ []) has.2 ∙ sym h.1)

    pub gone_rows : (keys : List (List ℕ)) → keys ≡ filter (is_gone (column 0 (new name))) (changed_keys_of c name) → AreRows (IsGoneKey olds new name) (key_rows keys)
    gone_rows keys is = subst (λ (ks : List (List ℕ)). AreRows (IsGoneKey olds new name) (key_rows ks)) (sym is) (record {
      ascend = key_rows_ascend gone (AllPairs-filter (λ one other. slice_cmp nat_cmp one other ≡ Less) (is_gone (column 0 (new name))) (changed_keys_of c name) (are.ascend name));
      same = λ row. (gone_there row, gone_back row);
    })
