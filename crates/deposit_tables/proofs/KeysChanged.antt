-- The keys of objects that are not the same as before, found row by row, table by table.
use Rattle.std.proofs.Common.{◌≡◌, ◌↔◌, ◌⊎◌, ◌≤◌, ◌<◌, ◌+◌, ◌++◌, ◌∷◌, ◌∙◌, [], ℕ, Contains, List, ap, arith, get_or, inl, inr, length, refl, subst, sym, take}
use Rattle.std.specs.Str.{bytes_eq}
use Rattle.std.proofs.lemmas.List.{take_all, take_more}
use Rattle.std.proofs.lemmas.List.Elements.{Contains-append_cases, Contains-append_left, Contains-append_right}
use Rattle.std.proofs.lemmas.Slice.Eq.{bytes_eq-Decides}
use Rattle.deposit_name.specs.declared.table.TableName.{TableName}
use Rattle.deposit_verify.specs.Places.{table_place}
use Rattle.deposit_verify.proofs.HeaderDecided.{same_place}
use Rattle.deposit_tables.specs.Owners.{owner_key, owner_table}
use Rattle.deposit_tables.specs.Unchanged.{HasSameRows, IsSame, IsUnchanged}
use Rattle.deposit_tables.specs.inside.Changing.{AreAdded, HasOwnRow}
use Rattle.deposit_tables.proofs.Decisions.{Rows, Tables, contains_cases, contains_here, contains_later, decided, has_row, is_same, nothing, same_rows}
use Rattle.deposit_tables.proofs.TablesThen.{place_below}

-- ---- keys that are added

pub added_none : (keys : List (List ℕ)) (P : List ℕ → Type 0) → ((key : List ℕ) → ¬ P key) → AreAdded keys keys P
added_none keys P none key = (
  λ has. inl has,
  λ either. elim either [
    | inl has ↦ has
    | inr p ↦ absurd (none key p)
  ],
)

-- where the same is added
pub added_same : (before after : List (List ℕ)) (P Q : List ℕ → Type 0) → AreAdded before after P → ((key : List ℕ) → P key ↔ Q key) → AreAdded before after Q
added_same before after P Q added same key = (
  λ has. elim ((added key).0 has) [
    | inl was ↦ inl was
    | inr p ↦ inr ((same key).0 p)
  ],
  λ either. elim either [
    | inl was ↦ (added key).1 (inl was)
    | inr q ↦ (added key).1 (inr ((same key).1 q))
  ],
)

-- one after the other
pub added_twice : (before middle after : List (List ℕ)) (P Q : List ℕ → Type 0) → AreAdded before middle P → AreAdded middle after Q → AreAdded before after (λ key. P key ⊎ Q key)
added_twice before middle after P Q first then key = (
  λ has. elim ((then key).0 has) [
    | inr q ↦ inr (inr q)
    | inl was ↦ elim ((first key).0 was) [
      | inl there ↦ inl there
      | inr p ↦ inr (inl p)
    ]
  ],
  λ either. elim either [
    | inl was ↦ (then key).1 (inl ((first key).1 (inl was)))
    | inr more ↦ elim more [
      | inl p ↦ (then key).1 (inl ((first key).1 (inr p)))
      | inr q ↦ (then key).1 (inr q)
    ]
  ],
)

pub last_of : {X : Type 0} (xs : List X) (x q : X) → Contains (xs ++ x ∷ []) q → Contains xs q ⊎ (x ≡ q)
last_of xs x q has = elim (Contains-append_cases xs (x ∷ []) q has) [
  | inl before ↦ inl before
  | inr now ↦ elim (contains_cases x [] q now) [
    | inl is ↦ inr is
    | inr none ↦ absurd (nothing q none)
  ]
]

-- one key is added
pub added_one : (keys : List (List ℕ)) (key : List ℕ) → AreAdded keys (keys ++ key ∷ []) (λ other. key ≡ other)
added_one keys key other = (
  λ has. last_of keys key other has,
  λ either. elim either [
    | inl was ↦ Contains-append_left keys (key ∷ []) other was
    | inr is ↦ subst (Contains (keys ++ key ∷ [])) is (Contains-append_right keys (key ∷ []) key (contains_here key []))
  ],
)

-- ---- row by row

module _ (one other : Rows) where
  own_none : (key : List ℕ) → ¬ HasOwnRow (take 0 one) other key
  own_none key h = nothing h.0 h.1

  pub no_rows_added : (keys : List (List ℕ)) → AreAdded keys keys (HasOwnRow (take 0 one) other)
  no_rows_added keys = added_none keys (HasOwnRow (take 0 one) other) own_none

  module _ (row : ℕ) (inside : row < length one) where
    abbrev next : List (List ℕ)
    next = get_or one row []

    taken : take (row + 1) one ≡ take row one ++ next ∷ []
    taken = take_more one row [] inside

    own_later : (key : List ℕ) → HasOwnRow (take row one) other key → HasOwnRow (take (row + 1) one) other key
    own_later key h = (h.0, subst (λ (rows : Rows). Contains rows h.0) (sym taken) (Contains-append_left (take row one) (next ∷ []) h.0 h.1), h.2, h.3)

    own_cases : (key : List ℕ) → HasOwnRow (take (row + 1) one) other key → HasOwnRow (take row one) other key ⊎ ((¬ Contains other next) × (owner_key next ≡ key))
    own_cases key h = elim (last_of (take row one) next h.0 (subst (λ (rows : Rows). Contains rows h.0) taken h.1)) [
      | inl before ↦ inl (h.0, before, h.2, h.3)
      | inr is ↦ inr (subst (λ (r : List (List ℕ)). ¬ Contains other r) (sym is) h.2, ap owner_key is ∙ h.3)
    ]

    own_now : ¬ Contains other next → HasOwnRow (take (row + 1) one) other (owner_key next)
    own_now none = (next, subst (λ (rows : Rows). Contains rows next) (sym taken) (Contains-append_right (take row one) (next ∷ []) next (contains_here next [])), none, refl)

    -- a row that the other has adds nothing
    pub row_passed : (before keys : List (List ℕ)) → Contains other next → AreAdded before keys (HasOwnRow (take row one) other) → AreAdded before keys (HasOwnRow (take (row + 1) one) other)
    row_passed before keys has added = added_same before keys (HasOwnRow (take row one) other) (HasOwnRow (take (row + 1) one) other) added (λ key. (
      own_later key,
      λ h. elim (own_cases key h) [
        | inl was ↦ was
        | inr now ↦ absurd (now.0 has)
      ],
    ))

    -- and one that it has not adds its object's key
    pub row_added : (before keys next_keys : List (List ℕ)) → ¬ Contains other next → next_keys ≡ keys ++ owner_key next ∷ [] → AreAdded before keys (HasOwnRow (take row one) other)
        → AreAdded before next_keys (HasOwnRow (take (row + 1) one) other)
    row_added before keys next_keys none is added =
        subst (λ (ks : List (List ℕ)). AreAdded before ks (HasOwnRow (take (row + 1) one) other)) (sym is)
        (added_same before (keys ++ owner_key next ∷ []) (λ key. HasOwnRow (take row one) other key ⊎ (owner_key next ≡ key)) (HasOwnRow (take (row + 1) one) other)
        (added_twice before keys (keys ++ owner_key next ∷ []) (HasOwnRow (take row one) other) (λ key. owner_key next ≡ key) added (added_one keys (owner_key next)))
        (λ key. (
          λ either. elim either [
            | inl was ↦ own_later key was
            | inr now ↦ subst (HasOwnRow (take (row + 1) one) other) now (own_now none)
          ],
          λ h. elim (own_cases key h) [
            | inl was ↦ inl was
            | inr now ↦ inr now.1
          ],
        )))

  pub all_rows : (row : ℕ) (before keys : List (List ℕ)) → length one ≤ row → AreAdded before keys (HasOwnRow (take row one) other) → AreAdded before keys (HasOwnRow one other)
  all_rows row before keys over added = subst (λ (rows : Rows). AreAdded before keys (HasOwnRow rows other)) (take_all row one over) added

-- ---- of one table

-- an object has a row of its own in one table, or each of its rows is in the other
own_row : (one other : Rows) (key : List ℕ) → HasOwnRow one other key ⊎ ((row : List (List ℕ)) → owner_key row ≡ key → Contains one row → Contains other row)
own_row [] other key = inr (λ row same has. absurd (nothing row has))
own_row (x ∷ xs) other key = elim (own_row xs other key) [
  | inl h ↦ inl (h.0, contains_later x xs h.0 h.1, h.2, h.3)
  | inr rest ↦ elim (decided (owner_key x ≡ key) (bytes_eq (owner_key x) key) (bytes_eq-Decides (owner_key x) key)) [
    | inr apart ↦ inr (λ row same has. elim (contains_cases x xs row has) [
      | inl is ↦ absurd (apart (ap owner_key is ∙ same))
      | inr there ↦ rest row same there
    ])
    | inl mine ↦ elim (has_row other x) [
      | inr missing ↦ inl (x, contains_here x xs, missing, mine)
      | inl there ↦ inr (λ row same has. elim (contains_cases x xs row has) [
        | inl is ↦ subst (Contains other) is there
        | inr later ↦ rest row same later
      ])
    ]
  ]
]

pub differ : (old new : Rows) (key : List ℕ) → (HasOwnRow old new key ⊎ HasOwnRow new old key) ↔ ¬ HasSameRows old new key
differ old new key = (
  λ either all. elim either [
    | inl h ↦ h.2 ((all h.0 h.3).0 h.1)
    | inr h ↦ h.2 ((all h.0 h.3).1 h.1)
  ],
  λ changed. elim (own_row old new key) [
    | inl h ↦ inl h
    | inr there ↦ elim (own_row new old key) [
      | inl h ↦ inr h
      | inr back ↦ absurd (changed (λ row same. (there row same, back row same)))
    ]
  ],
)

-- ---- table by table

-- an object is the same in the tables before a place
abbrev pub IsSameBelow : Tables → Tables → TableName → ℕ → List ℕ → Type 0
IsSameBelow old new owner place key = (name : TableName) → table_place name < place → owner_table name ≡ owner → HasSameRows (old name) (new name) key

tell : (m n : ℕ) → (m < n) ⊎ ((m ≡ n) ⊎ (n < m))
tell m n = grind arith

module _ (old new : Tables) (owner : TableName) where
  pub no_tables_added : (keys : List (List ℕ)) → AreAdded keys keys (λ key. ¬ IsSameBelow old new owner 0 key)
  no_tables_added keys = added_none keys (λ key. ¬ IsSameBelow old new owner 0 key) (λ key changed. changed (λ name below. absurd (omega (arith, below))))

  module _ (place : ℕ) (name : TableName) (here : table_place name ≡ place) where
    -- up to this table it is the same if it is so before and in it
    same_next : (key : List ℕ) → IsSameBelow old new owner place key → (owner_table name ≡ owner → HasSameRows (old name) (new name) key) → IsSameBelow old new owner (place + 1) key
    same_next key before now other below = by (tell (table_place other) place)
      where
        by : (table_place other < place) ⊎ ((table_place other ≡ place) ⊎ (place < table_place other)) → owner_table other ≡ owner → HasSameRows (old other) (new other) key
        by (inl earlier) = before other earlier
        by (inr (inl same)) = subst (λ (n : TableName). owner_table n ≡ owner → HasSameRows (old n) (new n) key) (same_place name other (here ∙ sym same)) now
        by (inr (inr above)) = absurd (omega (arith, above, below))

    same_before : (key : List ℕ) → IsSameBelow old new owner (place + 1) key → IsSameBelow old new owner place key
    same_before key all other below = all other (omega (arith, below))

    -- a table of other objects adds nothing
    pub table_passed : (before keys : List (List ℕ)) → (owner_table name ≡ owner → ⊥) → AreAdded before keys (λ key. ¬ IsSameBelow old new owner place key)
        → AreAdded before keys (λ key. ¬ IsSameBelow old new owner (place + 1) key)
    table_passed before keys other added = added_same before keys (λ key. ¬ IsSameBelow old new owner place key) (λ key. ¬ IsSameBelow old new owner (place + 1) key) added (λ key. (
      λ changed all. changed (same_before key all),
      λ changed all. changed (same_next key all (λ is. absurd (other is))),
    ))

    -- and one of its own those that have not the same rows in it
    pub table_added : (before keys next : List (List ℕ)) → owner_table name ≡ owner → AreAdded before keys (λ key. ¬ IsSameBelow old new owner place key)
        → AreAdded keys next (λ key. ¬ HasSameRows (old name) (new name) key) → AreAdded before next (λ key. ¬ IsSameBelow old new owner (place + 1) key)
    table_added before keys next own added more =
        added_same before next (λ key. (¬ IsSameBelow old new owner place key) ⊎ (¬ HasSameRows (old name) (new name) key)) (λ key. ¬ IsSameBelow old new owner (place + 1) key)
        (added_twice before keys next (λ key. ¬ IsSameBelow old new owner place key) (λ key. ¬ HasSameRows (old name) (new name) key) added more)
        (λ key. (
          λ either all. elim either [
            | inl changed ↦ changed (same_before key all)
            | inr changed ↦ changed (all name (omega (arith, here)) own)
          ],
          λ changed. elim (same_rows (old name) (new name) key) [
            | inr apart ↦ inr apart
            | inl same ↦ inl (λ all. changed (same_next key all (λ _. same)))
          ],
        ))

  pub all_tables_added : (place : ℕ) (before keys : List (List ℕ)) → 8 ≤ place → AreAdded before keys (λ key. ¬ IsSameBelow old new owner place key)
      → AreAdded before keys (λ key. ¬ IsSame old new owner key)
  all_tables_added place before keys over added = added_same before keys (λ key. ¬ IsSameBelow old new owner place key) (λ key. ¬ IsSame old new owner key) added (λ key. (
    λ changed all. changed (λ name below. all name),
    λ changed all. changed (λ name. let below = place_below name in all name (omega (arith, below, over))),
  ))

-- ---- since each of some tables

-- these are the keys of the objects that are not the same as in each of some tables
abbrev pub AreChangedSince : List Tables → Tables → TableName → List (List ℕ) → Type 0
AreChangedSince olds new owner keys = (key : List ℕ) → Contains keys key ↔ ¬ IsUnchanged olds new owner key

unchanged_more : (olds : List Tables) (old new : Tables) (owner : TableName) (key : List ℕ) → IsUnchanged (olds ++ old ∷ []) new owner key ↔ (IsUnchanged olds new owner key × IsSame old new owner key)
unchanged_more [] old new owner key = (λ all. (tt, all.0), λ both. (both.1, tt))
unchanged_more (x ∷ xs) old new owner key =
    let rest = unchanged_more xs old new owner key in (
      λ all. let r = rest.0 all.1 in ((all.0, r.0), r.1),
      λ both. (both.0.0, rest.1 (both.0.1, both.1)),
    )

pub none_changed : (new : Tables) (owner : TableName) (keys : List (List ℕ)) → keys ≡ [] → AreChangedSince [] new owner keys
none_changed new owner keys none key = (
  λ has. absurd (nothing key (subst (λ (ks : List (List ℕ)). Contains ks key) none has)),
  λ changed. absurd (changed tt),
)

pub since_more : (olds : List Tables) (old new : Tables) (owner : TableName) (keys next : List (List ℕ)) → AreChangedSince olds new owner keys → AreAdded keys next (λ key. ¬ IsSame old new owner key)
    → AreChangedSince (olds ++ old ∷ []) new owner next
since_more olds old new owner keys next are added key =
    let both = unchanged_more olds old new owner key in (
      λ has all. elim ((added key).0 has) [
        | inl was ↦ (are key).0 was (both.0 all).0
        | inr changed ↦ changed (both.0 all).1
      ],
      λ changed. elim (is_same old new owner key) [
        | inr apart ↦ (added key).1 (inr apart)
        | inl same ↦ (added key).1 (inl ((are key).1 (λ all. changed (both.1 (all, same)))))
      ],
    )
