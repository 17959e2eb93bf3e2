-- Whether an object is as before can be decided.
use Rattle.std.proofs.Common.{◌≡◌, ◌⊎◌, ◌==◌, ◌∷◌, ◌∙◌, [], ℕ, Bool, Contains, List, ap, arith, inl, inr, refl, suc, true, false, zero}
use Rattle.std.specs.Bool.{Decides}
use Rattle.std.specs.Set.{is_member}
use Rattle.std.specs.Str.{bytes_eq}
use Rattle.std.proofs.lemmas.Bool.Decides.{Decides-eqb}
use Rattle.std.proofs.lemmas.Map.Made.{is_member-Decides}
use Rattle.std.proofs.lemmas.Slice.Eq.{bytes_eq-Decides}
use Rattle.deposit_name.specs.declared.table.TableName.{TableName}
use Rattle.deposit_name.specs.declared.table.TableName.TheVariants.{Domain, DomainContacts, DomainStatuses, DomainNameServers, Host, HostAddresses, Contact, Registrar}
use Rattle.dnrd_csv.proofs.KeyLemmas.{same_key, same_key-Decides}
use Rattle.deposit_verify.specs.Places.{table_place}
use Rattle.deposit_verify.proofs.HeaderDecided.{same_place}
use Rattle.deposit_tables.specs.Owners.{owner_key, owner_table}
use Rattle.deposit_tables.specs.Unchanged.{HasSameRows, IsSame, IsUnchanged}

abbrev pub Rows : Type 0
Rows = List (List (List ℕ))

abbrev pub Tables : Type 0
Tables = TableName → Rows

pub decided : (P : Type 0) (b : Bool) → Decides b P → P ⊎ ¬ P
decided P true d = inl (d.0 refl)
decided P false d = inr (λ p. let clash : false ≡ true = d.1 p in cc clash)

-- ---- an element of a list

pub nothing : {X : Type 0} (x : X) → Contains {X = X} [] x → ⊥
nothing x has = absurd (omega (arith, has.1))

pub contains_cases : {X : Type 0} (x : X) (xs : List X) (q : X) → Contains (x ∷ xs) q → (x ≡ q) ⊎ Contains xs q
contains_cases x xs q (zero, inside, is) = inl is
contains_cases x xs q (suc k, inside, is) = inr (k, omega (arith, inside), is)

pub contains_here : {X : Type 0} (x : X) (xs : List X) → Contains (x ∷ xs) x
contains_here x xs = (zero, omega arith, refl)

pub contains_later : {X : Type 0} (x : X) (xs : List X) (q : X) → Contains xs q → Contains (x ∷ xs) q
contains_later x xs q h = let inside = h.1 in (suc h.0, omega (arith, inside), h.2)

pub has_row : (rows : Rows) (row : List (List ℕ)) → Contains rows row ⊎ ¬ Contains rows row
has_row rows row = decided (Contains rows row) (is_member same_key rows row) (is_member-Decides same_key-Decides rows row)

pub has_key : (keys : List (List ℕ)) (key : List ℕ) → Contains keys key ⊎ ¬ Contains keys key
has_key keys key = decided (Contains keys key) (is_member bytes_eq keys key) (is_member-Decides bytes_eq-Decides keys key)

-- ---- the rows of an object

-- each row of the object in one table is in another
abbrev AreIn : Rows → Rows → List ℕ → Type 0
AreIn old new key = (row : List (List ℕ)) → owner_key row ≡ key → Contains old row → Contains new row

deposit_rows : (old new : Rows) (key : List ℕ) → AreIn old new key ⊎ ¬ AreIn old new key
deposit_rows [] new key = inl (λ row same has. absurd (nothing row has))
deposit_rows (x ∷ xs) new key = elim (deposit_rows xs new key) [
  | inr out ↦ inr (λ all. out (λ row same has. all row same (contains_later x xs row has)))
  | inl rest ↦ elim (decided (owner_key x ≡ key) (bytes_eq (owner_key x) key) (bytes_eq-Decides (owner_key x) key)) [
    | inr other ↦ inl (λ row same has. elim (contains_cases x xs row has) [
      | inl is ↦ absurd (other (ap owner_key is ∙ same))
      | inr there ↦ rest row same there
    ])
    | inl mine ↦ elim (has_row new x) [
      | inr missing ↦ inr (λ all. missing (all x mine (contains_here x xs)))
      | inl there ↦ inl (λ row same has. elim (contains_cases x xs row has) [
        | inl is ↦ moved x row is there
        | inr later ↦ rest row same later
      ])
    ]
  ]
]
  where
    moved : (x row : List (List ℕ)) → x ≡ row → Contains new x → Contains new row
    moved x row is there = rw (← is) there

pub same_rows : (old new : Rows) (key : List ℕ) → HasSameRows old new key ⊎ ¬ HasSameRows old new key
same_rows old new key = elim (deposit_rows old new key) [
  | inr out ↦ inr (λ all. out (λ row same has. (all row same).0 has))
  | inl there ↦ elim (deposit_rows new old key) [
    | inr out ↦ inr (λ all. out (λ row same has. (all row same).1 has))
    | inl back ↦ inl (λ row same. (there row same, back row same))
  ]
]

-- ---- all tables

-- what holds of each of the eight tables
each_table : (P : TableName → Type 0) → P Domain → P DomainContacts → P DomainStatuses → P DomainNameServers → P Host → P HostAddresses → P Contact → P Registrar → (name : TableName) → P name
each_table P a b c d e f g h Domain = a
each_table P a b c d e f g h DomainContacts = b
each_table P a b c d e f g h DomainStatuses = c
each_table P a b c d e f g h DomainNameServers = d
each_table P a b c d e f g h Host = e
each_table P a b c d e f g h HostAddresses = f
each_table P a b c d e f g h Contact = g
each_table P a b c d e f g h Registrar = h

every_table : (P : TableName → Type 0) → ((name : TableName) → P name ⊎ ¬ P name) → ((name : TableName) → P name) ⊎ ¬ ((name : TableName) → P name)
every_table P is = elim (is Domain) [
  | inr none ↦ inr (λ all. none (all Domain))
  | inl a ↦ elim (is DomainContacts) [
    | inr none ↦ inr (λ all. none (all DomainContacts))
    | inl b ↦ elim (is DomainStatuses) [
      | inr none ↦ inr (λ all. none (all DomainStatuses))
      | inl c ↦ elim (is DomainNameServers) [
        | inr none ↦ inr (λ all. none (all DomainNameServers))
        | inl d ↦ elim (is Host) [
          | inr none ↦ inr (λ all. none (all Host))
          | inl e ↦ elim (is HostAddresses) [
            | inr none ↦ inr (λ all. none (all HostAddresses))
            | inl f ↦ elim (is Contact) [
              | inr none ↦ inr (λ all. none (all Contact))
              | inl g ↦ elim (is Registrar) [
                | inr none ↦ inr (λ all. none (all Registrar))
                | inl h ↦ inl (each_table P a b c d e f g h)
              ]
            ]
          ]
        ]
      ]
    ]
  ]
]

pub same_table : (one other : TableName) → (one ≡ other) ⊎ ¬ (one ≡ other)
same_table one other = elim (decided (table_place one ≡ table_place other) (table_place one == table_place other) (Decides-eqb (table_place one) (table_place other))) [
  | inl same ↦ inl (same_place one other same)
  | inr apart ↦ inr (λ same. apart (ap table_place same))
]

same_in : (old new : Tables) (owner : TableName) (key : List ℕ) (name : TableName) → (owner_table name ≡ owner → HasSameRows (old name) (new name) key) ⊎ ¬ (owner_table name ≡ owner → HasSameRows (old name) (new name) key)
same_in old new owner key name = elim (same_table (owner_table name) owner) [
  | inr other ↦ inl (λ is. absurd (other is))
  | inl is ↦ elim (same_rows (old name) (new name) key) [
    | inl same ↦ inl (λ _. same)
    | inr changed ↦ inr (λ all. changed (all is))
  ]
]

pub is_same : (old new : Tables) (owner : TableName) (key : List ℕ) → IsSame old new owner key ⊎ ¬ IsSame old new owner key
is_same old new owner key = every_table (λ name. owner_table name ≡ owner → HasSameRows (old name) (new name) key) (same_in old new owner key)

pub is_unchanged : (olds : List Tables) (new : Tables) (owner : TableName) (key : List ℕ) → IsUnchanged olds new owner key ⊎ ¬ IsUnchanged olds new owner key
is_unchanged [] new owner key = inl tt
is_unchanged (old ∷ olds) new owner key = elim (is_same old new owner key) [
  | inr changed ↦ inr (λ all. changed all.0)
  | inl same ↦ elim (is_unchanged olds new owner key) [
    | inr changed ↦ inr (λ all. changed all.1)
    | inl others ↦ inl (same, others)
  ]
]
