-- A deposit of what has changed brings a chain to the new tables.
use Rattle.std.proofs.Common.{◌≡◌, ◌↔◌, ◌⊎◌, ◌++◌, ◌∷◌, [], ℕ, Contains, IsTrue, List, inl, inr, refl, subst, sym}
use Rattle.deposit_name.specs.Tables.{has_deletes}
use Rattle.deposit_name.specs.declared.table.TableName.{TableName}
use Rattle.deposit_name.specs.declared.table.TableName.TheVariants.{Domain, DomainContacts, DomainStatuses, DomainNameServers, Host, HostAddresses, Contact, Registrar}
use Rattle.deposit_verify.specs.Chain.{DepositContains, DepositNames}
use Rattle.deposit_verify.specs.Deposit.{HasEnvelope}
use Rattle.deposit_verify.specs.Keys.{IsDeleted}
use Rattle.deposit_verify.specs.References.{column}
use Rattle.deposit_tables.specs.Owners.{owner_key, owner_table}
use Rattle.deposit_tables.specs.Restored.{DepositHasRow, DepositRenews, HasRowsOf, IsRowAfter}
use Rattle.deposit_tables.specs.Unchanged.{IsAmong, IsChangedRow, IsGoneKey, IsSame, IsUnchanged}
use Rattle.deposit_tables.proofs.ChainRows.{contained_key, contained_row, more_back, more_there, row_of_key}
use Rattle.deposit_tables.proofs.Decisions.{Tables, has_key, is_unchanged}

-- the deposit deletes the key
abbrev pub DepositDeletes : List ℕ → TableName → List ℕ → Type 0
DepositDeletes joined name key = HasEnvelope joined (λ v rest. IsDeleted v rest name key)

-- owners own themselves
pub owner_of_owner : (name : TableName) → owner_table (owner_table name) ≡ owner_table name
owner_of_owner Domain = refl
owner_of_owner DomainContacts = refl
owner_of_owner DomainStatuses = refl
owner_of_owner DomainNameServers = refl
owner_of_owner Host = refl
owner_of_owner HostAddresses = refl
owner_of_owner Contact = refl
owner_of_owner Registrar = refl

pub owner_keyed : (name : TableName) → IsTrue (has_deletes (owner_table name))
owner_keyed Domain = refl
owner_keyed DomainContacts = refl
owner_keyed DomainStatuses = refl
owner_keyed DomainNameServers = refl
owner_keyed Host = refl
owner_keyed HostAddresses = refl
owner_keyed Contact = refl
owner_keyed Registrar = refl

pub same_among : (olds : List Tables) (old new : Tables) (owner : TableName) (key : List ℕ) → IsAmong old olds → IsUnchanged olds new owner key → IsSame old new owner key
same_among [] old new owner key among all = absurd among
same_among (one ∷ olds) old new owner key (inl is) all = subst (λ (t : Tables). IsSame t new owner key) (sym is) all.0
same_among (one ∷ olds) old new owner key (inr later) all = same_among olds old new owner key later all.1

-- a deposit that has these rows and deletes these keys
pub record HasChanges (olds : List Tables) (new : Tables) (joined : List ℕ) : Type 0 where
  pub rows : (name : TableName) (row : List (List ℕ)) → DepositHasRow joined name row ↔ IsChangedRow olds new name row
  pub keys : (name : TableName) (key : List ℕ) → IsTrue (has_deletes name) → DepositDeletes joined name key ↔ IsGoneKey olds new name (key ∷ [])

module _ (olds : List Tables) (old new : Tables) (chain : List (List ℕ)) (joined : List ℕ) (was : HasRowsOf chain old) (among : IsAmong old olds) (is : HasChanges olds new joined) where
  -- a changed object is named
  named_if_changed : (name : TableName) (row : List (List ℕ)) → (¬ IsUnchanged olds new (owner_table name) (owner_key row)) → DepositNames joined (owner_table name) (owner_key row)
  named_if_changed name row changed = elim (has_key (column 0 (new (owner_table name))) (owner_key row)) [
    | inl there ↦
        let found = row_of_key (new (owner_table name)) (owner_key row) there in
        let moved : ¬ IsUnchanged olds new (owner_table (owner_table name)) (owner_key found.0) =
        subst (λ (t : TableName). ¬ IsUnchanged olds new t (owner_key found.0)) (sym (owner_of_owner name)) (subst (λ (k : List ℕ). ¬ IsUnchanged olds new (owner_table name) k) (sym found.2) changed) in
        let has = (is.rows (owner_table name) found.0).1 (found.1, moved) in
        let contained = subst (λ (k : List ℕ). DepositContains joined (owner_table name) k) found.2 (contained_key joined (owner_table name) found.0 has) in
        (contained.0, contained.1, contained.2, inl contained.3)
    | inr none ↦
        let deleted = (is.keys (owner_table name) (owner_key row) (owner_keyed name)).1 (owner_key row, refl, changed, none) in
        (deleted.0, deleted.1, deleted.2, inr deleted.3)
  ]

  -- an object that the deposit contains in a table is changed
  changed_if_contained : (name : TableName) (key : List ℕ) → DepositContains joined name key → ¬ IsUnchanged olds new (owner_table name) key
  changed_if_contained name key contains =
      let found = contained_row joined name key contains in
      subst (λ (k : List ℕ). ¬ IsUnchanged olds new (owner_table name) k) found.2 ((is.rows name found.0).0 found.1).1

  changed_if_named : (name : TableName) (key : List ℕ) → DepositNames joined (owner_table name) key → ¬ IsUnchanged olds new (owner_table name) key
  changed_if_named name key (v, rest, deposit, inl contains) =
      subst (λ (t : TableName). ¬ IsUnchanged olds new t key) (owner_of_owner name) (changed_if_contained (owner_table name) key (v, rest, deposit, contains))
  changed_if_named name key (v, rest, deposit, inr deletes) =
      let gone = (is.keys (owner_table name) key (owner_keyed name)).0 (v, rest, deposit, deletes) in
      let same : key ≡ gone.0 = cc gone.1 in
      subst (λ (k : List ℕ). ¬ IsUnchanged olds new (owner_table name) k) (sym same) gone.2

  changed_if_renewed : (name : TableName) (key : List ℕ) → DepositRenews joined name key → ¬ IsUnchanged olds new (owner_table name) key
  changed_if_renewed name key (inl contains) = changed_if_contained name key contains
  changed_if_renewed name key (inr named) = changed_if_named name key named

  brought_there : (name : TableName) (row : List (List ℕ)) → IsRowAfter (chain ++ joined ∷ []) name row → Contains (new name) row
  brought_there name row of = elim (more_there (λ d. DepositHasRow d name row) (λ d. DepositRenews d name (owner_key row)) chain joined of) [
    | inl has ↦ ((is.rows name row).0 has).0
    | inr h ↦ elim (is_unchanged olds new (owner_table name) (owner_key row)) [
      | inl same ↦ (same_among olds old new (owner_table name) (owner_key row) among same name refl row refl).0 ((was name row).1 h.0)
      | inr changed ↦ absurd (h.1 (inr (named_if_changed name row changed)))
    ]
  ]

  brought_back : (name : TableName) (row : List (List ℕ)) → Contains (new name) row → IsRowAfter (chain ++ joined ∷ []) name row
  brought_back name row has = more_back (λ d. DepositHasRow d name row) (λ d. DepositRenews d name (owner_key row)) chain joined (by (is_unchanged olds new (owner_table name) (owner_key row)))
    where
      by : IsUnchanged olds new (owner_table name) (owner_key row) ⊎ ¬ IsUnchanged olds new (owner_table name) (owner_key row)
          → DepositHasRow joined name row ⊎ (IsRowAfter chain name row × ¬ DepositRenews joined name (owner_key row))
      by (inr changed) = inl ((is.rows name row).1 (has, changed))
      by (inl same) = inr (
        (was name row).0 ((same_among olds old new (owner_table name) (owner_key row) among same name refl row refl).1 has),
        λ renews. changed_if_renewed name (owner_key row) renews same,
      )

  pub brought : HasRowsOf (chain ++ joined ∷ []) new
  brought name row = (brought_back name row, brought_there name row)
