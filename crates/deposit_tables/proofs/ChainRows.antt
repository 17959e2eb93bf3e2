-- The rows of a chain, one deposit after the other.
use Rattle.std.proofs.Common.{◌≡◌, ◌⊎◌, ◌<◌, ◌++◌, ◌∷◌, ◌∙◌, [], ℕ, All, Contains, IsTrue, List, ap, append_assoc, arith, get_or, inl, inr, length, refl, subst, sym}
use Rattle.std.proofs.lemmas.List.{get_or-map, length-map}
use Rattle.std.proofs.lemmas.List.Elements.{All-nil, All-push, All-weaker, Contains-get_or}
use Rattle.deposit_name.specs.Tables.{has_deletes}
use Rattle.deposit_name.specs.declared.table.TableName.{TableName}
use Rattle.deposit_name.specs.declared.table.TableName.TheVariants.{Domain, DomainContacts, DomainStatuses, DomainNameServers, Host, HostAddresses, Contact, Registrar}
use Rattle.envelope.specs.declared.envelope.FileEntry.{FileEntry}
use Rattle.deposit_verify.specs.Chain.{DepositContains, DepositNames, IsKeyOf}
use Rattle.deposit_verify.specs.Deposit.{IsTableOf}
use Rattle.deposit_verify.specs.Keys.{AnyZip, HasKey}
use Rattle.deposit_verify.specs.References.{column}
use Rattle.deposit_verify.proofs.ChainLemmas.{all_front, all_last}
use Rattle.deposit_tables.specs.Owners.{owner_key, owner_table}
use Rattle.deposit_tables.specs.Restored.{AreChainRows, DepositHasRow, DepositRenews, HasRow, IsRowAfter}

not_empty : (xs : List (List ℕ)) (y : List ℕ) (ys : List (List ℕ)) → [] ≡ xs ++ y ∷ ys → ⊥
not_empty [] y ys e = cc e
not_empty (x ∷ xs) y ys e = cc e

-- a place in a chain with one deposit more: it is the last one, or a place in the chain
ends : (chain before after : List (List ℕ)) (joined last : List ℕ) → chain ++ joined ∷ [] ≡ before ++ last ∷ after
    → ((last ≡ joined) × (after ≡ [])) ⊎ ((more : List (List ℕ)) × (chain ≡ before ++ last ∷ more) × (after ≡ more ++ joined ∷ []))
ends [] [] after joined last e =
    let head : joined ≡ last = cc e in
    let tail : [] ≡ after = cc e in
    inl (sym head, sym tail)
ends [] (b ∷ bs) after joined last e = let tail : [] ≡ bs ++ last ∷ after = cc e in absurd (not_empty bs last after tail)
ends (c ∷ cs) [] after joined last e =
    let head : c ≡ last = cc e in
    let tail : cs ++ joined ∷ [] ≡ after = cc e in
    inr (cs, ap (λ (x : List ℕ). x ∷ cs) head, sym tail)
ends (c ∷ cs) (b ∷ bs) after joined last e =
    let head : c ≡ b = cc e in
    let tail : cs ++ joined ∷ [] ≡ bs ++ last ∷ after = cc e in
    elim (ends cs bs after joined last tail) [
      | inl h ↦ inl h
      | inr h ↦ inr (h.0, ap (λ (x : List ℕ). x ∷ cs) head ∙ ap (λ (xs : List (List ℕ)). b ∷ xs) h.1, h.2)
    ]

-- ---- the last deposit that says something

-- some deposit of the chain has it, and none after that one renews it
abbrev pub IsLast : (List ℕ → Type 0) → (List ℕ → Type 0) → List (List ℕ) → Type 0
IsLast Has Renews chain =
    (before : List (List ℕ)) × (last : List ℕ) × (after : List (List ℕ)) × (chain ≡ before ++ last ∷ after) × Has last × All (λ joined. ¬ Renews joined) after

module _ (Has Renews : List ℕ → Type 0) where
  pub one_there : (joined : List ℕ) → IsLast Has Renews (joined ∷ []) → Has joined
  one_there joined h = elim (ends [] h.0 h.2 joined h.1 h.3) [
    | inl same ↦ subst Has same.0 h.4
    | inr later ↦ absurd (not_empty h.0 h.1 later.0 later.1)
  ]

  pub one_back : (joined : List ℕ) → Has joined → IsLast Has Renews (joined ∷ [])
  one_back joined has = ([], joined, [], refl, has, All-nil (λ d. ¬ Renews d))

  pub more_there : (chain : List (List ℕ)) (joined : List ℕ) → IsLast Has Renews (chain ++ joined ∷ []) → Has joined ⊎ (IsLast Has Renews chain × ¬ Renews joined)
  more_there chain joined h = elim (ends chain h.0 h.2 joined h.1 h.3) [
    | inl same ↦ inl (subst Has same.0 h.4)
    | inr later ↦
        let all = subst (λ (after : List (List ℕ)). All (λ d. ¬ Renews d) after) later.2 h.5 in
        inr ((h.0, h.1, later.0, later.1, h.4, all_front (λ d. ¬ Renews d) later.0 joined all), all_last (λ d. ¬ Renews d) later.0 joined all)
  ]

  pub more_back : (chain : List (List ℕ)) (joined : List ℕ) → Has joined ⊎ (IsLast Has Renews chain × ¬ Renews joined) → IsLast Has Renews (chain ++ joined ∷ [])
  more_back chain joined (inl has) = (chain, joined, [], refl, has, All-nil (λ d. ¬ Renews d))
  more_back chain joined (inr h) =
      let k = h.0 in
      (k.0, k.1, k.2 ++ joined ∷ [], ap (λ (xs : List (List ℕ)). xs ++ joined ∷ []) k.3 ∙ append_assoc k.0 (k.1 ∷ k.2) (joined ∷ []), k.4, All-push (λ d. ¬ Renews d) k.2 joined k.5 h.1)

-- ---- rows and keys

nothing : {X : Type 0} (x : X) → Contains {X = X} [] x → ⊥
nothing x has = absurd (omega (arith, has.1))

-- a key in the first column is that of a row
pub row_of_key : (rows : List (List (List ℕ))) (key : List ℕ) → Contains (column 0 rows) key → (row : List (List ℕ)) × Contains rows row × (owner_key row ≡ key)
row_of_key rows key has =
    let size = length-map rows (λ (row : List (List ℕ)). owner_key row) in
    let inside : has.0 < length rows = omega (arith, has.1, size) in (
      get_or rows has.0 [],
      Contains-get_or rows has.0 [] inside,
      sym (get_or-map owner_key rows has.0 [] key inside) ∙ has.2,
    )

-- and each row's key is there
pub key_of_row : (rows : List (List (List ℕ))) (row : List (List ℕ)) → Contains rows row → Contains (column 0 rows) (owner_key row)
key_of_row rows row has =
    let size = length-map rows (λ (row : List (List ℕ)). owner_key row) in
    let inside : has.0 < length (column 0 rows) = omega (arith, has.1, size) in
    (has.0, inside, get_or-map owner_key rows has.0 row (owner_key row) has.1 ∙ ap owner_key has.2)

any_row : (name : TableName) (key : List ℕ) (es : List FileEntry) (fs : List (List ℕ)) → AnyZip (HasKey IsTableOf name key) es fs → (row : List (List ℕ)) × AnyZip (HasRow name row) es fs × (owner_key row ≡ key)
any_row name key [] fs any = absurd any
any_row name key (e ∷ es) [] any = absurd any
any_row name key (e ∷ es) (f ∷ fs) (inl here) = let there = row_of_key here.1 key here.3 in (there.0, inl (here.0, here.1, here.2, there.1), there.2)
any_row name key (e ∷ es) (f ∷ fs) (inr later) = let there = any_row name key es fs later in (there.0, inr there.1, there.2)

any_key : (name : TableName) (row : List (List ℕ)) (es : List FileEntry) (fs : List (List ℕ)) → AnyZip (HasRow name row) es fs → AnyZip (HasKey IsTableOf name (owner_key row)) es fs
any_key name row [] fs any = absurd any
any_key name row (e ∷ es) [] any = absurd any
any_key name row (e ∷ es) (f ∷ fs) (inl here) = inl (here.0, here.1, here.2, key_of_row here.1 row here.3)
any_key name row (e ∷ es) (f ∷ fs) (inr later) = inr (any_key name row es fs later)

-- a deposit contains the keys of its rows
pub contained_row : (joined : List ℕ) (name : TableName) (key : List ℕ) → DepositContains joined name key → (row : List (List ℕ)) × DepositHasRow joined name row × (owner_key row ≡ key)
contained_row joined name key h =
    let there = any_row name key h.0.contents _ h.3.2 in
    (there.0, (h.0, h.1, h.2, (h.3.0, h.3.1, there.1)), there.2)

pub contained_key : (joined : List ℕ) (name : TableName) (row : List (List ℕ)) → DepositHasRow joined name row → DepositContains joined name (owner_key row)
contained_key joined name row h = (h.0, h.1, h.2, (h.3.0, h.3.1, any_key name row h.0.contents _ h.3.2))

-- an object is named in its own table just where its rows there are renewed
pub own_table : (name : TableName) → IsTrue (has_deletes name) → owner_table name ≡ name
own_table Domain keyed = refl
own_table DomainContacts keyed = cc keyed
own_table DomainStatuses keyed = cc keyed
own_table DomainNameServers keyed = cc keyed
own_table Host keyed = refl
own_table HostAddresses keyed = cc keyed
own_table Contact keyed = refl
own_table Registrar keyed = refl

pub renewed_named : (joined : List ℕ) (name : TableName) (key : List ℕ) → IsTrue (has_deletes name) → DepositRenews joined name key → DepositNames joined name key
renewed_named joined name key keyed (inl has) = (has.0, has.1, has.2, inl has.3)
renewed_named joined name key keyed (inr named) = subst (λ (owner : TableName). DepositNames joined owner key) (own_table name keyed) named

pub named_renewed : (joined : List ℕ) (name : TableName) (key : List ℕ) → IsTrue (has_deletes name) → DepositNames joined name key → DepositRenews joined name key
named_renewed joined name key keyed named = inr (subst (λ (owner : TableName). DepositNames joined owner key) (sym (own_table name keyed)) named)

module _ (chain : List (List ℕ)) (name : TableName) (key : List ℕ) (keyed : IsTrue (has_deletes name)) where
  row_there : IsKeyOf chain name key → (row : List (List ℕ)) × IsRowAfter chain name row × (owner_key row ≡ key)
  row_there h =
      let there = contained_row h.1 name key h.4 in (
        there.0,
        (
          h.0,
          h.1,
          h.2,
          h.3,
          there.1,
          All-weaker (λ d. ¬ DepositNames d name key) (λ d. ¬ DepositRenews d name (owner_key there.0))
              (λ d none renews. none (renewed_named d name key keyed (subst (λ (k : List ℕ). DepositRenews d name k) there.2 renews))) h.2 h.5,
        ),
        there.2,
      )

  key_there : (row : List (List ℕ)) → IsRowAfter chain name row → owner_key row ≡ key → IsKeyOf chain name key
  key_there row h same = (
    h.0,
    h.1,
    h.2,
    h.3,
    subst (λ (k : List ℕ). DepositContains h.1 name k) same (contained_key h.1 name row h.4),
    All-weaker (λ d. ¬ DepositRenews d name (owner_key row)) (λ d. ¬ DepositNames d name key)
        (λ d none named. none (subst (λ (k : List ℕ). DepositRenews d name k) (sym same) (named_renewed d name key keyed named))) h.2 h.5,
  )

pub chain_rows : AreChainRows
chain_rows = record {
  one = λ joined name row.
      let Has = λ (d : List ℕ). DepositHasRow d name row in
      let Renews = λ (d : List ℕ). DepositRenews d name (owner_key row) in
      (one_there Has Renews joined, one_back Has Renews joined);
  more = λ chain joined name row.
      let Has = λ (d : List ℕ). DepositHasRow d name row in
      let Renews = λ (d : List ℕ). DepositRenews d name (owner_key row) in
      (more_there Has Renews chain joined, more_back Has Renews chain joined);
  keys = λ chain name key keyed. (row_there chain name key keyed, λ h. key_there chain name key keyed h.0 h.1 h.2);
}
