-- The keys that a deposit names, and those that there are after it (RFC 8909, section 5.1: what is deleted, and what is contained).
use Rattle.std.specs.Prelude.{◌≡◌, ◌≢◌, ◌↔◌, ◌⊎◌, ℕ, List, [], ◌∷◌, AllPairs, Contains, length}
use Rattle.deposit_name.specs.declared.table.TableName.{TableName}
use Rattle.deposit_name.specs.declared.table.TableName.TheVariants.{Domain, DomainContacts, DomainStatuses, DomainNameServers, Host, HostAddresses, Contact, Registrar}
use Rattle.envelope.specs.Envelope.{Env}
use Rattle.envelope.specs.declared.envelope.FileEntry.{FileEntry}
use Rattle.deposit_verify.specs.declared.base.Base.{Base}
use Rattle.deposit_verify.specs.Deposit.{IsKeyFileOf, HasFiles, IsTableOf, contents_files, deletes_files, deletes_of}
use Rattle.deposit_verify.specs.References.{column}

-- the keys of a table that is counted
abbrev pub keys_in : Base → TableName → List (List ℕ)
keys_in base Domain = base.domains
keys_in base DomainContacts = []
keys_in base DomainStatuses = []
keys_in base DomainNameServers = []
keys_in base Host = base.hosts
keys_in base HostAddresses = []
keys_in base Contact = base.contacts
keys_in base Registrar = base.registrars

-- this holds of some entry and its file
abbrev pub AnyZip : {A B : Type 0} → (A → B → Type 0) → List A → List B → Type 0
AnyZip R [] ys = ⊥
AnyZip R (x ∷ xs) [] = ⊥
AnyZip R (x ∷ xs) (y ∷ ys) = R x y ⊎ AnyZip R xs ys

-- the file is of this table, and the key is that of one of its rows
abbrev pub HasKey : (TableName → List ℕ → List (List (List ℕ)) → Type 0) → TableName → List ℕ → FileEntry → List ℕ → Type 0
HasKey Reads name key entry file = (entry.name ≡ name) × (rows : List (List (List ℕ))) × Reads entry.name file rows × Contains (column 0 rows) key

-- the deposit has the key in its table of contents
abbrev pub IsContained : Env → List ℕ → TableName → List ℕ → Type 0
IsContained v rest name key = HasFiles v rest (λ files. AnyZip (HasKey IsTableOf name key) v.contents (contents_files v files))

-- the deposit deletes the key
abbrev pub IsDeleted : Env → List ℕ → TableName → List ℕ → Type 0
IsDeleted v rest name key = HasFiles v rest (λ files. AnyZip (HasKey IsKeyFileOf name key) (deletes_of v) (deletes_files v files))

-- the deposit names the key
abbrev pub IsNamed : Env → List ℕ → TableName → List ℕ → Type 0
IsNamed v rest name key = IsContained v rest name key ⊎ IsDeleted v rest name key

-- a key after a deposit: one that it contains, also if it deletes it, or one from before that it does not name
abbrev pub IsKeyAfter : Env → List ℕ → List (List ℕ) → TableName → List ℕ → Type 0
IsKeyAfter v rest before name key = IsContained v rest name key ⊎ (Contains before key × ¬ IsNamed v rest name key)

-- these are the texts of which this holds, each once
pub record AreKeys (P : List ℕ → Type 0) (keys : List (List ℕ)) : Type 0 where
  pub once : AllPairs (λ one other. one ≢ other) keys
  pub same : (key : List ℕ) → Contains keys key ↔ P key

-- how many texts there are of which this holds
abbrev pub IsNumberOf : (List ℕ → Type 0) → ℕ → Type 0
IsNumberOf P n = (keys : List (List ℕ)) × AreKeys P keys × (length keys ≡ n)
