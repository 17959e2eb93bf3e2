-- What has changed since some earlier tables, for private clauses.
use Rattle.std.specs.Prelude.{◌≡◌, ◌↔◌, ◌⊎◌, Bool, ℕ, [], AllPairs, Contains, IsTrue, List, false, length, not, slice_index_or}
use Rattle.std.specs.Cmp.Lexicographic.{slice_cmp}
use Rattle.std.specs.Ordering.{nat_cmp}
use Rattle.std.specs.Set.{is_member}
use Rattle.std.specs.Str.{bytes_eq}
use Rattle.std.specs.declared.cmp.Ordering.TheVariants.{Less}
use Rattle.dnrd_csv.specs.Text.{key_rows}
use Rattle.dnrd_csv.specs.inside.RowKeys.{borrowed_texts}
use Rattle.deposit_name.specs.Tables.{has_deletes}
use Rattle.deposit_name.specs.declared.table.TableName.{TableName}
use Rattle.deposit_name.specs.declared.table.TableName.TheVariants.{Domain, DomainContacts, DomainStatuses, DomainNameServers, Host, HostAddresses, Contact, Registrar}
use Rattle.deposit_verify.specs.Places.{table_place}
use Rattle.deposit_verify.specs.Tables.{AreAllTables, table_of}
use Rattle.deposit_tables.specs.Owners.{owner_key}
use Rattle.deposit_tables.specs.Restored.{AreRows}
use Rattle.deposit_tables.specs.Unchanged.{IsChangedRow, IsGoneKey, IsUnchanged}
use Rattle.deposit_tables.specs.declared.changed_keys.ChangedKeys.{ChangedKeys}
use Rattle.deposit_tables.specs.declared.changes.Changes.{Changes}

-- ---- keys

-- an object has a row in one table that the other has not
abbrev pub HasOwnRow : List (List (List ℕ)) → List (List (List ℕ)) → List ℕ → Type 0
HasOwnRow one other key = (row : List (List ℕ)) × Contains one row × (¬ Contains other row) × (owner_key row ≡ key)

-- to these keys those of which this holds were added
abbrev pub AreAdded : List (List ℕ) → List (List ℕ) → (List ℕ → Type 0) → Type 0
AreAdded before after P = (key : List ℕ) → Contains after key ↔ (Contains before key ⊎ P key)

-- each key is below those after it
abbrev pub KeysAscend : List (List ℕ) → Type 0
KeysAscend keys = AllPairs (λ one other. slice_cmp nat_cmp one other ≡ Less) keys

-- the changed keys of the objects whose rows a table has
abbrev pub changed_keys_of : ChangedKeys → TableName → List (List ℕ)
changed_keys_of c Domain = borrowed_texts c.domains.items
changed_keys_of c DomainContacts = borrowed_texts c.domains.items
changed_keys_of c DomainStatuses = borrowed_texts c.domains.items
changed_keys_of c DomainNameServers = borrowed_texts c.domains.items
changed_keys_of c Host = borrowed_texts c.hosts.items
changed_keys_of c HostAddresses = borrowed_texts c.hosts.items
changed_keys_of c Contact = borrowed_texts c.contacts.items
changed_keys_of c Registrar = borrowed_texts c.registrars.items

-- they are those of the objects that are not the same as in each of some earlier tables, ascending
pub record AreChangedKeys (olds : List (TableName → List (List (List ℕ)))) (new : TableName → List (List (List ℕ))) (c : ChangedKeys) : Type 0 where
  pub ascend : (name : TableName) → KeysAscend (changed_keys_of c name)
  pub same : (name : TableName) → IsTrue (has_deletes name) → (key : List ℕ) → Contains (changed_keys_of c name) key ↔ ¬ IsUnchanged olds new name key

-- a row is of one of these objects
abbrev pub is_owned_by : List (List ℕ) → List (List ℕ) → Bool
is_owned_by keys row = is_member bytes_eq keys (owner_key row)

-- a key is none of these
abbrev pub is_gone : List (List ℕ) → List ℕ → Bool
is_gone keys key = not (is_member bytes_eq keys key)

-- ---- changes

-- of lists of keys, that of a table
abbrev pub keys_of_table : List (List (List ℕ)) → TableName → List (List ℕ)
keys_of_table deletes name = slice_index_or deletes (table_place name) []

-- these rows and keys are what takes earlier tables to the new ones
pub record AreChangesOf (olds : List (TableName → List (List (List ℕ)))) (new : TableName → List (List (List ℕ))) (c : Changes) : Type 0 where
  pub all : AreAllTables c.contents.items
  pub contents : (name : TableName) → AreRows (IsChangedRow olds new name) (table_of c.contents.items name)
  pub eight : length c.deletes.items ≡ 8
  pub deletes : (name : TableName) → IsTrue (has_deletes name) → AreRows (IsGoneKey olds new name) (key_rows (keys_of_table c.deletes.items name))
  pub none : (name : TableName) → has_deletes name ≡ false → keys_of_table c.deletes.items name ≡ []
