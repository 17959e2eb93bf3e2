-- The changed keys of all tables, from those of domains, hosts, contacts and registrars.
use Rattle.std.proofs.Common.{◌↔◌, ℕ, Contains, IsTrue, List}
use Rattle.deposit_name.specs.Tables.{has_deletes}
use Rattle.deposit_name.specs.declared.table.TableName.{TableName}
use Rattle.deposit_name.specs.declared.table.TableName.TheVariants.{Domain, DomainContacts, DomainStatuses, DomainNameServers, Host, HostAddresses, Contact, Registrar}
use Rattle.dnrd_csv.specs.inside.RowKeys.{borrowed_texts}
use Rattle.deposit_tables.specs.Unchanged.{IsUnchanged}
use Rattle.deposit_tables.specs.declared.changed_keys.ChangedKeys.{ChangedKeys}
use Rattle.deposit_tables.specs.inside.Changing.{AreChangedKeys, KeysAscend, changed_keys_of}
use Rattle.deposit_tables.proofs.Decisions.{Tables}

-- keys of the objects of a table that are not the same as before, ascending
abbrev pub AreChangedOf : List Tables → Tables → TableName → List (List ℕ) → Type 0
AreChangedOf olds new owner keys = KeysAscend keys × ((key : List ℕ) → Contains keys key ↔ ¬ IsUnchanged olds new owner key)

module _ (olds : List Tables) (new : Tables) (c : ChangedKeys) (domains : AreChangedOf olds new Domain (borrowed_texts c.domains.items)) (hosts : AreChangedOf olds new Host (borrowed_texts c.hosts.items))
    (contacts : AreChangedOf olds new Contact (borrowed_texts c.contacts.items)) (registrars : AreChangedOf olds new Registrar (borrowed_texts c.registrars.items)) where
  ascending : (name : TableName) → KeysAscend (changed_keys_of c name)
  ascending Domain = domains.0
  ascending DomainContacts = domains.0
  ascending DomainStatuses = domains.0
  ascending DomainNameServers = domains.0
  ascending Host = hosts.0
  ascending HostAddresses = hosts.0
  ascending Contact = contacts.0
  ascending Registrar = registrars.0

  changed : (name : TableName) → IsTrue (has_deletes name) → (key : List ℕ) → Contains (changed_keys_of c name) key ↔ ¬ IsUnchanged olds new name key
  changed Domain keyed = domains.1
  changed DomainContacts keyed = cc keyed
  changed DomainStatuses keyed = cc keyed
  changed DomainNameServers keyed = cc keyed
  changed Host keyed = hosts.1
  changed HostAddresses keyed = cc keyed
  changed Contact keyed = contacts.1
  changed Registrar keyed = registrars.1

  pub are_changed : AreChangedKeys olds new c
  are_changed = record { ascend = ascending; same = changed }
