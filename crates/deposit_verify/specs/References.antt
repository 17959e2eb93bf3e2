-- Which objects of a full deposit name which others, by their keys.
use Rattle.std.specs.Prelude.{◌≢◌, ℕ, Bool, true, false, List, [], All, Contains, map, slice_index_or}
use Rattle.deposit_name.specs.declared.table.TableName.{TableName}
use Rattle.deposit_name.specs.declared.table.TableName.TheVariants.{Domain, DomainContacts, DomainStatuses, DomainNameServers, Host, HostAddresses, Contact, Registrar}

-- the texts of a column, from 0
abbrev pub column : ℕ → List (List (List ℕ)) → List (List ℕ)
column i rows = map (λ row. slice_index_or row i []) rows

-- each of these texts is the key of a row
abbrev pub AreKeysOf : List (List (List ℕ)) → List (List ℕ) → Type 0
AreKeysOf rows texts = All (Contains (column 0 rows)) texts

-- each of these texts is the key of a row, or empty
abbrev pub AreKeysOrEmpty : List (List (List ℕ)) → List (List ℕ) → Type 0
AreKeysOrEmpty rows texts = All (λ text. text ≢ [] → Contains (column 0 rows) text) texts

-- a text is one of the keys, or empty where it may be
abbrev pub IsKeyIn : Bool → List (List ℕ) → List ℕ → Type 0
IsKeyIn false keys text = Contains keys text
IsKeyIn true keys text = text ≢ [] → Contains keys text

-- the sponsoring registrars of domains, hosts and contacts are there
pub record RegistrarsAreThere (tables : TableName → List (List (List ℕ))) : Type 0 where
  pub of_domains : AreKeysOf (tables Registrar) (column 3 (tables Domain))
  pub of_hosts : AreKeysOf (tables Registrar) (column 2 (tables Host))
  pub of_contacts : AreKeysOf (tables Registrar) (column 2 (tables Contact))

-- the registrants of domains, where there is one, and the contacts of domains are there
pub record ContactsAreThere (tables : TableName → List (List (List ℕ))) : Type 0 where
  pub registrants : AreKeysOrEmpty (tables Contact) (column 2 (tables Domain))
  pub of_domains : AreKeysOf (tables Contact) (column 2 (tables DomainContacts))

-- the domains of contacts, statuses and name servers are there
pub record DomainsAreThere (tables : TableName → List (List (List ℕ))) : Type 0 where
  pub of_contacts : AreKeysOf (tables Domain) (column 0 (tables DomainContacts))
  pub of_statuses : AreKeysOf (tables Domain) (column 0 (tables DomainStatuses))
  pub of_name_servers : AreKeysOf (tables Domain) (column 0 (tables DomainNameServers))

-- the hosts of name servers and addresses are there
pub record HostsAreThere (tables : TableName → List (List (List ℕ))) : Type 0 where
  pub of_name_servers : AreKeysOf (tables Host) (column 1 (tables DomainNameServers))
  pub of_addresses : AreKeysOf (tables Host) (column 0 (tables HostAddresses))

-- whatever an object names is there
pub record AreReferencesKept (tables : TableName → List (List (List ℕ))) : Type 0 where
  pub registrars : RegistrarsAreThere tables
  pub contacts : ContactsAreThere tables
  pub domains : DomainsAreThere tables
  pub hosts : HostsAreThere tables
