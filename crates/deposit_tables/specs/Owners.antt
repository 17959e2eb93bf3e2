-- Whose rows a table has: each row is one of an object, by its first column (the parent and child tables of RFC 9022).
use Rattle.std.specs.Prelude.{ℕ, List, [], slice_index_or}
use Rattle.deposit_name.specs.declared.table.TableName.{TableName}
use Rattle.deposit_name.specs.declared.table.TableName.TheVariants.{Domain, DomainContacts, DomainStatuses, DomainNameServers, Host, HostAddresses, Contact, Registrar}

-- the table of the objects whose rows a table has
abbrev pub owner_table : TableName → TableName
owner_table Domain = Domain
owner_table DomainContacts = Domain
owner_table DomainStatuses = Domain
owner_table DomainNameServers = Domain
owner_table Host = Host
owner_table HostAddresses = Host
owner_table Contact = Contact
owner_table Registrar = Registrar

-- the key of the object whose row it is
abbrev pub owner_key : List (List ℕ) → List ℕ
owner_key row = slice_index_or row 0 []
