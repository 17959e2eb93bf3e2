-- The tables of a deposit, in their order.
use Rattle.std.specs.Prelude.{ℕ, List, [], ◌∷◌}
use Rattle.deposit_name.specs.declared.table.TableName.{TableName}
use Rattle.deposit_name.specs.declared.table.TableName.TheVariants.{Domain, DomainContacts, DomainStatuses, DomainNameServers, Host, HostAddresses, Contact, Registrar}

-- all tables, in the order of a deposit
abbrev pub all_tables : List TableName
all_tables = Domain ∷ DomainContacts ∷ DomainStatuses ∷ DomainNameServers ∷ Host ∷ HostAddresses ∷ Contact ∷ Registrar ∷ []

-- the place of a table among all, from 0
abbrev pub table_place : TableName → ℕ
table_place Domain = 0
table_place DomainContacts = 1
table_place DomainStatuses = 2
table_place DomainNameServers = 3
table_place Host = 4
table_place HostAddresses = 5
table_place Contact = 6
table_place Registrar = 7
