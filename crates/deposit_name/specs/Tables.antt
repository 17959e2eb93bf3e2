-- The tables of a deposit (the CSV model of RFC 9022).
use Rattle.std.specs.Prelude.{ℕ, List, codes, Option, Some, None, if◌then◌else◌, Bool, true, false}
use Rattle.std.specs.Str.{bytes_eq}
use Rattle.deposit_name.specs.declared.table.TableName.{TableName}
use Rattle.deposit_name.specs.declared.table.TableName.TheVariants.{Domain, DomainContacts, DomainStatuses, DomainNameServers, Host, HostAddresses, Contact, Registrar}

-- the name of a table
abbrev pub table_name_text : TableName → List ℕ
table_name_text Domain = codes "domain"
table_name_text DomainContacts = codes "domainContacts"
table_name_text DomainStatuses = codes "domainStatuses"
table_name_text DomainNameServers = codes "domainNameServers"
table_name_text Host = codes "host"
table_name_text HostAddresses = codes "hostAddresses"
table_name_text Contact = codes "contact"
table_name_text Registrar = codes "registrar"

-- the table with that name, as a function of the text
unfoldable pub table_of_name : List ℕ → Option TableName
table_of_name t =
    if bytes_eq t (codes "domain") then Some Domain
    else if bytes_eq t (codes "domainContacts") then Some DomainContacts
    else if bytes_eq t (codes "domainStatuses") then Some DomainStatuses
    else if bytes_eq t (codes "domainNameServers") then Some DomainNameServers
    else if bytes_eq t (codes "host") then Some Host
    else if bytes_eq t (codes "hostAddresses") then Some HostAddresses
    else if bytes_eq t (codes "contact") then Some Contact
    else if bytes_eq t (codes "registrar") then Some Registrar
    else None

-- a table whose keys a deposit may delete
abbrev pub has_deletes : TableName → Bool
has_deletes Domain = true
has_deletes DomainContacts = false
has_deletes DomainStatuses = false
has_deletes DomainNameServers = false
has_deletes Host = true
has_deletes HostAddresses = false
has_deletes Contact = true
has_deletes Registrar = true
