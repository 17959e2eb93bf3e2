-- A table is read from its name, and from no other text.
use Rattle.std.proofs.Common.{◌≡◌, ℕ, List, Bool, true, false, cond, Option, None, Some, IfSome, refl}
use Rattle.std.specs.Str.{bytes_eq}
use Rattle.std.proofs.lemmas.Slice.Eq.{bytes_eq-Decides}
use Rattle.deposit_name.specs.declared.table.TableName.{TableName}
use Rattle.deposit_name.specs.declared.table.TableName.TheVariants.{Domain, DomainContacts, DomainStatuses, DomainNameServers, Host, HostAddresses, Contact, Registrar}
use Rattle.deposit_name.specs.Tables.{table_name_text, table_of_name}

-- the table of a table's name is the table
pub table_at-table_text : (n : TableName) → table_of_name (table_name_text n) ≡ Some n
unfolding table_of_name
table_at-table_text Domain = refl
table_at-table_text _ = refl

tested : (b : Bool) (t : List ℕ) (m : TableName) (rest : Option TableName) → (b ≡ true → t ≡ table_name_text m) → IfSome rest (λ n. t ≡ table_name_text n) → IfSome (cond b (Some m) rest) (λ n. t ≡ table_name_text n)
tested true t m rest is h = is refl
tested false t m rest is h = h

name_tested : (t : List ℕ) (m : TableName) (rest : Option TableName) → IfSome rest (λ n. t ≡ table_name_text n) → IfSome (cond (bytes_eq t (table_name_text m)) (Some m) rest) (λ n. t ≡ table_name_text n)
name_tested t m rest h = tested (bytes_eq t (table_name_text m)) t m rest (bytes_eq-Decides t (table_name_text m)).0 h

-- the text of which a table is read is the table's name
pub table_at-some : (t : List ℕ) → IfSome (table_of_name t) (λ n. t ≡ table_name_text n)
unfolding table_of_name
table_at-some t =
    name_tested t Domain _ (name_tested t DomainContacts _ (name_tested t DomainStatuses _ (name_tested t DomainNameServers _ (name_tested t Host _ (name_tested t HostAddresses _ (name_tested t Contact _ (name_tested t Registrar None tt)))))))
