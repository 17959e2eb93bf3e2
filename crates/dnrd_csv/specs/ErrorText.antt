-- The numbers of the refusals of a table's file, and what a form is in words.
use Rattle.std.specs.Prelude.{ℕ, List, codes}
use Rattle.dnrd_csv.specs.declared.errors.TableError.{TableError}
use Rattle.dnrd_csv.specs.declared.errors.TableError.TheVariants.{NotUtf8, NotRows, ColumnCount, FieldForm, DuplicateKey, OutOfMemory}
use Rattle.dnrd_csv.specs.declared.form.Form.{Form}
use Rattle.dnrd_csv.specs.declared.form.Form.TheVariants as form

abbrev pub table_error_text : TableError → List ℕ
table_error_text (NotUtf8 offset) = codes "K1"
table_error_text (NotRows row) = codes "K2"
table_error_text (ColumnCount row fields) = codes "K3"
table_error_text (FieldForm row column field) = codes "K4"
table_error_text (DuplicateKey row earlier) = codes "K5"
table_error_text OutOfMemory = codes "K6"

-- what a field of this form is
abbrev pub form_text : Form → List ℕ
form_text form.HostName = codes "a host name"
form_text form.Roid = codes "a repository object identifier"
form_text form.Id = codes "an identifier"
form_text form.OptionalId = codes "an identifier or empty"
form_text form.Moment = codes "a moment"
form_text form.ContactType = codes "admin, billing or tech"
form_text form.Status = codes "a status"
form_text form.Address = codes "an address"
form_text form.AddressVersion = codes "v4 or v6"
form_text form.RegistrarName = codes "a registrar's name"
form_text form.Gurid = codes "an IANA ID or empty"
