-- What a table is, and which fault a file has (the CSV model of RFC 9022).
use Rattle.std.specs.Prelude.{◌≡◌, ◌≢◌, ◌⊎◌, ◌<◌, ◌++◌, ℕ, List, [], ◌∷◌, Some, true, false, All, AllPairs, IsUtf8, codes, length, map, nat_eq, slice_get, take}
use Rattle.std.specs.List.{AllZip, starts_with}
use Rattle.std.specs.Str.{IsValidUpTo}
use Rattle.dnrd_csv.specs.declared.errors.TableError.{TableError}
use Rattle.dnrd_csv.specs.declared.errors.TableError.TheVariants as fault
use Rattle.dnrd_csv.specs.declared.form.Form.{Form}
use Rattle.dnrd_csv.specs.declared.form.Form.TheVariants as form
use Rattle.deposit_name.specs.declared.table.TableName.{TableName}
use Rattle.deposit_name.specs.declared.table.TableName.TheVariants as table
use Rattle.dnrd_csv.specs.Form.{HasForm}
use Rattle.dnrd_csv.specs.Text.{IsRow, IsTextOf, byte_order_mark, row_text, table_text}

-- the forms of a table's columns
abbrev pub columns_of : TableName → List Form
columns_of table.Domain = form.HostName ∷ form.Roid ∷ form.OptionalId ∷ form.Id ∷ form.Moment ∷ form.Moment ∷ []
columns_of table.DomainContacts = form.HostName ∷ form.ContactType ∷ form.Id ∷ []
columns_of table.DomainStatuses = form.HostName ∷ form.Status ∷ []
columns_of table.DomainNameServers = form.HostName ∷ form.HostName ∷ []
columns_of table.Host = form.HostName ∷ form.Roid ∷ form.Id ∷ form.Moment ∷ []
columns_of table.HostAddresses = form.HostName ∷ form.Address ∷ form.AddressVersion ∷ []
columns_of table.Contact = form.Id ∷ form.Roid ∷ form.Id ∷ form.Moment ∷ []
columns_of table.Registrar = form.Id ∷ form.RegistrarName ∷ form.Gurid ∷ form.Status ∷ []

-- the names of a table's columns (RFC 9022)
abbrev pub column_names_of : TableName → List (List ℕ)
column_names_of table.Domain = codes "fName" ∷ codes "fRoid" ∷ codes "fRegistrant" ∷ codes "fClID" ∷ codes "fCrDate" ∷ codes "fExDate" ∷ []
column_names_of table.DomainContacts = codes "fName" ∷ codes "fContactType" ∷ codes "fId" ∷ []
column_names_of table.DomainStatuses = codes "fName" ∷ codes "fStatus" ∷ []
column_names_of table.DomainNameServers = codes "fName" ∷ codes "fHostName" ∷ []
column_names_of table.Host = codes "fName" ∷ codes "fRoid" ∷ codes "fClID" ∷ codes "fCrDate" ∷ []
column_names_of table.HostAddresses = codes "fName" ∷ codes "fAddr" ∷ codes "fAddrVersion" ∷ []
column_names_of table.Contact = codes "fId" ∷ codes "fRoid" ∷ codes "fClID" ∷ codes "fCrDate" ∷ []
column_names_of table.Registrar = codes "fId" ∷ codes "fName" ∷ codes "fGurid" ∷ codes "fStatus" ∷ []

-- how many of the first columns are the key: one, or the row
abbrev pub key_columns_of : TableName → ℕ
key_columns_of table.Domain = 1
key_columns_of table.DomainContacts = 3
key_columns_of table.DomainStatuses = 2
key_columns_of table.DomainNameServers = 2
key_columns_of table.Host = 1
key_columns_of table.HostAddresses = 3
key_columns_of table.Contact = 1
key_columns_of table.Registrar = 1

-- each row has so many fields
abbrev pub HaveWidth : ℕ → List (List (List ℕ)) → Type 0
HaveWidth width rows = All (λ row. length row ≡ width) rows

-- each field is in the form of its column
abbrev pub HaveForms : List Form → List (List (List ℕ)) → Type 0
HaveForms columns rows = All (λ row. AllZip HasForm columns row) rows

-- no two rows have one key
abbrev pub HaveDistinctKeys : ℕ → List (List (List ℕ)) → Type 0
HaveDistinctKeys key rows = AllPairs (λ one other. one ≢ other) (map (take key) rows)

-- the bytes are the text of these rows of these columns, of which the first ones are the key
pub record IsTable (columns : List Form) (key : ℕ) (bytes : List ℕ) (rows : List (List (List ℕ))) : Type 0 where
  pub utf8 : IsUtf8 bytes
  pub text : IsTextOf bytes rows
  pub columns_right : HaveWidth (length columns) rows
  pub forms_right : HaveForms columns rows
  pub keys_right : HaveDistinctKeys key rows

-- no row stands at the front of a text
abbrev pub BeginsWithNoRow : List ℕ → Type 0
BeginsWithNoRow text = (row : List (List ℕ)) (rest : List ℕ) → IsRow row → text ≢ row_text row ++ rest

-- behind the text of so many rows, a text with no byte order mark goes on, but with no row
pub record StopsAfter (bytes : List ℕ) (count : ℕ) : Type 0 where
  pub unmarked : starts_with nat_eq bytes byte_order_mark ≡ false
  pub rows : List (List (List ℕ))
  pub rest : List ℕ
  pub rows_in_form : All IsRow rows
  pub text : bytes ≡ table_text rows ++ rest
  pub count_right : length rows ≡ count
  pub more : rest ≢ []
  pub no_row : BeginsWithNoRow rest

-- where bytes stop to be rows: behind so many of them, or at a byte order mark, which is row 0
abbrev pub HasNoRowAt : List ℕ → ℕ → Type 0
HasNoRowAt bytes row = StopsAfter bytes row ⊎ ((starts_with nat_eq bytes byte_order_mark ≡ true) × (row ≡ 0))

-- of the rows, this one is the first without the width, and has so many fields
pub record IsFirstUneven (width : ℕ) (rows : List (List (List ℕ))) (row fields : ℕ) : Type 0 where
  pub found : List (List ℕ)
  pub there : slice_get rows row ≡ Some found
  pub fields_right : length found ≡ fields
  pub uneven : fields ≢ width
  pub rows_before : HaveWidth width (take row rows)

-- of a row's fields, this one is the first that is not in the form of its column
pub record IsFirstFieldOutOfForm (columns : List Form) (fields : List (List ℕ)) (column : ℕ) (field : List ℕ) : Type 0 where
  pub column_form : Form
  pub there : slice_get fields column ≡ Some field
  pub form_there : slice_get columns column ≡ Some column_form
  pub out_of_form : ¬ HasForm column_form field
  pub fields_before : AllZip HasForm (take column columns) (take column fields)

-- of the rows, this one is the first with a field out of form, and this is its first
pub record IsFirstOutOfForm (columns : List Form) (rows : List (List (List ℕ))) (row column : ℕ) (field : List ℕ) : Type 0 where
  pub fields : List (List ℕ)
  pub there : slice_get rows row ≡ Some fields
  pub first_of_row : IsFirstFieldOutOfForm columns fields column field
  pub rows_before : HaveForms columns (take row rows)

-- of the rows, this one is the first that has the key of an earlier one, which is this
pub record IsFirstRepeat (key : ℕ) (rows : List (List (List ℕ))) (row earlier : ℕ) : Type 0 where
  pub repeated : List (List ℕ)
  pub is_earlier : earlier < row
  pub there : slice_get (map (take key) rows) row ≡ Some repeated
  pub earlier_there : slice_get (map (take key) rows) earlier ≡ Some repeated
  pub rows_before : HaveDistinctKeys key (take row rows)

-- the first fault over the whole file and its first place, or one of memory
abbrev pub RefusesTableFile : List Form → ℕ → List ℕ → TableError → Type 0
RefusesTableFile columns key bytes (fault.NotUtf8 offset) = ¬ IsUtf8 bytes × IsValidUpTo bytes offset
RefusesTableFile columns key bytes (fault.NotRows row) = IsUtf8 bytes × ((rows : List (List (List ℕ))) → ¬ IsTextOf bytes rows) × HasNoRowAt bytes row
RefusesTableFile columns key bytes (fault.ColumnCount row fields) =
    IsUtf8 bytes × (rows : List (List (List ℕ))) × IsTextOf bytes rows × ¬ HaveWidth (length columns) rows × IsFirstUneven (length columns) rows row fields
RefusesTableFile columns key bytes (fault.FieldForm row column field) =
    IsUtf8 bytes × (rows : List (List (List ℕ))) × IsTextOf bytes rows × HaveWidth (length columns) rows × ¬ HaveForms columns rows
    × IsFirstOutOfForm columns rows row column field.items
RefusesTableFile columns key bytes (fault.DuplicateKey row earlier) =
    IsUtf8 bytes × (rows : List (List (List ℕ))) × IsTextOf bytes rows × HaveWidth (length columns) rows × HaveForms columns rows × ¬ HaveDistinctKeys key rows
    × IsFirstRepeat key rows row earlier
RefusesTableFile columns key bytes fault.OutOfMemory = Unit {0}
