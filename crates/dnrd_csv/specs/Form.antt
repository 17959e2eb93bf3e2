-- The forms of fields.
use Rattle.std.specs.Prelude.{◌≡◌, ◌≢◌, ◌≤◌, ◌⊎◌, ℕ, List, [], All, IsUtf8, codes, length, slice_index}
use Rattle.std.specs.Int.{IsInRange}
use Rattle.schedule.specs.Text.{IsMomentText}
use Rattle.dnrd_csv.specs.declared.form.Form.{Form}
use Rattle.dnrd_csv.specs.declared.form.Form.TheVariants as form

abbrev pub IsDigit : ℕ → Type 0
IsDigit byte = IsInRange 48 57 byte

abbrev pub IsLower : ℕ → Type 0
IsLower byte = IsInRange 97 122 byte

abbrev pub IsUpper : ℕ → Type 0
IsUpper byte = IsInRange 65 90 byte

-- `a-z 0-9 - .`
abbrev pub IsHostNameByte : ℕ → Type 0
IsHostNameByte byte = IsLower byte ⊎ IsDigit byte ⊎ (byte ≡ 45) ⊎ (byte ≡ 46)

-- `A-Z a-z 0-9 - _`
abbrev pub IsRoidByte : ℕ → Type 0
IsRoidByte byte = IsUpper byte ⊎ IsLower byte ⊎ IsDigit byte ⊎ (byte ≡ 45) ⊎ (byte ≡ 95)

-- 0x21 to 0x7E
abbrev pub IsIdByte : ℕ → Type 0
IsIdByte byte = IsInRange 0x21 0x7E byte

-- `A-Z a-z`
abbrev pub IsStatusByte : ℕ → Type 0
IsStatusByte byte = IsUpper byte ⊎ IsLower byte

-- `0-9 a-f A-F . :`
abbrev pub IsAddressByte : ℕ → Type 0
IsAddressByte byte = IsDigit byte ⊎ IsInRange 97 102 byte ⊎ IsInRange 65 70 byte ⊎ (byte ≡ 46) ⊎ (byte ≡ 58)

-- 1 to so many bytes, each of which is allowed
abbrev pub IsTextOfBytes : ℕ → (ℕ → Type 0) → List ℕ → Type 0
IsTextOfBytes most Allowed field = (1 ≤ length field) × (length field ≤ most) × All Allowed field

abbrev pub IsHostName : List ℕ → Type 0
IsHostName = IsTextOfBytes 253 IsHostNameByte

abbrev pub IsRoid : List ℕ → Type 0
IsRoid = IsTextOfBytes 89 IsRoidByte

abbrev pub IsId : List ℕ → Type 0
IsId = IsTextOfBytes 16 IsIdByte

abbrev pub IsStatus : List ℕ → Type 0
IsStatus = IsTextOfBytes 30 IsStatusByte

abbrev pub IsAddress : List ℕ → Type 0
IsAddress = IsTextOfBytes 45 IsAddressByte

-- UTF-8 without U+0000
abbrev pub IsRegistrarName : List ℕ → Type 0
IsRegistrarName field = IsUtf8 field × IsTextOfBytes 255 (λ byte. byte ≢ 0) field

-- nothing, or 1 to 9 digits of which the first is not 0
abbrev pub IsGurid : List ℕ → Type 0
IsGurid field = (field ≡ []) ⊎ (IsTextOfBytes 9 IsDigit field × (slice_index field 0 ≢ 48))

abbrev pub HasForm : Form → List ℕ → Type 0
HasForm form.HostName field = IsHostName field
HasForm form.Roid field = IsRoid field
HasForm form.Id field = IsId field
HasForm form.OptionalId field = (field ≡ []) ⊎ IsId field
HasForm form.Moment field = IsMomentText field
HasForm form.ContactType field = (field ≡ codes "admin") ⊎ (field ≡ codes "billing") ⊎ (field ≡ codes "tech")
HasForm form.Status field = IsStatus field
HasForm form.Address field = IsAddress field
HasForm form.AddressVersion field = (field ≡ codes "v4") ⊎ (field ≡ codes "v6")
HasForm form.RegistrarName field = IsRegistrarName field
HasForm form.Gurid field = IsGurid field
