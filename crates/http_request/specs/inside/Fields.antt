-- The values of fields, as the code has them.
use Rattle.std.specs.Prelude.{◌≡◌, ◌≤◌, ℕ, List, [], ◌∷◌, length, true}
use Rattle.std.specs.Char.{is_ascii_digit}
use Rattle.std.specs.Int.{IsInRange}
use Rattle.std.specs.List.{list_all}
use Rattle.std.specs.Str.Parse.{digits_value}
use Rattle.http_request.specs.declared.fields.FieldValues.{FieldValues}
use Rattle.http_request.specs.declared.fields.FieldValues.TheVariants as named

abbrev pub AreFieldValues : List (List ℕ) → FieldValues → Type 0
AreFieldValues values named.None = values ≡ []
AreFieldValues values (named.One value) = values ≡ value.now ∷ []
AreFieldValues values named.Several = 2 ≤ length values

-- 1 to 10 digits that write the number
abbrev pub IsNumeral : List ℕ → ℕ → Type 0
IsNumeral digits n = IsInRange 1 10 (length digits) × (list_all is_ascii_digit digits ≡ true) × (n ≡ digits_value 10 digits)
