-- The forms of fields as tests: each passes just where `HasForm` holds, which `law_table_reader` says of whole tables.
use Rattle.std.specs.Prelude.{◌==◌, ◌&&◌, ◌||◌, not, ℕ, ◌+◌, ◌*◌, Bool, false, List, [], Option, Some, None, codes, length, nat_le, nat_lt, take, slice_index}
use Rattle.std.specs.Int.{is_in_range}
use Rattle.std.specs.List.{list_all}
use Rattle.std.specs.Str.{bytes_eq, is_utf8}
use Rattle.schedule.specs.Reading.{day_at, pair_at}
use Rattle.schedule.specs.Text.{moment_text}
use Rattle.dnrd_csv.specs.declared.form.Form.{Form}
use Rattle.dnrd_csv.specs.declared.form.Form.TheVariants as form

-- ---- bytes

abbrev pub is_digit : ℕ → Bool
is_digit byte = is_in_range 48 57 byte

abbrev pub is_lower : ℕ → Bool
is_lower byte = is_in_range 97 122 byte

abbrev pub is_upper : ℕ → Bool
is_upper byte = is_in_range 65 90 byte

abbrev pub is_host_name_byte : ℕ → Bool
is_host_name_byte byte = is_lower byte || (is_digit byte || (byte == 45 || byte == 46))

abbrev pub is_roid_byte : ℕ → Bool
is_roid_byte byte = is_upper byte || (is_lower byte || (is_digit byte || (byte == 45 || byte == 95)))

abbrev pub is_id_byte : ℕ → Bool
is_id_byte byte = is_in_range 0x21 0x7E byte

abbrev pub is_status_byte : ℕ → Bool
is_status_byte byte = is_upper byte || is_lower byte

abbrev pub is_address_byte : ℕ → Bool
is_address_byte byte = is_digit byte || (is_in_range 97 102 byte || (is_in_range 65 70 byte || (byte == 46 || byte == 58)))

-- ---- fields

-- 1 to so many bytes, each of which passes
abbrev pub is_text_of_bytes : ℕ → (ℕ → Bool) → List ℕ → Bool
is_text_of_bytes most allowed field = nat_le 1 (length field) && (nat_le (length field) most && list_all allowed field)

abbrev pub is_id : List ℕ → Bool
is_id = is_text_of_bytes 16 is_id_byte

-- the second of the day that stands behind the day
abbrev pub second_at : List ℕ → ℕ
second_at text = pair_at text 11 * 3600 + pair_at text 14 * 60 + pair_at text 17

-- the text of the moment that it shows, on the day that it begins with
abbrev pub is_moment_of : Option ℕ → List ℕ → Bool
is_moment_of None text = false
is_moment_of (Some day) text = nat_lt (second_at text) 86_400 && bytes_eq text (moment_text (86_400 * day + second_at text))

abbrev pub is_moment_text : List ℕ → Bool
is_moment_text text = is_moment_of (day_at (take 10 text)) text

abbrev pub is_gurid : List ℕ → Bool
is_gurid field = bytes_eq field [] || (is_text_of_bytes 9 is_digit field && not (slice_index field 0 == 48))

abbrev pub has_form : Form → List ℕ → Bool
has_form form.HostName field = is_text_of_bytes 253 is_host_name_byte field
has_form form.Roid field = is_text_of_bytes 89 is_roid_byte field
has_form form.Id field = is_id field
has_form form.OptionalId field = bytes_eq field [] || is_id field
has_form form.Moment field = is_moment_text field
has_form form.ContactType field = bytes_eq field (codes "admin") || (bytes_eq field (codes "billing") || bytes_eq field (codes "tech"))
has_form form.Status field = is_text_of_bytes 30 is_status_byte field
has_form form.Address field = is_text_of_bytes 45 is_address_byte field
has_form form.AddressVersion field = bytes_eq field (codes "v4") || bytes_eq field (codes "v6")
has_form form.RegistrarName field = is_utf8 field && is_text_of_bytes 255 (λ byte. not (byte == 0)) field
has_form form.Gurid field = is_gurid field
