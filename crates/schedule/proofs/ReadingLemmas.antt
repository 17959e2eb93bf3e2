-- The reader of days as a function gives each day of its text, and nothing else.
use Rattle.std.proofs.Common.{◌≡◌, ℕ, ◌+◌, ◌*◌, ◌/◌, ◌%◌, ◌<◌, ◌≤◌, true, false, Bool, ◌&&◌, cond, nat_le, List, ◌++◌, length, codes, Option, None, Some, IfSome, refl, sym, ap, ◌∙◌, arith}
use Rattle.std.proofs.lemmas.Bool.{and_parts, and_from, leb-true, le-leb}
use Rattle.std.proofs.lemmas.List.Folds.{list_all-append}
use Rattle.std.proofs.lemmas.Slice.Eq.{bytes_eq-Decides}
use Rattle.std.specs.List.{list_all}
use Rattle.std.specs.Str.{bytes_eq}
use Rattle.schedule.specs.Calendar.{date_of, day_number}
use Rattle.schedule.specs.Schedule.{IsDay, last_day}
use Rattle.schedule.specs.Text.{digit, two_digits, four_digits, day_text, is_day_byte}
use Rattle.schedule.specs.Reading.{pair_at, date_at, day_at}
use Rattle.schedule.proofs.CalendarLemmas.{day_number-date_of}
use Rattle.schedule.proofs.DateLemmas.{date_ranges}

pub length-day_text : (d : ℕ) → length (day_text d) ≡ 10
length-day_text d = refl

digit_is_day_byte : (n : ℕ) → n < 10 → is_day_byte (digit n) ≡ true
digit_is_day_byte n h = grind arith

two_digits_bytes : (n : ℕ) → n < 100 → list_all is_day_byte (two_digits n) ≡ true
two_digits_bytes n h =
    and_from _ _ (digit_is_day_byte (n / 10) (omega arith)) (and_from _ _ (digit_is_day_byte (n % 10) (omega arith)) refl)

bytes_append : (a b : List ℕ) → list_all is_day_byte a ≡ true → list_all is_day_byte b ≡ true → list_all is_day_byte (a ++ b) ≡ true
bytes_append a b h k = list_all-append is_day_byte a b ∙ and_from _ _ h k

-- the text of a day is digits and hyphens
pub day_text-bytes : (d : ℕ) → IsDay d → list_all is_day_byte (day_text d) ≡ true
day_text-bytes d h =
    let ranges = date_ranges d h in
    let c = date_of d in
    let century = two_digits_bytes (c.year / 100) (omega (arith, ranges.year_in)) in
    let year = two_digits_bytes (c.year % 100) (omega arith) in
    let month = two_digits_bytes c.month (omega (arith, ranges.month_in)) in
    let day = two_digits_bytes c.day (omega (arith, ranges.day_in)) in
    let front = bytes_append (four_digits c.year) (codes "-") (bytes_append (two_digits (c.year / 100)) (two_digits (c.year % 100)) century year) refl in
    let middle = bytes_append (four_digits c.year ++ codes "-" ++ two_digits c.month) (codes "-") (bytes_append (four_digits c.year ++ codes "-") (two_digits c.month) front month) refl in
    bytes_append (four_digits c.year ++ codes "-" ++ two_digits c.month ++ codes "-") (two_digits c.day) middle day

date_at-day_text : (d : ℕ) → IsDay d → date_at (day_text d) ≡ date_of d
date_at-day_text d h =
    let ranges = date_ranges d h in
    let year : pair_at (day_text d) 0 * 100 + pair_at (day_text d) 2 ≡ (date_of d).year = omega (arith, ranges.year_in) in
    let month : pair_at (day_text d) 5 ≡ (date_of d).month = omega (arith, ranges.month_in) in
    let day : pair_at (day_text d) 8 ≡ (date_of d).day = omega (arith, ranges.day_in) in
    λ i. record { year = year i; month = month i; day = day i }

-- the day of a day's text is the day
pub day_at-day_text : (d : ℕ) → IsDay d → day_at (day_text d) ≡ Some d
unfolding day_at
day_at-day_text d h =
    let number : day_number (date_at (day_text d)) ≡ d = ap day_number (date_at-day_text d h) ∙ day_number-date_of d in
    rw (number, le-leb d last_day h, (bytes_eq-Decides (day_text d) (day_text d)).1 refl) refl

guard_some : (b : Bool) (n d : ℕ) → cond b (Some n) None ≡ Some d → (b ≡ true) × (n ≡ d)
guard_some true n d e = (refl, cc)
guard_some false n d e = absurd (cc)

-- the text of which a day is read is the day's
pub day_at-some : (t : List ℕ) (d : ℕ) → day_at t ≡ Some d → IsDay d × (t ≡ day_text d)
unfolding day_at
day_at-some t d e =
    let n = day_number (date_at t) in
    let found = guard_some (nat_le n last_day && bytes_eq t (day_text n)) n d e in
    let tests = and_parts (nat_le n last_day) (bytes_eq t (day_text n)) found.0 in
    let within : n ≤ last_day = leb-true n last_day tests.0 in
    let same : t ≡ day_text n = (bytes_eq-Decides t (day_text n)).0 tests.1 in
    (rw found.1 at within, same ∙ ap day_text found.1)

none_is : (o : Option ℕ) → ((d : ℕ) → o ≡ Some d → None ≡ Some d) → None ≡ o
none_is None f = refl
none_is (Some d) f = f d refl

-- what reads exactly the texts of days is the function
pub day_at-read : (t : List ℕ) (r : Option ℕ) → IfSome r (λ d. IsDay d × (t ≡ day_text d)) → ((d : ℕ) → IsDay d → t ≡ day_text d → r ≡ Some d) → r ≡ day_at t
day_at-read t (Some d) h only = sym (ap day_at h.1 ∙ day_at-day_text d h.0)
day_at-read t None h only = none_is (day_at t) (λ d e. let shown = day_at-some t d e in only d shown.0 shown.1)
