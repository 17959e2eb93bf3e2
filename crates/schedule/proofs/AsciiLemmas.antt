-- The texts of days and moments are ASCII.
use Rattle.std.proofs.Common.{◌≡◌, ℕ, zero, suc, ◌/◌, ◌%◌, ◌<◌, true, List, [], ◌∷◌, ◌++◌, codes, arith}
use Rattle.std.proofs.lemmas.Bool.{and_parts}
use Rattle.std.proofs.lemmas.Str.{IsAscii-append}
use Rattle.std.specs.List.{list_all}
use Rattle.std.specs.Str.{IsAscii}
use Rattle.schedule.specs.Schedule.{IsDay, IsMoment, day_of}
use Rattle.schedule.specs.Text.{digit, two_digits, day_text, clock_text, moment_text, is_day_byte}
use Rattle.schedule.proofs.ReadingLemmas.{day_text-bytes}

day_byte_is_ascii : (b : ℕ) → is_day_byte b ≡ true → b < 128
day_byte_is_ascii b h = grind arith

IsAscii-bytes : (text : List ℕ) → list_all is_day_byte text ≡ true → IsAscii text
IsAscii-bytes [] h i = omega arith
IsAscii-bytes (b ∷ bs) h zero = day_byte_is_ascii b (and_parts (is_day_byte b) (list_all is_day_byte bs) h).0
IsAscii-bytes (b ∷ bs) h (suc i) = IsAscii-bytes bs (and_parts (is_day_byte b) (list_all is_day_byte bs) h).1 i

pub IsAscii-day_text : (d : ℕ) → IsDay d → IsAscii (day_text d)
IsAscii-day_text d h = IsAscii-bytes (day_text d) (day_text-bytes d h)

IsAscii-nil : IsAscii []
IsAscii-nil i = omega arith

IsAscii-cons : (b : ℕ) (bs : List ℕ) → b < 128 → IsAscii bs → IsAscii (b ∷ bs)
IsAscii-cons b bs h k zero = h
IsAscii-cons b bs h k (suc i) = k i

IsAscii-two_digits : (n : ℕ) → n < 100 → IsAscii (two_digits n)
IsAscii-two_digits n h =
    let ones = IsAscii-cons (digit (n % 10)) [] (omega arith) IsAscii-nil in
    IsAscii-cons (digit (n / 10)) (digit (n % 10) ∷ []) (omega arith) ones

colon : IsAscii (codes ":")
colon = IsAscii-cons 58 [] (omega arith) IsAscii-nil

IsAscii-clock_text : (s : ℕ) → s < 86_400 → IsAscii (clock_text s)
IsAscii-clock_text s h =
    let hour = IsAscii-append (two_digits (s / 3600)) (codes ":") (IsAscii-two_digits (s / 3600) (omega arith)) colon in
    let minute = IsAscii-append (two_digits (s / 3600) ++ codes ":") (two_digits (s % 3600 / 60)) hour (IsAscii-two_digits (s % 3600 / 60) (omega arith)) in
    let front = IsAscii-append (two_digits (s / 3600) ++ codes ":" ++ two_digits (s % 3600 / 60)) (codes ":") minute colon in
    IsAscii-append (two_digits (s / 3600) ++ codes ":" ++ two_digits (s % 3600 / 60) ++ codes ":") (two_digits (s % 60)) front (IsAscii-two_digits (s % 60) (omega arith))

pub IsAscii-moment_text : (s : ℕ) → IsMoment s → IsAscii (moment_text s)
IsAscii-moment_text s h =
    let day = IsAscii-append (day_text (day_of s)) (codes "T") (IsAscii-day_text (day_of s) (omega arith)) (IsAscii-cons 84 [] (omega arith) IsAscii-nil) in
    let clock = IsAscii-append (day_text (day_of s) ++ codes "T") (clock_text (s % 86_400)) day (IsAscii-clock_text (s % 86_400) (omega arith)) in
    IsAscii-append (day_text (day_of s) ++ codes "T" ++ clock_text (s % 86_400)) (codes "Z") clock (IsAscii-cons 90 [] (omega arith) IsAscii-nil)
