-- The checks of a deposit, by their numbers.
use Rattle.std.specs.Prelude.{ℕ, List}
use Rattle.schedule.specs.Text.{two_digits}
use Rattle.desk.specs.declared.checks.Check.{Check}
use Rattle.desk.specs.declared.checks.Check.TheVariants.{Frame, Envelope, Name, Statement, Weekday, PrevId, IdTaken, Menu, Files, Table, Counts, References, Deletes}

abbrev pub check_number : Check → ℕ
check_number Frame = 1
check_number Envelope = 2
check_number Name = 3
check_number Statement = 4
check_number Weekday = 5
check_number PrevId = 6
check_number IdTaken = 7
check_number Menu = 8
check_number Files = 9
check_number Table = 10
check_number Counts = 11
check_number References = 12
check_number Deletes = 13

-- its number in two digits
abbrev pub check_text : Check → List ℕ
check_text check = two_digits (check_number check)
