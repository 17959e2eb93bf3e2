-- When a ground of a release stands (Specification 2, Part B section 6), by the notices of a registry.
use Rattle.std.specs.Prelude.{◌+◌, ◌==◌, ◌&&◌, ℕ, Bool, true, false, List, count_by, nat_le, nat_lt, not}
use Rattle.std.specs.List.{list_any}
use Rattle.schedule.specs.Schedule.{is_sunday}
use Rattle.desk.specs.declared.grounds.Ground.{Ground}
use Rattle.desk.specs.declared.grounds.Ground.TheVariants as reason
use Rattle.desk.specs.declared.notices.Notice.{Notice}
use Rattle.desk.specs.declared.notices.NoticeKind.{NoticeKind}
use Rattle.desk.specs.declared.notices.NoticeKind.TheVariants.{Receipt, Failure, Absence}

-- a deposit was received and verified
abbrev pub is_receipt : NoticeKind → Bool
is_receipt (Receipt rev id) = true
is_receipt (Failure rev id check) = false
is_receipt Absence = false

-- the deposit of a day failed or is absent
abbrev pub is_loss : Notice → Bool
is_loss n = not (is_receipt n.kind)

-- a later notice tells that a deposit of the same day was received and verified
abbrev pub is_made_good_by : Notice → Notice → Bool
is_made_good_by n later = is_receipt later.kind && (later.day == n.day && nat_lt n.number later.number)

-- a notice tells that the deposit of a Sunday failed or is absent, and no later receipt of the day made it good
abbrev pub is_sunday_lost : List Notice → Notice → Bool
is_sunday_lost notices n = is_loss n && (is_sunday n.day && not (list_any (is_made_good_by n) notices))

-- thirty days, in seconds
abbrev pub thirty_days : ℕ
thirty_days = 2_592_000

-- a notice of the thirty days up to now tells that a deposit of another day failed or is absent
abbrev pub is_recent_loss : ℕ → Notice → Bool
is_recent_loss now n = is_loss n && (not (is_sunday n.day) && (nat_le n.at now && nat_le now (n.at + thirty_days)))

-- two grounds are looked for among the notices, and each other stands whenever it is named
abbrev pub ground_stands : Ground → List Notice → ℕ → Bool
ground_stands reason.SundayFailed notices now = list_any (is_sunday_lost notices) notices
ground_stands reason.FiveFailed notices now = nat_le 5 (count_by (is_recent_loss now) notices)
ground_stands _ notices now = true
