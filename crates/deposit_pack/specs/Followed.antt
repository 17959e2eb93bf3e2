-- Which of a registry's deposits another one follows (the types of RFC 8909, section 2). Each stands under the name of its first part.
use Rattle.std.specs.Prelude.{◌≡◌, ◌≤◌, ◌<◌, ◌==◌, ◌&&◌, Bool, ℕ, List, All, IsTrue, length, nat_lt, not}
use Rattle.std.specs.List.{AllAdjacentBelow, list_any}
use Rattle.deposit_name.specs.Name.{Name, is_same_kind}
use Rattle.deposit_name.specs.declared.kinds.Kind.TheVariants.{Full}
use Rattle.deposit_pack.specs.declared.followed.LeftOut.{LeftOut}
use Rattle.deposit_pack.specs.declared.followed.LeftOut.TheVariants.{Itself, NotEarlier, Replaced, BeforeFull}

-- a later revision of its day is among them
abbrev pub is_later_revision : Name → Name → Bool
is_later_revision one other = other.day == one.day && nat_lt one.rev other.rev

abbrev pub is_replaced : List Name → Name → Bool
is_replaced names one = list_any (is_later_revision one) names

-- a full one stands between it and a day
abbrev pub is_full_between : List Name → ℕ → Name → Name → Bool
is_full_between names day one full = is_same_kind full.kind Full && nat_lt one.day full.day && nat_lt full.day day && not (is_replaced names full)

abbrev pub is_before_full : List Name → ℕ → Name → Bool
is_before_full names day one = list_any (is_full_between names day one) names

-- Of some deposits, one of a day follows those of earlier days, each in its last revision, from the latest full one on.
pub record IsFollowed (names : List Name) (day : ℕ) (one : Name) : Type 0 where
  pub earlier : one.day < day
  pub last : ¬ IsTrue (is_replaced names one)
  pub since : ¬ IsTrue (is_before_full names day one)

-- why it does not follow one of them
abbrev pub IsLeftOut : List Name → Name → Name → LeftOut → Type 0
IsLeftOut names name one Itself = one ≡ name
IsLeftOut names name one NotEarlier = name.day ≤ one.day
IsLeftOut names name one Replaced = IsTrue (is_replaced names one)
IsLeftOut names name one BeforeFull = IsTrue (is_before_full names name.day one)

-- a deposit of this name follows one of them, which is of its registry
abbrev pub IsFollowedBy : Name → List Name → Name → Type 0
IsFollowedBy name names one = (one.tld ≡ name.tld) × IsFollowed names name.day one

-- it follows them all, and they stand by day
pub record AreFollowed (name : Name) (names : List Name) : Type 0 where
  pub each : All (IsFollowedBy name names) names
  pub rising : AllAdjacentBelow (λ one next. one.day < next.day) names (length names)
