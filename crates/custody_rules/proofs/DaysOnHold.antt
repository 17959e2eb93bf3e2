-- Days on hold, gathered hold by hold.
use Rattle.std.proofs.Common.{◌≡◌, ℕ, ◌+◌, ◌<◌, List, length, get_or, take, Bool, true, false, ◌&&◌, ◌||◌, ◌==◌, cond, refl, sym, ◌∙◌, ap, is_none, is_some, Option, Some, None, arith}
use Rattle.std.specs.BTreeMap.{is_at}
use Rattle.std.specs.List.{list_any}
use Rattle.std.specs.Ordering.{is_eq, nat_cmp, ordering_then}
use Rattle.std.specs.Str.{bytes_eq}
use Rattle.std.specs.declared.cmp.Ordering.{Ordering}
use Rattle.std.specs.declared.cmp.Ordering.TheVariants.{Less, Equal, Greater}
use Rattle.std.proofs.lemmas.Grind.{common_steps}
use Rattle.std.proofs.lemmas.List.Folds.{list_any_more}
use Rattle.std.proofs.lemmas.Map.Text.{is_eq-slice_cmp}
use Rattle.custody_records.specs.Keys.{PartKey, text_cmp}
use Rattle.custody_records.specs.Purge.{is_hold_of_part}
use Rattle.custody_records.specs.TypedRecords.{hold_entry}
use Rattle.custody_records.specs.declared.holds.Hold.{Hold}
use Rattle.custody_rules.specs.inside.DaysOnHold.{registry_day_of}
use Rattle.custody_rules.specs.inside.Orders.{registry_day_cmp}

-- the part's day is that of one of the holds that is not lifted
abbrev pub is_held_by : List Hold → PartKey → Bool
is_held_by holds key = list_any (λ (hold : Hold). is_hold_of_part key (hold_entry hold)) holds

both_equal : (a b : Ordering) → is_eq (ordering_then a b) ≡ (is_eq a && is_eq b)
both_equal Less b = refl
both_equal Equal b = refl
both_equal Greater b = refl

same_number : (a b : ℕ) → is_eq (nat_cmp a b) ≡ (a == b)
same_number a b = grind (arith, common_steps)

same_day : (tld other : List ℕ) (day later : ℕ) → is_eq (registry_day_cmp (record { tld = tld; day = day }) (record { tld = other; day = later })) ≡ (bytes_eq tld other && day == later)
same_day tld other day later = both_equal (text_cmp tld other) (nat_cmp day later) ∙ (λ i. is_eq-slice_cmp tld other i && same_number day later i)

either : (a b : Bool) → cond a true b ≡ (b || a)
either true true = refl
either true false = refl
either false true = refl
either false false = refl

standing : (lifted : Option ℕ) → is_some lifted ≡ false → (b : Bool) → b ≡ (is_none lifted && b)
standing None stands b = refl
standing (Some at) stands b = cc

passed : (lifted : Option ℕ) → is_some lifted ≡ true → (before b : Bool) → before ≡ (before || (is_none lifted && b))
passed None lifted before b = cc
passed (Some at) lifted true b = refl
passed (Some at) lifted false b = refl

module _ (key : PartKey) (holds : List Hold) (count : ℕ) (hold : Hold) (within : count < length holds) (next : get_or holds count hold ≡ hold) (before : Bool) (is : before ≡ is_held_by (take count holds) key) where
  one_more : is_held_by (take (count + 1) holds) key ≡ (before || is_hold_of_part key (hold_entry hold))
  one_more =
      list_any_more (λ (h : Hold). is_hold_of_part key (hold_entry h)) holds count hold within
      ∙ λ i. sym is i || is_hold_of_part key (hold_entry (next i))

  -- a hold that stands puts its day on hold
  pub standing_more : is_some hold.lifted ≡ false
      → cond (is_at (registry_day_cmp (record { tld = hold.tld; day = hold.day })) (registry_day_of key)) true before ≡ is_held_by (take (count + 1) holds) key
  standing_more stands =
      either _ before
      ∙ ap (λ b. before || b) (same_day hold.tld key.tld hold.day key.day ∙ standing hold.lifted stands (bytes_eq hold.tld key.tld && hold.day == key.day))
      ∙ sym one_more

  -- one that was lifted changes nothing
  pub lifted_past : is_some hold.lifted ≡ true → before ≡ is_held_by (take (count + 1) holds) key
  lifted_past lifted = passed hold.lifted lifted before (bytes_eq hold.tld key.tld && hold.day == key.day) ∙ sym one_more
