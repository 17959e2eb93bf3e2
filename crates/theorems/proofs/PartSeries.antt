-- In each state that the machine reaches the parts of a revision are there from the first on.
use Rattle.std.proofs.Common.{◌≡◌, ℕ, zero, suc, ◌+◌, ◌<◌, ◌==◌, List, [], ◌∷◌, Option, Some, None, Bool, true, false, not, ◌&&◌, cond, is_none, is_some, refl, sym, ◌∙◌, ap, arith}
use Rattle.std.specs.Prelude.{option_map}
use Rattle.std.specs.Cmp.{Equal-is}
use Rattle.std.specs.FinMap.{get, get-empty, get-insert}
use Rattle.std.specs.Ordering.{eq_by_cmp}
use Rattle.std.proofs.lemmas.Bool.{not-false}
use Rattle.std.proofs.lemmas.Bool.Decides.{Decides-eqb}
use Rattle.schedule.specs.Schedule.{day_of}
use Rattle.deposit_name.specs.Name.{Name}
use Rattle.custody_records.specs.Keys.{PartKey, part_cmp}
use Rattle.custody_records.specs.Records.{key_of}
use Rattle.custody_records.specs.inside.Orders.{part_total, part_exact}
use Rattle.custody_machine.specs.State.{State, Part, empty, key_with_part}
use Rattle.custody_machine.specs.Machine.{Command, Receive, Lift, Purge, Step, Refuse, Accept, TimedCommand, after, count_parts, part_at, part_dropped_if_due, revision_part, state_after, state_of, state_with_part, state_without_due, step}
use Rattle.custody_machine.proofs.Accepting.{Makes, by_outcome, some_still}
use Rattle.custody_machine.proofs.MapValues.{get-map_keyed}
use Rattle.custody_machine.proofs.Series.{first_taken, prior_taken}

-- where a place but the first has a part, the one before has
abbrev pub IsSeries : State → Type 0
IsSeries s = (key : PartKey) (n : ℕ) → is_some (part_at s (key_with_part key (suc (suc n)))) ≡ true → is_some (part_at s (key_with_part key (suc n))) ≡ true

-- so a revision that has parts has the first
pub first_there : (s : State) → IsSeries s → (name : Name) → (count_parts s name == 0) ≡ false → is_some (revision_part s name 1) ≡ true
first_there s series name some = first_taken (λ place. is_some (revision_part s name place)) (series (key_of name)) (positive (count_parts s name) some)
  where
    positive : (n : ℕ) → (n == 0) ≡ false → 0 < n
    positive zero e = cc
    positive (suc n) e = omega arith

module _ (s : State) (series : IsSeries s) where
  after_part : (name : Name) (part : Part) → count_parts s name + 1 ≡ name.part → IsSeries (state_with_part s (key_of name) part)
  after_part name part next key n there =
      some_still part_total s.parts (key_of name) part (key_with_part key (suc n)) (by (eq_by_cmp part_cmp (key_with_part key (suc (suc n))) (key_of name)) refl (ap is_some (sym (get-insert part_total s.parts (key_of name) part (key_with_part key (suc (suc n))))) ∙ there))
    where
      by : (b : Bool) → eq_by_cmp part_cmp (key_with_part key (suc (suc n))) (key_of name) ≡ b → is_some (cond b (Some part) (get s.parts (key_with_part key (suc (suc n))))) ≡ true → is_some (get s.parts (key_with_part key (suc n))) ≡ true
      by true t there =
          let same : key_with_part key (suc (suc n)) ≡ key_of name = part_exact (key_with_part key (suc (suc n))) (key_of name) ((Equal-is (part_cmp (key_with_part key (suc (suc n))) (key_of name))).0 t) in
          ap (λ (k : PartKey). is_some (get s.parts (key_with_part k (suc n)))) same
          ∙ (prior_taken (λ place. is_some (revision_part s name place)) (series (key_of name)) name.part n next (ap (λ (k : PartKey). k.part) (sym same))).0
      by false t there = series key n there

  after_purge : (today : ℕ) → IsSeries (state_without_due s today)
  after_purge today key n there = still (key_with_part key (suc n)) ∙ series key n (sym (still (key_with_part key (suc (suc n)))) ∙ there)
    where
      there_still : (k : PartKey) (o : Option Part) → is_some (option_map (part_dropped_if_due s.holds today k) o) ≡ is_some o
      there_still k None = refl
      there_still k (Some part) = refl

      still : (k : PartKey) → is_some (part_at (state_without_due s today) k) ≡ is_some (part_at s k)
      still k = ap is_some (get-map_keyed part_cmp part_exact (part_dropped_if_due s.holds today) s.parts k) ∙ there_still k (get s.parts k)

  makes : (c : Command) (now : ℕ) → Makes (λ _ new. IsSeries new) s c now
  makes (Receive text bytes) now = λ name named stand fresh. after_part name _ ((Decides-eqb (count_parts s name + 1) name.part).0
      (not-false (count_parts s name + 1 == name.part) (ap (λ o. is_none o && not (count_parts s name + 1 == name.part)) (sym fresh) ∙ stand.order)))
  makes (Lift reference) now = λ hold there standing. series
  makes Purge now = after_purge (day_of now)
  makes c now = series

  series_then : (c : Command) (now : ℕ) → IsSeries (state_after s c now)
  series_then c now = by (step s c now) refl
    where
      by : (r : Step) → step s c now ≡ r → IsSeries (state_of s r)
      by (Refuse refusal) e = series
      by (Accept reply new) e = by_outcome s c now (λ _ new. IsSeries new) (λ entry none at. series) (λ none at. makes c now) reply new e

series_after : (s : State) → IsSeries s → (entries : List TimedCommand) → IsSeries (after s entries)
series_after s series [] = series
series_after s series (entry ∷ entries) = series_after (state_after s entry.0 entry.1) (series_then s series entry.0 entry.1) entries

none_at_first : IsSeries empty
none_at_first key n there = let clash : false ≡ true = sym (ap is_some (get-empty {X = Part} part_cmp (key_with_part key (suc (suc n))))) ∙ there in cc

pub are_series : (commands : List TimedCommand) → IsSeries (after empty commands)
are_series commands = series_after empty none_at_first commands
