-- Of commands, each once, exactly one has the key of one that is among them.
use Rattle.std.proofs.Common.{◌≡◌, ℕ, ◌+◌, List, [], ◌∷◌, ◌++◌, is_some, Bool, true, false, ◌||◌, refl, sym, ◌∙◌, ap, cond, if◌then◌else◌, zero-add}
use Rattle.std.specs.Prelude.{count_by}
use Rattle.std.specs.List.{list_any}
use Rattle.std.proofs.lemmas.List.Folds.{list_any-append}
use Rattle.std.proofs.lemmas.List.Sums.{sum_by-cons}
use Rattle.custody_machine.specs.Machine.{Command, TimedCommand}
use Rattle.custody_machine.specs.Retries.{are_same_keys, has_same_key, command_key, once_after}
use Rattle.custody_machine.proofs.Retries.{keys_are_compared}

module _ (command : Command) where
  abbrev has_it : TimedCommand → Bool
  has_it entry = has_same_key command entry.0

  abbrev count_in : List TimedCommand → ℕ
  count_in entries = count_by has_it entries

  -- what has the same key is compared alike
  alike : (other : Command) → has_same_key command other ≡ true → (earlier : List Command) → list_any (has_same_key other) earlier ≡ list_any (has_same_key command) earlier
  alike other same earlier = ap (λ k. list_any (λ (c : Command). are_same_keys k (command_key c)) earlier) (sym ((keys_are_compared command other).0 same).1)

  counted : (entry : TimedCommand) (entries : List TimedCommand) (b : Bool) (n : ℕ) → has_it entry ≡ b → count_in entries ≡ n → count_in (entry ∷ entries) ≡ cond b 1 0 + n
  counted entry entries b n has is = sum_by-cons (λ (e : TimedCommand). cond (has_it e) 1 0) entry entries ∙ (λ i. cond (has i) 1 0 + is i)

  -- one is left where one has the key, and none where an earlier one had it
  left : (earlier : List Command) (entries : List TimedCommand) → count_in (once_after earlier entries) ≡ cond (list_any (has_same_key command) earlier) 0 (cond (list_any has_it entries) 1 0)
  left earlier [] = none (list_any (has_same_key command) earlier)
    where
      none : (b : Bool) → ◌≡◌ {A = ℕ} 0 (cond b 0 0)
      none true = refl
      none false = refl
  left earlier (entry ∷ entries) = by (list_any (has_same_key entry.0) earlier) refl (has_it entry) refl (left earlier entries) (left (entry.0 ∷ earlier) entries)
    where
      had : Bool
      had = list_any (has_same_key command) earlier

      more : ℕ
      more = cond (list_any has_it entries) 1 0

      by : (seen : Bool) → list_any (has_same_key entry.0) earlier ≡ seen → (has : Bool) → has_it entry ≡ has → count_in (once_after earlier entries) ≡ cond had 0 more
          → count_in (once_after (entry.0 ∷ earlier) entries) ≡ cond (has_it entry || had) 0 more
          → count_in (if seen then once_after earlier entries else entry ∷ once_after (entry.0 ∷ earlier) entries) ≡ cond had 0 (cond (has || list_any has_it entries) 1 0)
      by true seen true is skipped taken = let known : had ≡ true = sym (alike entry.0 is earlier) ∙ seen in skipped ∙ (λ i. cond (known i) 0 more) ∙ sym (λ i. cond (known i) 0 1)
      by true seen false is skipped taken = skipped
      by false seen true is skipped taken =
          let known : had ≡ false = sym (alike entry.0 is earlier) ∙ seen in
          counted entry (once_after (entry.0 ∷ earlier) entries) true 0 is (taken ∙ ap (λ b. cond (b || had) 0 more) is) ∙ sym (λ i. cond (known i) 0 1)
      by false seen false is skipped taken = counted entry (once_after (entry.0 ∷ earlier) entries) false (cond had 0 more) is (taken ∙ ap (λ b. cond (b || had) 0 more) is) ∙ zero-add _

  -- a command that stands among others stands there once
  pub counted_once : (before behind : List TimedCommand) (now : ℕ) → is_some (command_key command) ≡ true → count_in (once_after [] ((before ++ (command, now) ∷ []) ++ behind)) ≡ 1
  counted_once before behind now keyed =
      left [] ((before ++ (command, now) ∷ []) ++ behind)
      ∙ ap (λ b. cond b 1 0) (list_any-append has_it (before ++ (command, now) ∷ []) behind
      ∙ ap (λ b. b || list_any has_it behind) (list_any-append has_it before ((command, now) ∷ []) ∙ last (list_any has_it before)))
    where
      last : (b : Bool) → (b || list_any has_it ((command, now) ∷ [])) ≡ true
      last true = refl
      last false = ap (λ c. c || false) ((keys_are_compared command command).1 (keyed, refl))
