-- What is kept with its bytes was received so.
use Rattle.std.proofs.Common.{◌≡◌, ℕ, List, [], ◌∷◌, Some, Bool, true, false, ◌⊎◌, inl, inr, refl, sym, ◌∙◌, ap, cond, Ok}
use Rattle.std.specs.FinMap.{get}
use Rattle.deposit_name.specs.Name.{Name}
use Rattle.custody_records.specs.Keys.{PartKey, part_cmp}
use Rattle.custody_records.specs.Records.{key_of}
use Rattle.custody_machine.specs.NameReading.{read_name}
use Rattle.schedule.specs.Schedule.{day_of}
use Rattle.custody_machine.specs.State.{State, Part, Held, Dropped}
use Rattle.custody_machine.specs.Machine.{Command, Receive, Lift, Purge, content_len, part_dropped_if_due, is_due_part, without_bytes, state_without_due, TimedCommand, Step, Refuse, Accept, step, state_of, state_after, received_part, state_with_part}
use Rattle.custody_machine.specs.History.{WasReceived, HeldAsReceived}
use Rattle.custody_records.specs.inside.Orders.{part_total, part_exact}
use Rattle.custody_machine.proofs.MapValues.{get-map_keyed}
use Rattle.custody_machine.proofs.Options.{mapped}
use Rattle.custody_machine.proofs.Accepting.{Makes, by_outcome, inserted}

-- a new part is the one received, or another that was kept
by_key : (s : State) (entries : List TimedCommand) (key : PartKey) (part : Part) (bytes text others : List ℕ) (name : Name) (now : ℕ) → part.content ≡ Held bytes → read_name text ≡ Ok name
    → get (state_with_part s (key_of name) (received_part name others now)).parts key ≡ Some part → (get s.parts key ≡ Some part) ⊎ WasReceived ((Receive text others, now) ∷ entries) key part bytes
by_key s entries key part bytes text others name now held named there =
    inserted part_total part_exact s.parts (key_of name) (received_part name others now) (λ q p. p.content ≡ Held bytes → (get s.parts q ≡ Some p) ⊎ WasReceived ((Receive text others, now) ∷ entries) q p bytes)
    (λ holds. let all : others ≡ bytes = cc in inr ([], entries, text, name, (λ i. (Receive text (all i), now) ∷ entries), named, refl, refl)) (λ q p at holds. inl at) key part there held

-- a part that is held after bytes were dropped was held before
held_before : (s : State) (today : ℕ) (key : PartKey) (part : Part) (bytes : List ℕ) → part.content ≡ Held bytes → get (state_without_due s today).parts key ≡ Some part → get s.parts key ≡ Some part
held_before s today key part bytes held at =
    let old = mapped (part_dropped_if_due s.holds today key) (get s.parts key) part (sym (get-map_keyed part_cmp part_exact (part_dropped_if_due s.holds today) s.parts key) ∙ at) in
    old.1 ∙ ap Some (kept old.0 (is_due_part s.holds today key old.0) old.2)
  where
    kept : (old : Part) (b : Bool) → cond b (without_bytes old) old ≡ part → old ≡ part
    kept old true e = let clash : Dropped (content_len old.content) ≡ Held bytes = ap (λ (p : Part). p.content) e ∙ held in cc
    kept old false e = e

-- a step keeps the part, or received it
module _ (s : State) (now : ℕ) (rest : List TimedCommand) (key : PartKey) (part : Part) (bytes : List ℕ) (held : part.content ≡ Held bytes) where
  abbrev IsKeptOrReceived : Command → State → Type 0
  IsKeptOrReceived command new = get new.parts key ≡ Some part → (get s.parts key ≡ Some part) ⊎ WasReceived ((command, now) ∷ rest) key part bytes

  by_step : (command : Command) (r : Step) → step s command now ≡ r → IsKeptOrReceived command (state_of s r)
  by_step command (Refuse q) e = inl
  by_step command (Accept reply new) e = by_outcome s command now (λ _ new. IsKeptOrReceived command new) (λ kept none at. inl) (λ none at. made command) reply new e
    where
      made : (command : Command) → Makes (λ _ new. IsKeptOrReceived command new) s command now
      made (Receive text others) = λ name named stand fresh. by_key s rest key part bytes text others name now held named
      made (Lift reference) = λ hold there standing. inl
      made Purge = λ at. inl (held_before s (day_of now) key part bytes held at)
      made command = inl

pub held_as_received : (first : State) → HeldAsReceived first
held_as_received s [] key part bytes at held = inl at
held_as_received s (e ∷ entries) key part bytes at held = by (held_as_received (state_after s e.0 e.1) entries key part bytes at held)
  where
    by : (get (state_after s e.0 e.1).parts key ≡ Some part) ⊎ WasReceived entries key part bytes → (get s.parts key ≡ Some part) ⊎ WasReceived (e ∷ entries) key part bytes
    by (inl here) = by_step s e.1 entries key part bytes held e.0 (step s e.0 e.1) refl here
    by (inr w) = inr (e ∷ w.0, w.1, w.2, w.3, (λ i. e ∷ w.4 i), w.5, w.6, w.7)
