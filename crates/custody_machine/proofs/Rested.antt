-- A call that is no command, in an open custody: it changes no record, and writes free blocks at most.
use Rattle.std.proofs.Common.{◌≡◌, ℕ, List, None, Bool, true, false, refl, sym, ◌∙◌, ap}
use Rattle.vault_volume.specs.Image.{DiffersOnlyIn}
use Rattle.custody_records.specs.Records.{Records}
use Rattle.custody_records.specs.Rows.{Rows}
use Rattle.custody_records.specs.Form.{form_of, InForm}
use Rattle.custody_machine.specs.StoredState.{IsPartBlock, AreWholeOnVolume, state_in, KeepsParts}
use Rattle.custody_machine.specs.Moves.{Place, Serving, Shut, MayLeave, Moves}
use Rattle.custody_machine.specs.Custody.{IsInOrder, IsOnVolume, IsInStore, IsAtPlace, other_call_event, AnswersOtherCall}
use Rattle.custody_machine.proofs.Stored.{state_in-elsewhere, digest-elsewhere, keeps_same}
use Rattle.custody_machine.proofs.Composed.{opens_same, opens_later, named_used, head_used, good_now}

back : (free : ℕ → Type 0) (i j : List ℕ) → DiffersOnlyIn free i j → DiffersOnlyIn free j i
back free i j d = record { same_length = sym d.same_length; elsewhere = λ k outside. sym (d.elsewhere k outside) }

module _ (records : Records) (rows : Rows) (i : List ℕ) (size failures : ℕ) (free : ℕ → Type 0) (is_ready : Type 0) (left_rows : Rows → Type 0) (left_images : List ℕ → Type 0)
    (order : IsInOrder records size failures free) (volume : IsOnVolume records i free left_images) (store : IsInStore records rows is_ready left_rows) (later : List ℕ) (moved : DiffersOnlyIn free i later) where
  unnamed : (b : ℕ) → IsPartBlock records b → ¬ free b
  unnamed = named_used records size failures free order

  head : ¬ free 0
  head = head_used records size failures free order

  good : AreWholeOnVolume records i
  good = good_now records rows i size failures free is_ready left_rows left_images order volume store

  same_state : state_in records later ≡ state_in records i
  same_state = state_in-elsewhere free records i later moved unnamed

  keeps : KeepsParts records i records later
  keeps = keeps_same records i later (digest-elsewhere free records i later moved unnamed)

  keeps_back : KeepsParts records later records i
  keeps_back = keeps_same records later i (digest-elsewhere free records later i (back free i later moved) unnamed)

  abbrev place_then : Bool → Place
  place_then true = Serving records later
  place_then false = Shut records i None

  moves_then : (is_open : Bool) → Moves (Serving records i) (other_call_event is_open) (place_then is_open)
  moves_then true = (later, same_state, keeps, refl)
  moves_then false = refl

  is_there : (is_open : Bool) (new : Records) → (is_open ≡ true → new ≡ records) → IsAtPlace is_open new later (place_then is_open)
  is_there true new same = (sym (same refl), refl)
  is_there false new same = tt

  leaves_then : (is_open : Bool) (r : Rows) (j : List ℕ) → form_of r ≡ InForm records → DiffersOnlyIn free i j → MayLeave (place_then is_open) r j
  leaves_then true r j is differs = opens_later records free i good unnamed head records later (λ found. found ≡ state_in records later) r j keeps_back is differs (sym same_state)
  leaves_then false r j is differs = opens_same records free i good unnamed head (λ found. found ≡ state_in records i) r j is differs refl

  pub rests : (is_open : Bool) (new : Records) (since : List ℕ → Type 0) (rows_then : Rows → Type 0) (images_then : List ℕ → Type 0) → (is_open ≡ true → new ≡ records)
      → ((j : List ℕ) → since j → DiffersOnlyIn free i j) → ((r : Rows) → rows_then r → left_rows r) → ((j : List ℕ) → images_then j → DiffersOnlyIn free i j)
      → AnswersOtherCall (record { records = records; image = i }) is_open (record { records = new; image = later }) (record { rows_before = left_rows; images_since = since; rows_then = rows_then; images_then = images_then })
  rests is_open new since rows_then images_then same during rows_same images_same = record {
    next = place_then is_open;
    moves = moves_then is_open;
    is_at = is_there is_open new same;
    leaves = record {
      within = λ r j left w. leaves_then false r j (in_form r left) (during j w);
      at_exit = λ r j left w. leaves_then is_open r j (in_form r (rows_same r left)) (images_same j w);
    };
  }
    where
      in_form : (r : Rows) → left_rows r → form_of r ≡ InForm records
      in_form r left = ap form_of (store.settled r left) ∙ store.in_form
