-- What a stop leaves of the example within the request of its part.
use Rattle.std.proofs.Common.{◌≡◌, ℕ, suc, pos, zero, Some, is_some, codes, refl, sym, ◌∙◌, ap, subst, arith}
use Rattle.std.specs.Prelude.{All}
use Rattle.std.specs.FinMap as fin
use Rattle.std.specs.FinMap.{get-empty}
use Rattle.sha2.proofs.Facts256.{length-sha256}
use Rattle.deposit_name.proofs.IdentifierLemmas.{is_tld-IsTld}
use Rattle.extent_map.specs.Extents.{IsExtentOf}
use Rattle.custody_records.specs.Keys.{text_cmp, part_cmp}
use Rattle.custody_records.specs.inside.Orders.{text_total}
use Rattle.custody_records.specs.Records.{Records, new_records, with_part}
use Rattle.custody_records.specs.Rows.{Rows, initial_rows, with_part_row, with_registry_row}
use Rattle.custody_records.specs.RowsOfRecords.{HasWords, digits_of, row_of_registry, row_of_part}
use Rattle.custody_records.specs.Form.{form_of, InForm, part_in}
use Rattle.custody_records.proofs.ReadBack.{part_read_back}
use Rattle.custody_records.proofs.FormLemmas.{InForm-injective, fresh_in_form, registry_inserted, part_inserted}
use Rattle.custody_machine.specs.State.{State}
use Rattle.custody_machine.specs.Machine.{Command}
use Rattle.custody_machine.specs.History.{Opened, OpenedWith, StoppedAtRest, StoppedWithin, IsFoundWithin}
use Rattle.custody_machine.specs.StoredState.{AreWhole, AreWholeOnVolume, HasDigests, IsSound, state_in}
use Rattle.custody_machine.specs.Moves.{Left, Moves, Finds}
use Rattle.custody_machine.specs.Examples.{pair_of}
use Rattle.custody_machine.specs.ExampleLife.{example_part_key, example_tld}
use Rattle.custody_machine.proofs.Accepting.{insert_here}
use Rattle.custody_machine.proofs.Moves.{finds_some}
use Rattle.custody_machine.proofs.Stored.{IsInPlace, whole-with_registry, whole-with_part}
use Rattle.custody.proofs.Opened.{new_whole}
use Rattle.theorems.specs.ExampleService.{state_of_registry, state_of_part}
use Rattle.theorems.proofs.ExamplePlaces.{Parts, AreIn, AreKept, records_at, state_at, place_at, same_kept, image, head_at, length-image, second_block, no_parts, none_at, one_part, held_record, none_digests, none_on_volume, held_digests, held_on_volume}

-- ---- the registry alone, and with its part

abbrev bare : Records
bare = new_records 1 2

abbrev registry_records : Records
registry_records = records_at state_of_registry no_parts

pub registry_rows : Rows
registry_rows = with_registry_row (row_of_registry example_tld 20_667) (initial_rows (digits_of 1) (pos 2))

registry_in_form : form_of registry_rows ≡ InForm registry_records
unfolding registry_rows
registry_in_form = registry_inserted (initial_rows (digits_of 1) (pos 2)) bare (fresh_in_form 1 2 (omega arith) (omega arith) (omega arith)) (row_of_registry example_tld 20_667) example_tld 20_667 refl (get-empty text_cmp example_tld)

registry_whole : AreWhole registry_records
registry_whole = whole-with_registry bare example_tld 20_667 (new_whole 1 2)

pub part_rows : Rows
part_rows = with_part_row (row_of_part example_part_key held_record) registry_rows

abbrev part_records : Records
part_records = with_part registry_records example_part_key held_record

part_row : part_in (row_of_part example_part_key held_record) ≡ Some (example_part_key, held_record)
part_row = part_read_back example_part_key held_record (record {
  tld = (is_tld-IsTld example_tld).0 refl;
  day = (omega arith, omega arith);
  rev = omega arith;
  place = (omega arith, omega arith);
  received = omega arith;
  len = (omega arith, omega arith);
  digest = length-sha256 (codes "hello");
  extents = words;
})
  where
    words : All HasWords second_block
    words zero d lt = (omega arith, omega arith)
    words (suc k) d lt = absurd (omega (arith, lt))

part_in_form : form_of part_rows ≡ InForm part_records
unfolding part_rows
part_in_form = part_inserted registry_rows registry_records registry_in_form (row_of_part example_part_key held_record) example_part_key held_record part_row (get-empty part_cmp example_part_key)

in_volume : All (IsExtentOf 2) second_block
in_volume zero d lt = (omega arith, omega arith, omega arith)
in_volume (suc k) d lt = absurd (omega (arith, lt))

in_place : IsInPlace registry_records example_part_key held_record second_block
in_place = record {
  held = refl;
  range = record { each = in_volume; counts = refl };
  apart = (λ b here none. none, tt);
  unnamed = λ b here named. none_at named.0 named.1 named.2;
  registry = ap is_some (insert_here text_total fin.empty example_tld 20_667);
  fresh = get-empty part_cmp example_part_key;
  series = λ n e. absurd (omega (arith, e));
  due = λ lt. absurd (omega (arith, lt));
}

part_whole : AreWhole part_records
part_whole = whole-with_part registry_records example_part_key held_record second_block in_place registry_whole

-- ---- stops, and openings of what they leave

-- the rows are these records of a state, and an opening gives them
pub record IsLeft (rows : Rows) (state : State) (parts : Parts) : Type 0 where
  pub in_form : form_of rows ≡ InForm (records_at state parts)
  pub whole : AreWhole (records_at state parts)
  pub here : AreIn state parts

module _ (rows : Rows) (state : State) (parts : Parts) (left : IsLeft rows state parts) where
  is_state : state_in (records_at state parts) image ≡ state
  is_state = state_at state parts left.here.on_volume

  good : AreWholeOnVolume (records_at state parts) image
  good = record { whole = left.whole; volume = record { head = head_at; size = length-image } }

  sound : IsSound rows image
  sound records is = subst (HasDigests image) (InForm-injective (records_at state parts) records (sym left.in_form ∙ is)) left.here.digests

  finds : Finds rows image (pair_of state)
  finds = finds_some rows image state (record { records = records_at state parts; in_form = left.in_form; good = good; meaning = sym is_state }) sound

  pub stop_move : (old : State) (before : Parts) (command : Command) (now : ℕ) → AreIn old before → AreKept before parts → IsFoundWithin old command now state
      → Moves (place_at old before) (StoppedWithin command now (pair_of state)) (Left rows image)
  stop_move old before command now here kept found =
      let was = state_at old before here.on_volume in
      let within = subst (λ s. IsFoundWithin s command now (state_in (records_at state parts) image)) (sym was) (subst (IsFoundWithin old command now) (sym is_state) found) in (
        rows,
        image,
        record { records = records_at state parts; in_form = left.in_form; good = good; keeps = record { kept = kept; digests = λ key has. left.here.digests key }; state = within },
        finds,
        refl,
      )

  -- a stop between two commands
  pub rest_move : Moves (place_at state parts) (StoppedAtRest (pair_of state)) (Left rows image)
  rest_move = (
    rows,
    image,
    record { records = records_at state parts; in_form = left.in_form; good = good; keeps = record { kept = same_kept parts; digests = λ key has. has }; state = refl },
    finds,
    refl,
  )

  pub opening_move : Moves (Left rows image) (OpenedWith (pair_of state) (Opened state)) (place_at state parts)
  opening_move = (finds, (records_at state parts, left.in_form, good, sym is_state, refl))

pub registry_left : IsLeft registry_rows state_of_registry no_parts
registry_left = record { in_form = registry_in_form; whole = registry_whole; here = record { digests = none_digests; on_volume = none_on_volume } }

pub part_left : IsLeft part_rows state_of_part (one_part held_record)
part_left = record { in_form = part_in_form; whole = part_whole; here = record { digests = held_digests; on_volume = held_on_volume } }
