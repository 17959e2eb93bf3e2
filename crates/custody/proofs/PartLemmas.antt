-- A new part, as it is staged and recorded.
use Rattle.std.proofs.Common.{◌≡◌, ℕ, ℤ, pos, negsuc, ◌<◌, ◌≤◌, List, [], ◌∷◌, length, Some, None, true, sym, ◌∙◌, ap, subst, arith, Ok}
use Rattle.std.specs.Prelude.{All}
use Rattle.std.specs.FinMap.{get}
use Rattle.std.specs.Str.{bytes_eq}
use Rattle.std.specs.Int.{w64, to_be_bytes}
use Rattle.std.proofs.lemmas.Bool.{and_parts}
use Rattle.std.proofs.lemmas.Bool.Decides.{nat_tests}
use Rattle.hex.specs.Hex.{encode_lower}
use Rattle.sha2.proofs.Facts256.{length-sha256}
use Rattle.schedule.specs.Schedule.{IsMoment}
use Rattle.deposit_name.specs.Name.{Name}
use Rattle.extent_map.specs.declared.extent.Extent.{Extent}
use Rattle.vault_volume.specs.Extents.{IsExtentOf, block_count, blocks_of}
use Rattle.extent_map.specs.Staged.{StagedPart}
use Rattle.custody_records.specs.Records.{Records, key_of, with_part, staged_record}
use Rattle.custody_records.specs.Rows.{Rows, with_part_row}
use Rattle.custody_records.specs.Form.{natural, is_number, is_within, number_in, form_of, InForm}
use Rattle.custody_records.specs.RowsOfRecords.{HasWords, AreWritable, IsPart, row_of_part}
use Rattle.custody_records.proofs.FormLemmas.{in_form_has, part_inserted}
use Rattle.custody_records.proofs.ReadBack.{part_read_back}
use Rattle.custody_machine.specs.NameReading.{read_name}
use Rattle.custody_machine.specs.Custody.{IsPlaced}
use Rattle.custody_machine.proofs.NameReading.{read_is}

-- ---- the row of a staged part

-- a volume of rows in form has few blocks
pub blocks_bound : (rows : Rows) (records : Records) → form_of rows ≡ InForm records → records.blocks ≤ 262_144
blocks_bound rows records e =
    let h = in_form_has rows records e in
    let later = (and_parts (is_number 1 h.meta.one) _ h.in_form).1 in
    let within = (and_parts (bytes_eq h.meta.number (encode_lower (to_be_bytes w64 (number_in h.meta.number)))) (is_within 2 262_144 h.meta.blocks) later).1 in
    subst (λ n. n ≤ 262_144) h.blocks (bound h.meta.blocks within)
  where
    bound : (z : ℤ) → is_within 2 262_144 z ≡ true → natural z ≤ 262_144
    bound (pos n) e = grind (arith, nat_tests)
    bound (negsuc n) e = cc

-- extents of a small volume can be written, where there is one
writable : (size count : ℕ) (extents : List Extent) → size ≤ 262_144 → All (IsExtentOf size) extents → blocks_of extents ≡ count → 1 ≤ count → AreWritable (Some extents)
writable size count [] small each counts some = let none : 0 ≡ count = counts in absurd (omega (arith, none))
writable size count (e ∷ extents) small each counts some = λ k d lt. words (each k d lt)
  where
    words : {x : Extent} → IsExtentOf size x → HasWords x
    words h = let start = h.0 in let fits = h.2 in (omega arith, omega arith)

module _ (n : Name) (now size : ℕ) (was_free is_free : ℕ → Type 0) (bytes : List ℕ) (staged : StagedPart) (p : IsPlaced size was_free is_free bytes staged) where
  is_part : (text : List ℕ) → read_name text ≡ Ok n → IsMoment now → size ≤ 262_144 → (0 < length bytes) × (length bytes ≤ 1_048_576) → IsPart (key_of n) (staged_record n now staged)
  is_part text named moment small sized = let name = (read_is text n named).0 in record {
    tld = name.tld;
    day = name.day;
    rev = name.rev;
    place = name.part;
    received = moment;
    len = let low = sized.0 in let high = sized.1 in let is = p.len in (omega arith, omega arith);
    digest = ap length p.digest ∙ length-sha256 bytes;
    extents = writable size (block_count (length bytes)) staged.extents small p.chosen.within p.chosen.adds_up (let low = sized.0 in omega (arith, low));
  }

  -- its row is read as its record
  pub part_means : (rows : Rows) (records : Records) (text : List ℕ) → form_of rows ≡ InForm records → read_name text ≡ Ok n → IsMoment now → size ≡ records.blocks → (0 < length bytes) × (length bytes ≤ 1_048_576) → get records.parts (key_of n) ≡ None
      → form_of (with_part_row (row_of_part (key_of n) (staged_record n now staged)) rows) ≡ InForm (with_part records (key_of n) (staged_record n now staged))
  part_means rows records text is named moment blocks sized fresh =
      part_inserted rows records is (row_of_part (key_of n) (staged_record n now staged)) (key_of n) (staged_record n now staged)
      (part_read_back (key_of n) (staged_record n now staged) (is_part text named moment (subst (λ b. b ≤ 262_144) (sym blocks) (blocks_bound rows records is)) sized)) fresh
