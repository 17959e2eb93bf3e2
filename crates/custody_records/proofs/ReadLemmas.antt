-- What a row stands for, from what its fields are read as.
use Rattle.std.proofs.Common.{◌≡◌, ℕ, zero, suc, ℤ, pos, ◌-◌, ◌+◌, ◌≤◌, ◌==◌, List, [], ◌∷◌, ◌++◌, length, get_or, take, drop, Bool, true, false, cond, Option, Some, None, refl, sym, ◌∙◌, ap, arith, append_assoc, length-drop}
use Rattle.std.specs.Prelude.{option_map}
use Rattle.std.proofs.lemmas.Bool.Decides.{nat_tests}
use Rattle.std.specs.Int.{w32, from_be_bytes}
use Rattle.deposit_name.specs.Name.{Name}
use Rattle.desk.specs.declared.checks.Check.{Check}
use Rattle.desk.specs.declared.notices.NoticeKind.TheVariants.{Failure}
use Rattle.extent_map.specs.declared.extent.Extent.{Extent}
use Rattle.custody_records.specs.Records.{key_of}
use Rattle.custody_records.specs.Rows.{PartRow, NoticeRow}
use Rattle.deposit_name.specs.Identifiers.{is_deposit_id}
use Rattle.custody_records.specs.Form.{natural, is_within, is_number, kind_in, blob_extents, extents_in, part_in, check_in, notice_kind_in}
use Rattle.custody_records.specs.RowsOfRecords.{text_of_lines}
use Rattle.custody_records.specs.TypedRecords.{name_in, received_in}

pub cond_none : {A : Type 0} (b : Bool) (x : A) → None ≡ cond b (Some x) None → b ≡ false
cond_none b x e = grind arith

pub cond_is : {A : Type 0} (b : Bool) (o : Option A) (y : A) → cond b o None ≡ Some y → (b ≡ true) × (o ≡ Some y)
cond_is b o y e = grind arith

-- a number that is not this one
pub number_not : (n : ℕ) (z : ℤ) → (z ≡ pos n → ⊥) → is_number n z ≡ false
number_not n z apart = grind (arith, nat_tests)

take_whole : (k : ℕ) (xs : List ℕ) → length xs ≤ k → take k xs ≡ xs
take_whole zero [] le = refl
take_whole (suc k) [] le = refl
take_whole zero (x ∷ xs) le = absurd (omega arith)
take_whole (suc k) (x ∷ xs) le = ap (λ l. x ∷ l) (take_whole k xs (omega arith))

-- all bytes from there on
pub drop_range : (n : ℕ) (xs : List ℕ) → take (length xs - n) (drop n xs) ≡ drop n xs
drop_range n xs = take_whole (length xs - n) (drop n xs) (omega (arith, length-drop n xs))

pub some_same : {A : Type 0} (x y : A) → Some x ≡ Some y → x ≡ y
some_same x y e = cc

-- ---- notices

module _ (row : NoticeRow) where
  -- a failure of a check
  pub failure_in : (check : Check) → is_number 20 row.kind ≡ false → is_number 0 row.kind ≡ false → is_within 0 99 row.rev ≡ true → is_deposit_id row.id ≡ true → check_in (natural row.kind) ≡ Some check
      → notice_kind_in row ≡ Some (Failure (natural row.rev) row.id check)
  failure_in check a b c d e = grind arith

-- ---- parts

module _ (row : PartRow) where
  pub name_without_kind : kind_in row.kind ≡ None → name_in row ≡ None
  name_without_kind e = grind arith

  pub part_without_name : name_in row ≡ None → part_in row ≡ None
  part_without_name e = grind arith

  pub part_without_received : received_in row ≡ None → part_in row ≡ None
  part_without_received e = grind arith

  pub part_without_len : is_within 1 1_048_576 row.len ≡ false → part_in row ≡ None
  part_without_len e = grind arith

  pub part_without_extents : extents_in row.extents ≡ None → part_in row ≡ None
  part_without_extents e = grind arith

  pub part_found : (name : Name) (received len : ℕ) (digest : List ℕ) (extents : Option (List Extent)) → name_in row ≡ Some name → received_in row ≡ Some received
      → cond (is_within 1 1_048_576 row.len) (Some (natural row.len)) None ≡ Some len → cond (length row.sha == 32) (Some row.sha) None ≡ Some digest → extents_in row.extents ≡ Some extents
      → part_in row ≡ Some (key_of name, record { kind = name.kind; received = received; len = len; digest = digest; extents = extents })
  part_found name received len digest extents n r l d x = grind arith

-- ---- extents

-- the number of the four bytes from there
abbrev pub word_at : List ℕ → ℕ → ℕ
word_at bytes i = from_be_bytes w32 (get_or bytes i 0 ∷ get_or bytes (i + 1) 0 ∷ get_or bytes (i + 2) 0 ∷ get_or bytes (i + 3) 0 ∷ [])

pub extents_first : (bytes : List ℕ) → 8 ≤ length bytes → blob_extents bytes ≡ option_map (λ (more : List Extent). record { start = word_at bytes 0; count = word_at bytes 4 } ∷ more) (blob_extents (drop 8 bytes))
extents_first [] le = absurd (omega arith)
extents_first (a ∷ []) le = absurd (omega arith)
extents_first (a ∷ b ∷ []) le = absurd (omega arith)
extents_first (a ∷ b ∷ c ∷ []) le = absurd (omega arith)
extents_first (a ∷ b ∷ c ∷ d ∷ []) le = absurd (omega arith)
extents_first (a ∷ b ∷ c ∷ d ∷ e ∷ []) le = absurd (omega arith)
extents_first (a ∷ b ∷ c ∷ d ∷ e ∷ f ∷ []) le = absurd (omega arith)
extents_first (a ∷ b ∷ c ∷ d ∷ e ∷ f ∷ g ∷ []) le = absurd (omega arith)
extents_first (a ∷ b ∷ c ∷ d ∷ e ∷ f ∷ g ∷ h ∷ bytes) le = refl

-- ---- lines

pub text_of_more : (lines : List (List ℕ)) (line : List ℕ) → text_of_lines (lines ++ line ∷ []) ≡ (text_of_lines lines ++ line) ++ 10 ∷ []
text_of_more [] line = refl
text_of_more (x ∷ lines) line =
    ap (λ (l : List ℕ). x ++ 10 ∷ l) (text_of_more lines line)
    ∙ sym (append_assoc x (10 ∷ (text_of_lines lines ++ line)) (10 ∷ []))
    ∙ ap (λ (l : List ℕ). l ++ 10 ∷ []) (sym (append_assoc x (10 ∷ text_of_lines lines) line))
