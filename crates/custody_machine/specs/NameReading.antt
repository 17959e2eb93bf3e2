-- The name that a text is, as a function (Specification 2, Part A section 5). Only its law is used: `IsReading`, which says it by the names in form and their texts.
use Rattle.std.specs.Prelude.{◌≡◌, ◌↔◌, ℕ, zero, suc, ◌+◌, ◌-◌, List, [], ◌∷◌, length, take, drop, Option, Some, None, Bool, ◌==◌, if◌then◌else◌, option_map, codes, Result, Ok, Err, bytes_eq}
use Rattle.std.specs.List.{list_any}
use Rattle.std.specs.Option.{option_and_then}
use Rattle.schedule.specs.Schedule.{last_day}
use Rattle.schedule.specs.Text.{day_text}
use Rattle.deposit_name.specs.declared.kinds.Kind.{Kind}
use Rattle.deposit_name.specs.declared.errors.NameError.{NameError}
use Rattle.deposit_name.specs.declared.errors.NameError.TheVariants.{Suffix, Pieces, Tld, Date, Kind as KindFault, Part, Revision}
use Rattle.deposit_name.specs.Identifiers.{is_tld}
use Rattle.deposit_name.specs.Name.{Name, IsName, first_name_day, name_text, part_text, rev_text}
use Rattle.deposit_name.specs.Fault.{NamePieces, IsFault}
use Rattle.custody_records.specs.Form.{kind_in}

-- ---- the pieces of a text

-- the text before an ending
abbrev pub before_suffix : List ℕ → List ℕ → Option (List ℕ)
before_suffix suffix text = if bytes_eq (drop (length text - length suffix) text) suffix then Some (take (length text - length suffix) text) else None

-- the text before the first underscore, and the text after it
abbrev pub halves_of : List ℕ → Option (List ℕ × List ℕ)
halves_of [] = None
halves_of (byte ∷ text) = if byte == 95 then Some ([], text) else option_map (λ (halves : List ℕ × List ℕ). (byte ∷ halves.0, halves.1)) (halves_of text)

abbrev pub has_underscore : List ℕ → Bool
has_underscore = list_any (λ byte. byte == 95)

-- five pieces, where there are four underscores
abbrev pub pieces_in : List ℕ → Option NamePieces
pieces_in stem =
    option_and_then (λ (tld : List ℕ × List ℕ).
    option_and_then (λ (date : List ℕ × List ℕ).
    option_and_then (λ (kind : List ℕ × List ℕ).
    option_and_then (λ (part : List ℕ × List ℕ).
    if has_underscore part.1 then None else Some (record { tld = tld.0; date = date.0; kind = kind.0; part = part.0; rev = part.1 }))
    (halves_of kind.1)) (halves_of date.1)) (halves_of tld.1)) (halves_of stem)

-- ---- the pieces, read

-- the number whose text this is, of so many from the first on
unfoldable pub number_with : (ℕ → List ℕ) → (first count : ℕ) → List ℕ → Option ℕ
number_with text_of first zero text = None
number_with text_of first (suc count) text = if bytes_eq (text_of first) text then Some first else number_with text_of (first + 1) count text

-- 2000-01-01 to 9998-12-31
unfoldable pub read_day : List ℕ → Option ℕ
read_day = number_with day_text first_name_day (last_day + 1 - first_name_day)

unfoldable pub read_part : List ℕ → Option ℕ
read_part = number_with part_text 1 8

unfoldable pub read_rev : List ℕ → Option ℕ
read_rev = number_with rev_text 0 100

abbrev pub name_with_rev : NamePieces → ℕ → Kind → ℕ → Option ℕ → Result Name NameError
name_with_rev pieces day kind part None = Err Revision
name_with_rev pieces day kind part (Some rev) = Ok (record { tld = pieces.tld; day = day; kind = kind; part = part; rev = rev })

abbrev pub name_with_part : NamePieces → ℕ → Kind → Option ℕ → Result Name NameError
name_with_part pieces day kind None = Err Part
name_with_part pieces day kind (Some part) = name_with_rev pieces day kind part (read_rev pieces.rev)

abbrev pub name_with_kind : NamePieces → ℕ → Option Kind → Result Name NameError
name_with_kind pieces day None = Err KindFault
name_with_kind pieces day (Some kind) = name_with_part pieces day kind (read_part pieces.part)

abbrev pub name_with_date : NamePieces → Option ℕ → Result Name NameError
name_with_date pieces None = Err Date
name_with_date pieces (Some day) = name_with_kind pieces day (kind_in pieces.kind)

abbrev pub name_with_pieces : Option NamePieces → Result Name NameError
name_with_pieces None = Err Pieces
name_with_pieces (Some pieces) = if is_tld pieces.tld then name_with_date pieces (read_day pieces.date) else Err Tld

abbrev pub name_with_stem : Option (List ℕ) → Result Name NameError
name_with_stem None = Err Suffix
name_with_stem (Some stem) = name_with_pieces (pieces_in stem)

-- the name that a text is, or the first fault of the text
unfoldable pub read_name : List ℕ → Result Name NameError
read_name text = name_with_stem (before_suffix (codes ".ryde") text)

-- A name is read from its one text, and a fault is told of the texts that have it.
pub record IsReading : Type 0 where
  pub names : (text : List ℕ) (name : Name) → (read_name text ≡ Ok name) ↔ (IsName name × (text ≡ name_text name))
  pub faults : (text : List ℕ) (fault : NameError) → (read_name text ≡ Err fault) ↔ IsFault text fault
