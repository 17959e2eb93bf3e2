-- What a writer holds that took a text, or a beginning of it.
use Rattle.std.proofs.Common.{◌+◌, ◌++◌, ℕ, List, Option, arith, length, length-append, subst, sym, take}
use Rattle.std.proofs.KnownBytes.{Appends-kept, Appends-trans}
use Rattle.std.proofs.Math.Seq.{take-append-add}
use Rattle.std.proofs.lemmas.List.{take-append-le, take_all}
use Rattle.std.specs.Io.KnownBytes.{Appends, Keeps}
use Rattle.desk.specs.Lines.{AppendsBeginning}

-- all of a text is a beginning of it
pub whole_begins : (old new : Option (List ℕ)) (text : List ℕ) → Appends old new text → AppendsBeginning old new text
whole_begins old new text whole = (
  length text,
  omega arith,
  subst (λ (t : List ℕ). Appends old new t) (sym (take_all (length text) text (omega arith))) whole,
)

-- a beginning of the first of two texts
pub begins_first : (old new : Option (List ℕ)) (first second : List ℕ) → AppendsBeginning old new first → AppendsBeginning old new (first ++ second)
begins_first old new first second (taken, fits, took) = (
  taken,
  omega (arith, length-append first second, fits),
  subst (λ (t : List ℕ). Appends old new t) (sym (take-append-le taken first second fits)) took,
)

-- the first, and a beginning of the second
pub begins_second : (old mid new : Option (List ℕ)) (first second : List ℕ) → Appends old mid first → AppendsBeginning mid new second → AppendsBeginning old new (first ++ second)
begins_second old mid new first second whole (taken, fits, took) = (
  length first + taken,
  omega (arith, length-append first second, fits),
  subst (λ (t : List ℕ). Appends old new t) (sym (take-append-add first second taken)) (Appends-trans old mid new first (take taken second) whole took),
)

-- a text that the writer has passed on
pub kept_begins : (old mid new : Option (List ℕ)) (text : List ℕ) → Appends old mid text → Keeps mid new → AppendsBeginning old new text
kept_begins old mid new text whole kept = whole_begins old new text (Appends-kept old mid new text whole kept)
