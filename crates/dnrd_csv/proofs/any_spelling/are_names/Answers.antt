use Rattle.std.proofs.Common.{Bor, ◌≡◌, ◌<◌, ◌∙◌, [], List, ℕ, ap, arith, get_or, inl, inr, length, map, sym, true}
use Rattle.std.proofs.lemmas.Bool.{cases_Bool}
use Rattle.std.proofs.lemmas.List.{get_or-map, length-map, take_more_same}
use Rattle.std.proofs.lemmas.Slice.Eq.{bytes_eq-Decides}
use Rattle.std.specs.Str.{bytes_eq}
use Rattle.csv.specs.Records.{fields_of}
use Rattle.dnrd_csv.proofs.any_spelling.are_names.Goals as goal

-- a name that is not there
abbrev none : Bor (List ℕ)
none = record { ref_ptr = (0, 0); now = [] }

pub returns-then-ne : goal.returns-then-ne
returns-then-ne c = (
  λ wrong. cc wrong,
  λ same.
      let name = get_or-map (λ (n : Bor (List ℕ)). n.now) c.args.names.now c.loop-i.i none [] c.loop-i-test.true in
      let equal : c.field_at.result.now ≡ c.as_bytes.result.now = c.field_at.ensures ∙ ap (λ (l : List (List ℕ)). get_or l c.loop-i.i []) same ∙ name ∙ sym c.as_bytes.ensures.value in
      let test : bytes_eq c.field_at.result.now c.as_bytes.result.now ≡ true = (bytes_eq-Decides _ _).1 equal in
      let differs = rw test at c.ne.ensures in
      cc (differs, c.if-ne.true),
)

pub loop-i-preserved : goal.loop-i-preserved
loop-i-preserved c =
    let i = c.loop-i.i in
    let row = fields_of c.args.row.now in
    let names = map (λ (n : Bor (List ℕ)). n.now) c.args.names.now in
    let name = get_or-map (λ (n : Bor (List ℕ)). n.now) c.args.names.now i none [] c.loop-i-test.true in
    let test : bytes_eq c.field_at.result.now c.as_bytes.result.now ≡ true = elim (cases_Bool (bytes_eq c.field_at.result.now c.as_bytes.result.now)) [
      | inl equal ↦ equal
      | inr other ↦ let differs = rw other at c.ne.ensures in cc (differs, c.if-ne.false)
    ] in
    let equal : c.field_at.result.now ≡ c.as_bytes.result.now = (bytes_eq-Decides _ _).0 test in
    let left : i < length row = omega (arith, c.len.ensures, c.if-len-names.false, c.loop-i-test.true) in
    let right : i < length names = omega (arith, c.loop-i-test.true, length-map c.args.names.now (λ (n : Bor (List ℕ)). n.now)) in
    take_more_same row names i [] left right c.loop-i.invariant (sym c.field_at.ensures ∙ equal ∙ c.as_bytes.ensures.value ∙ sym name)
