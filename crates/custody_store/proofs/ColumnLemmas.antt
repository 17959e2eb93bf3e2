-- The columns of a row that is as its table asks: each has the type of its column, and is there where it has to be.
use Rattle.std.proofs.Common.{◌≡◌, ℕ, zero, suc, ◌+◌, ◌||◌, Bool, true, false, cond, not, eqb, List, [], ◌∷◌, Option, Some, slice_get, refl, sym, subst, arith}
use Rattle.std.specs.Prelude.{drop}
use Rattle.std.proofs.lemmas.Bool.{and_parts}
use Rattle.sqlite.specs.declared.types.Value.{Value}
use Rattle.sqlite.specs.declared.types.Value.TheVariants.{Null, Int, Real, Text, Blob}
use Rattle.sqlite.specs.Order.{Row, column, bytes}
use Rattle.sqlite.specs.Ops.{is_null}
use Rattle.sqlite.specs.Cast.{cast}
use Rattle.sqlite.specs.Edit.{id_in}
use Rattle.sqlite.specs.Kind.{Kind}
use Rattle.sqlite.specs.Kind.TheVariants as kinds
use Rattle.sqlite.specs.Table.{Table}
use Rattle.sqlite_schema.specs.declared.schema.Column.{Column}
use Rattle.sqlite_schema.specs.Names.{is_key}
use Rattle.sqlite_schema.specs.Rules.{is_of, kind_code, suits, are_typed, are_present}
use Rattle.custody_records.proofs.ReadLemmas.{some_same}
use Rattle.custody_store.proofs.RowLemmas.{cast_null, cast_int}

cast_typed : (k : Kind) (v : Value) → eqb (kind_code k) 2 ≡ false → is_of k v ≡ true → cast k v ≡ v
cast_typed kinds.Any v whole h = refl
cast_typed kinds.Blob v whole h = refl
cast_typed kinds.Integer Null whole h = cast_null
cast_typed kinds.Integer (Int n) whole h = cast_int n
cast_typed kinds.Integer (Real x) whole h = absurd cc
cast_typed kinds.Integer (Text t) whole h = absurd cc
cast_typed kinds.Integer (Blob b) whole h = absurd cc
cast_typed kinds.Text Null whole h = refl
cast_typed kinds.Text (Int n) whole h = absurd cc
cast_typed kinds.Text (Real x) whole h = absurd cc
cast_typed kinds.Text (Text t) whole h = refl
cast_typed kinds.Text (Blob b) whole h = absurd cc
cast_typed kinds.Real v whole h = absurd cc

typed_at : (key : Option ℕ) (cs : List Column) (vs : Row) (at i : ℕ) (c : Column) → are_typed key at cs vs ≡ true → slice_get cs i ≡ Some c → c.is_strict ≡ true → is_key key (at + i) ≡ false → is_of c.kind (column vs i) ≡ true
typed_at key [] vs at i c h e strict other = absurd (let clash = e in cc)
typed_at key (b ∷ cs) [] at i c h e strict other = refl
typed_at key (b ∷ cs) (v ∷ vs) at zero c h e strict other =
    let same = some_same b c e in
    let place : at + 0 ≡ at = omega arith in
    let apart : is_key key at ≡ false = subst (λ n. is_key key n ≡ false) place other in
    let first : cond (is_key key at) (is_null v) (suits b v) ≡ true = (and_parts _ _ h).0 in
    let suited : suits c v ≡ true = subst (λ x. suits x v ≡ true) same (rw apart at first) in
    rw strict at suited
typed_at key (b ∷ cs) (v ∷ vs) at (suc i) c h e strict other =
    let place : at + suc i ≡ at + 1 + i = omega arith in
    typed_at key cs vs (at + 1) i c (and_parts _ _ h).1 e strict (subst (λ n. is_key key n ≡ false) place other)

shifted : (r : Row) (i : ℕ) → column (drop 1 r) i ≡ column r (suc i)
shifted [] i = refl
shifted (v ∷ r) i = refl

required : (key absent : Bool) (c : Column) → key ≡ false → (key || not c.not_null || not absent) ≡ true → c.not_null ≡ true → absent ≡ false
required key true c other h is = absurd (let e = rw (other, is) at h in cc)
required key false c other h is = refl

present_at : (key : Option ℕ) (cs : List Column) (r : Row) (at i : ℕ) (c : Column) → are_present key at cs r ≡ true → slice_get cs i ≡ Some c → c.not_null ≡ true → is_key key (at + i) ≡ false → is_null (column r (at + i + 1)) ≡ false
present_at key [] r at i c h e is other = absurd (let clash = e in cc)
present_at key (b ∷ cs) r at zero c h e is other =
    let same = some_same b c e in
    let place : at + 0 ≡ at = omega arith in
    let here : (is_key key at || not c.not_null || not (is_null (column r (at + 1)))) ≡ true =
    subst (λ (x : Column). (is_key key at || not x.not_null || not (is_null (column r (at + 1)))) ≡ true) same (and_parts _ _ h).0 in
    subst (λ n. is_null (column r (n + 1)) ≡ false) (sym place) (required (is_key key at) (is_null (column r (at + 1))) c (subst (λ n. is_key key n ≡ false) place other) here is)
present_at key (b ∷ cs) r at (suc i) c h e is other =
    let place : at + 1 + i ≡ at + suc i = omega arith in
    let more = present_at key cs r (at + 1) i c (and_parts _ _ h).1 e is (subst (λ n. is_key key n ≡ false) (sym place) other) in
    subst (λ n. is_null (column r (n + 1)) ≡ false) place more

int_typed : (v : Value) → is_of kinds.Integer v ≡ true → is_null v ≡ false → v ≡ Int (id_in v)
int_typed Null h k = absurd cc
int_typed (Int n) h k = refl
int_typed (Real x) h k = absurd cc
int_typed (Text t) h k = absurd cc
int_typed (Blob b) h k = absurd cc

text_typed : (v : Value) → is_of kinds.Text v ≡ true → is_null v ≡ false → v ≡ Text (bytes v)
text_typed Null h k = absurd cc
text_typed (Int n) h k = absurd cc
text_typed (Real x) h k = absurd cc
text_typed (Text t) h k = refl
text_typed (Blob b) h k = absurd cc

from_first : (key : Option ℕ) (i : ℕ) → is_key key i ≡ false → is_key key (0 + i) ≡ false
from_first key i other = let place : i ≡ 0 + i = omega arith in subst (λ n. is_key key n ≡ false) place other

module _ (t : Table) (r : Row) (typed : are_typed t.key 0 t.columns (drop 1 r) ≡ true) where
  of_kind : (i : ℕ) (c : Column) → slice_get t.columns i ≡ Some c → c.is_strict ≡ true → is_key t.key i ≡ false → is_of c.kind (column r (suc i)) ≡ true
  of_kind i c e strict other = subst (λ v. is_of c.kind v ≡ true) (shifted r i) (typed_at t.key t.columns (drop 1 r) 0 i c typed e strict (from_first t.key i other))

  -- a column of a type but REAL is what it is cast to
  pub cast_at : (i : ℕ) (c : Column) → slice_get t.columns i ≡ Some c → c.is_strict ≡ true → is_key t.key i ≡ false → eqb (kind_code c.kind) 2 ≡ false → cast c.kind (column r (suc i)) ≡ column r (suc i)
  cast_at i c e strict other whole = cast_typed c.kind (column r (suc i)) whole (of_kind i c e strict other)

  module _ (present : are_present t.key 0 t.columns r ≡ true) where
    there : (i : ℕ) (c : Column) → slice_get t.columns i ≡ Some c → c.not_null ≡ true → is_key t.key i ≡ false → is_null (column r (suc i)) ≡ false
    there i c e not_null other = let place : 0 + i + 1 ≡ suc i = omega arith in subst (λ n. is_null (column r n) ≡ false) place (present_at t.key t.columns r 0 i c present e not_null (from_first t.key i other))

    pub int_at : (i : ℕ) (c : Column) → slice_get t.columns i ≡ Some c → c.is_strict ≡ true → c.not_null ≡ true → is_key t.key i ≡ false → c.kind ≡ kinds.Integer → column r (suc i) ≡ Int (id_in (column r (suc i)))
    int_at i c e strict not_null other kind = int_typed (column r (suc i)) (subst (λ k. is_of k (column r (suc i)) ≡ true) kind (of_kind i c e strict other)) (there i c e not_null other)

    pub text_at : (i : ℕ) (c : Column) → slice_get t.columns i ≡ Some c → c.is_strict ≡ true → c.not_null ≡ true → is_key t.key i ≡ false → c.kind ≡ kinds.Text → column r (suc i) ≡ Text (bytes (column r (suc i)))
    text_at i c e strict not_null other kind = text_typed (column r (suc i)) (subst (λ k. is_of k (column r (suc i)) ≡ true) kind (of_kind i c e strict other)) (there i c e not_null other)
