-- A table that is gathered row by row.
use Rattle.std.proofs.Common.{◌≡◌, List, [], ◌∷◌, ◌++◌, Option, Some, None, true, false, cond, map, refl, sym, ◌∙◌, ap}
use Rattle.std.specs.Prelude.{is_some}
use Rattle.std.specs.Option.{option_and_then}
use Rattle.std.specs.declared.cmp.Ordering.{Ordering}
use Rattle.std.specs.FinMap.{FinMap, get, insert, empty}
use Rattle.custody_records.specs.Rows.{with_row}
use Rattle.custody_records.specs.Form.{gather, gathered_table}

-- more rows are gathered after those before
pub gather_append : {X K R : Type 0} {order : K → K → Ordering} (read : X → Option (K × R)) (so_far : FinMap order R) (rows more : List X)
    → gather read so_far (rows ++ more) ≡ option_and_then (λ (m : FinMap order R). gather read m more) (gather read so_far rows)
gather_append read so_far [] more = refl
gather_append {X} {K} {R} {order} read so_far (row ∷ rows) more = by (λ (entry : K × R). gather_append read (insert so_far entry.0 entry.1) rows more) (read row)
  where
    by : ((entry : K × R) → gather read (insert so_far entry.0 entry.1) (rows ++ more) ≡ option_and_then (λ (m : FinMap order R). gather read m more) (gather read (insert so_far entry.0 entry.1) rows)) → (o : Option (K × R))
        → option_and_then (λ (entry : K × R). cond (is_some (get so_far entry.0)) None (gather read (insert so_far entry.0 entry.1) (rows ++ more))) o
        ≡ option_and_then (λ (m : FinMap order R). gather read m more) (option_and_then (λ (entry : K × R). cond (is_some (get so_far entry.0)) None (gather read (insert so_far entry.0 entry.1) rows)) o)
    by rest None = refl
    by rest (Some entry) = elim (is_some (get so_far entry.0)) as (λ b. cond b None (gather read (insert so_far entry.0 entry.1) (rows ++ more)) ≡ option_and_then (λ (m : FinMap order R). gather read m more) (cond b None (gather read (insert so_far entry.0 entry.1) rows))) [
      | true ↦ refl
      | false ↦ rest entry
    ]

-- a row more, whose key is not there, is a record more
pub gather_push : {X K R : Type 0} {order : K → K → Ordering} (read : X → Option (K × R)) (so_far : FinMap order R) (rows : List X) (all : FinMap order R) (row : X) (key : K) (value : R)
    → gather read so_far rows ≡ Some all → read row ≡ Some (key, value) → get all key ≡ None → gather read so_far (rows ++ row ∷ []) ≡ Some (insert all key value)
gather_push {X} {K} {R} {order} read so_far rows all row key value before reads new =
    gather_append read so_far rows (row ∷ [])
    ∙ ap (option_and_then (λ (m : FinMap order R). gather read m (row ∷ []))) before
    ∙ ap (option_and_then (λ (entry : K × R). cond (is_some (get all entry.0)) None (gather read (insert all entry.0 entry.1) []))) reads
    ∙ ap (λ (o : Option R). cond (is_some o) None (Some (insert all key value))) new

-- a table that is there, and one row more
pub gathered_push : {X K R : Type 0} {order : K → K → Ordering} (read : X → Option (K × R)) (table : Option (List X)) (all : FinMap order R) (row : X) (key : K) (value : R)
    → gathered_table read table ≡ Some all → read row ≡ Some (key, value) → get all key ≡ None → gathered_table read (with_row row table) ≡ Some (insert all key value)
gathered_push read None all row key value before reads new = cc
gathered_push read (Some rows) all row key value before reads new = gather_push read empty rows all row key value before reads new

-- rows that are read alike are gathered alike
gather_read : {X K R : Type 0} {order : K → K → Ordering} (read : X → Option (K × R)) (so_far : FinMap order R) (rows : List X) → gather read so_far rows ≡ gather (λ o. o) so_far (map read rows)
gather_read read so_far [] = refl
gather_read {X} {K} {R} {order} read so_far (row ∷ rows) = by (read row) (λ (entry : K × R). gather_read read (insert so_far entry.0 entry.1) rows)
  where
    by : (o : Option (K × R)) → ((entry : K × R) → gather read (insert so_far entry.0 entry.1) rows ≡ gather (λ o. o) (insert so_far entry.0 entry.1) (map read rows))
        → option_and_then (λ (entry : K × R). cond (is_some (get so_far entry.0)) None (gather read (insert so_far entry.0 entry.1) rows)) o
        ≡ option_and_then (λ (entry : K × R). cond (is_some (get so_far entry.0)) None (gather (λ o. o) (insert so_far entry.0 entry.1) (map read rows))) o
    by None rest = refl
    by (Some entry) rest = ap (cond (is_some (get so_far entry.0)) None) (rest entry)

pub gather_alike : {X Y K R : Type 0} {order : K → K → Ordering} (read : X → Option (K × R)) (other : Y → Option (K × R)) (so_far : FinMap order R) (rows : List X) (others : List Y)
    → map read rows ≡ map other others → gather read so_far rows ≡ gather other so_far others
gather_alike read other so_far rows others same = gather_read read so_far rows ∙ ap (gather (λ o. o) so_far) same ∙ sym (gather_read other so_far others)

-- a row out of form among others
pub gather_bad : {X K R : Type 0} {order : K → K → Ordering} (read : X → Option (K × R)) (so_far : FinMap order R) (rows : List X) (row : X) (more : List X) → read row ≡ None → gather read so_far (rows ++ row ∷ more) ≡ None
gather_bad {X} {K} {R} {order} read so_far rows row more bad = gather_append read so_far rows (row ∷ more) ∙ by (gather read so_far rows)
  where
    by : (before : Option (FinMap order R)) → option_and_then (λ (m : FinMap order R). gather read m (row ∷ more)) before ≡ None
    by None = refl
    by (Some m) = ap (option_and_then (λ (entry : K × R). cond (is_some (get m entry.0)) None (gather read (insert m entry.0 entry.1) more))) bad
