-- A table that is gathered row by row: its records where each row is changed.
use Rattle.std.proofs.Common.{◌≡◌, List, [], ◌∷◌, map, Option, Some, None, is_some, cond, refl, sym, ◌∙◌, ap}
use Rattle.std.specs.Option.{option_map, option_and_then}
use Rattle.std.specs.Cmp.{IsTotalOrder}
use Rattle.std.specs.declared.cmp.Ordering.{Ordering}
use Rattle.std.specs.FinMap.{FinMap, IsAntisymmetric, empty, get, insert}
use Rattle.std.proofs.lemmas.Option.{same_Some}
use Rattle.custody_records.specs.Form.{gather, gathered_table}
use Rattle.custody_machine.specs.MapValues.{map_keyed}
use Rattle.custody_machine.proofs.MapValues.{get-map_keyed, map_keyed-empty, map_keyed-insert}

module _ {X K V : Type 0} {order : K → K → Ordering} (read : X → Option (K × V)) where
  -- The first row has a record that is new, and the others are gathered after it.
  record GathersFirst (row : X) (rows : List X) (so_far all : FinMap order V) : Type 0 where
    entry : K × V
    reads : read row ≡ Some entry
    new : get so_far entry.0 ≡ None
    rest : gather read (insert so_far entry.0 entry.1) rows ≡ Some all

  gathers_first : (row : X) (rows : List X) (so_far all : FinMap order V) → gather read so_far (row ∷ rows) ≡ Some all → GathersFirst row rows so_far all
  gathers_first row rows so_far all e = by (read row) refl e
    where
      by : (o : Option (K × V)) → read row ≡ o → option_and_then (λ (entry : K × V). cond (is_some (get so_far entry.0)) None (gather read (insert so_far entry.0 entry.1) rows)) o ≡ Some all → GathersFirst row rows so_far all
      by None is e = cc
      by (Some entry) is e = at (get so_far entry.0) refl e
        where
          at : (there : Option V) → get so_far entry.0 ≡ there → cond (is_some there) None (gather read (insert so_far entry.0 entry.1) rows) ≡ Some all → GathersFirst row rows so_far all
          at None new e = record { entry = entry; reads = is; new = new; rest = e }
          at (Some value) taken e = cc

  gather_first : (row : X) (rows : List X) (so_far : FinMap order V) (entry : K × V) → read row ≡ Some entry → get so_far entry.0 ≡ None → gather read so_far (row ∷ rows) ≡ gather read (insert so_far entry.0 entry.1) rows
  gather_first row rows so_far entry reads new =
      ap (option_and_then (λ (e : K × V). cond (is_some (get so_far e.0)) None (gather read (insert so_far e.0 e.1) rows))) reads
      ∙ ap (λ (there : Option V). cond (is_some there) None (gather read (insert so_far entry.0 entry.1) rows)) new

  -- ---- each row is changed, and stands for its record changed

  module _ (total : IsTotalOrder order) (exact : IsAntisymmetric order) (change : X → X) (changed : K → V → V) (means : (row : X) (entry : K × V) → read row ≡ Some entry → read (change row) ≡ Some (entry.0, changed entry.0 entry.1)) where
    gather_changed : (rows : List X) (so_far all : FinMap order V) → gather read so_far rows ≡ Some all → gather read (map_keyed changed so_far) (map change rows) ≡ Some (map_keyed changed all)
    gather_changed [] so_far all e = ap (λ m. Some (map_keyed changed m)) (same_Some so_far all e)
    gather_changed (row ∷ rows) so_far all e =
        let first = gathers_first row rows so_far all e in
        gather_first (change row) (map change rows) (map_keyed changed so_far) (first.entry.0, changed first.entry.0 first.entry.1) (means row first.entry first.reads)
        (get-map_keyed order exact changed so_far first.entry.0 ∙ ap (option_map (changed first.entry.0)) first.new)
        ∙ ap (λ m. gather read m (map change rows)) (sym (map_keyed-insert order exact changed total so_far first.entry.0 first.entry.1))
        ∙ gather_changed rows (insert so_far first.entry.0 first.entry.1) all first.rest

    pub gathered_changed : (table : Option (List X)) (all : FinMap order V) → gathered_table read table ≡ Some all → gathered_table read (option_map (map change) table) ≡ Some (map_keyed changed all)
    gathered_changed None all e = cc
    gathered_changed (Some rows) all e = ap (λ m. gather read m (map change rows)) (sym (map_keyed-empty order exact changed total)) ∙ gather_changed rows empty all e
