-- A full deposit, and then those of what has changed.
use Rattle.std.proofs.Common.{◌++◌, ◌∷◌, [], ℕ, List, append_assoc, map, subst, sym}
use Rattle.std.proofs.lemmas.List.{append-nil}
use Rattle.dnrd_csv.specs.Readers.{IsTableReader}
use Rattle.deposit_verify.specs.inside.Reading.{OneReading}
use Rattle.deposit_tables.specs.Restored.{HasRowsOf}
use Rattle.deposit_tables.specs.Deposits.{AreDepositsRestored, AreOfChanges, IsWhole, MayBePacked, PackedDeposit, last_tables, packed_bytes}
use Rattle.deposit_tables.proofs.ChainRows.{chain_rows}
use Rattle.deposit_tables.proofs.Decisions.{Tables}
use Rattle.deposit_tables.proofs.PackedChanges.{changes_restored, packed_row}

module _ (reader : IsTableReader) (one : OneReading) where
  pub whole_rows : (first : PackedDeposit) → MayBePacked first → IsWhole first → HasRowsOf (packed_bytes first ∷ []) first.tables
  whole_rows first packable whole name row =
      let chained = chain_rows.one (packed_bytes first) name row in
      let there = packed_row reader one first.attributes first.objects first.before packable name row in
      let is = whole name row in
      (λ has. chained.1 (there.1 (is.1 has)), λ of. is.0 (there.0 (chained.0 of)))

  later_rows : (chain : List (List ℕ)) (old : Tables) (later : List PackedDeposit) → HasRowsOf chain old → AreOfChanges old later → HasRowsOf (chain ++ map packed_bytes later) (last_tables old later)
  later_rows chain old [] was of = subst (λ (c : List (List ℕ)). HasRowsOf c old) (sym (append-nil chain)) was
  later_rows chain old (d ∷ ds) was of =
      let next = changes_restored reader one chain of.0.0 old d.tables d.attributes d.objects d.before was of.0.1 of.0.2 of.1 in
      subst (λ (c : List (List ℕ)). HasRowsOf c (last_tables d.tables ds)) (append_assoc chain (packed_bytes d ∷ []) (map packed_bytes ds))
      (later_rows (chain ++ packed_bytes d ∷ []) d.tables ds next of.2)

  pub deposits_restored : AreDepositsRestored
  deposits_restored first later packable whole of = later_rows (packed_bytes first ∷ []) first.tables later (whole_rows first packable whole) of
