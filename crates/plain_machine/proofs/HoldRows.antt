-- What the plain program finds among its holds, and what is lifted there, is what the map of them has.
use Rattle.std.proofs.Common.{◌≡◌, ℕ, ◌<◌, List, Some, true, length, get_or, set, refl, sym, ◌∙◌, ap}
use Rattle.std.specs.Prelude.{option_map}
use Rattle.std.specs.FinMap.{get, insert}
use Rattle.std.specs.declared.cmp.Ordering.TheVariants.{Equal}
use Rattle.custody_records.specs.declared.holds.Hold as given
use Rattle.custody_records.specs.Keys.{text_cmp}
use Rattle.custody_records.specs.inside.Orders.{text_exact, text_total}
use Rattle.custody_records.specs.Records.{Hold, lifted_at}
use Rattle.custody_records.specs.Tables.{is_rising, table_map}
use Rattle.custody_records.specs.TypedRecords.{hold_key, hold_value}
use Rattle.custody_records.proofs.TableLemmas.{found_at, get_table, map_replaced, rising_replaced}

module _ (rows : List given.Hold) (rising : is_rising text_cmp hold_key rows ≡ true) (reference : List ℕ) (i : ℕ) (row : given.Hold) (lt : i < length rows) (is : row ≡ get_or rows i row)
    (same : (d : given.Hold) → text_cmp (hold_key (get_or rows i d)) reference ≡ Equal) where
  pub row_key : hold_key row ≡ reference
  row_key = ap hold_key is ∙ text_exact _ _ (same row)

  pub row_got : Some (hold_value row) ≡ get (table_map text_cmp hold_key hold_value rows) reference
  row_got = ap (option_map hold_value) (ap Some is ∙ sym (found_at text_cmp hold_key text_total rows reference i row rising lt (same row)))
      ∙ sym (get_table text_cmp hold_key hold_value rows reference rising)

  module _ (at : ℕ) where
    abbrev lifted_row : given.Hold
    lifted_row = record row { lifted = Some at }

    same_row : (d : given.Hold) → text_cmp (hold_key (get_or rows i d)) (hold_key row) ≡ Equal
    same_row d = ap (text_cmp (hold_key (get_or rows i d))) row_key ∙ same d

    -- with its lifting the references still rise
    pub rising_lifted : is_rising text_cmp hold_key (set rows i lifted_row) ≡ true
    rising_lifted = rising_replaced text_cmp hold_key text_total text_exact rows _ lifted_row i refl lt same_row rising

    pub map_lifted : (hold : Hold) → get (table_map text_cmp hold_key hold_value rows) reference ≡ Some hold
        → table_map text_cmp hold_key hold_value (set rows i lifted_row) ≡ insert (table_map text_cmp hold_key hold_value rows) reference (lifted_at at hold)
    map_lifted hold got =
        let value : hold_value row ≡ hold = cc (row_got ∙ got) in
        map_replaced text_cmp hold_key text_total text_exact rows _ lifted_row i refl lt same_row rising hold_value
        ∙ (λ j. insert (table_map text_cmp hold_key hold_value rows) (row_key j) (lifted_at at (value j)))
