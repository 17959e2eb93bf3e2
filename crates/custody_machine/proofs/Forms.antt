-- What it tells that rows are in form.
use Rattle.std.specs.Prelude.{slice_get}
use Rattle.std.proofs.Common.{◌≡◌, List, [], ◌∷◌, Option, Some, None, Bool, true, false, ◌&&◌, if◌then◌else◌, ◌∙◌, ap}
use Rattle.std.proofs.lemmas.Slice.Eq.{bytes_eq-Decides}
use Rattle.custody_records.specs.declared.damage.RowDamage.TheVariants as damage
use Rattle.custody_records.specs.Records.{Records}
use Rattle.custody_records.specs.Rows.{MetaRow, Rows, first_meta}
use Rattle.custody_records.specs.Form.{NoVault, OutOfForm, InForm, form_of, form_after, records_in, in_form_or, is_meta, is_number, number_in, natural, has_holds, is_schema}
use Rattle.custody_records.specs.RowsOfRecords.{digits_of}
use Rattle.custody_records.proofs.FormLemmas.{in_form_has}
use Rattle.custody_machine.proofs.Continuing.{and_both}

-- the number and the blocks of the volume are those of the row of `meta`
pub record IsRecordsOf (meta : MetaRow) (records : Records) : Type 0 where
  pub digits : meta.number ≡ digits_of records.number
  pub blocks : natural meta.blocks ≡ records.blocks

digits_in_form : (meta : MetaRow) → is_meta meta ≡ true → meta.number ≡ digits_of (number_in meta.number)
digits_in_form meta e = (bytes_eq-Decides _ _).0 (and_both _ _ (and_both (is_number 1 meta.one) _ e).1).0

-- rows in form have a row of `meta`
pub meta_in_form : (rows : Rows) (records : Records) → form_of rows ≡ InForm records → (meta : MetaRow) × (first_meta rows ≡ Some meta) × IsRecordsOf meta records
meta_in_form rows records e =
    let h = in_form_has rows records e in
    (h.meta, ap (λ (metas : Option (List MetaRow)). first_meta (record rows { meta = metas })) h.alone, record { digits = digits_in_form h.meta h.in_form ∙ ap digits_of h.number; blocks = h.blocks })

-- rows with a row of `meta` are not nothing
pub row_in_form : (rows : Rows) (meta : MetaRow) → first_meta rows ≡ Some meta → form_of rows ≡ NoVault → ⊥
unfolding form_of
row_in_form rows meta is e = by_meta rows.meta is e
  where
    by_option : (o : Option Records) → in_form_or damage.Form o ≡ NoVault → ⊥
    by_option None e = cc
    by_option (Some records) e = cc

    by_known : (row : MetaRow) (a b c : Bool) → (if a then (if b && c then in_form_or damage.Form (records_in (has_holds row.schema_no) (number_in row.number) (natural row.blocks) rows) else OutOfForm damage.Form) else OutOfForm damage.Schema) ≡ NoVault → ⊥
    by_known row true true true e = by_option _ e
    by_known row true true false e = cc
    by_known row true false c e = cc
    by_known row false b c e = cc

    by_row : (others : List MetaRow) → slice_get others 0 ≡ Some meta → form_after others (record rows { meta = Some others }) ≡ NoVault → ⊥
    by_row [] is e = cc
    by_row (row ∷ []) is e = by_known row (is_schema row.schema_no) (is_meta row) true e
    by_row (row ∷ other ∷ others) is e = by_known row (is_schema row.schema_no) (is_meta row) false e

    by_meta : (o : Option (List MetaRow)) → first_meta (record rows { meta = o }) ≡ Some meta → form_of (record rows { meta = o }) ≡ NoVault → ⊥
    by_meta None is e = cc
    by_meta (Some others) is e = by_row others is e
