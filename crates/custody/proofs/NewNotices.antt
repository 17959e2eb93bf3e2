-- What the row of a new notice says.
use Rattle.std.proofs.Common.{◌≡◌, ℕ, ◌≤◌, List, arith, sym, ◌∙◌, ap, subst}
use Rattle.std.specs.Int.{IsInRange}
use Rattle.custody_records.specs.Keys.{NoticeKey}
use Rattle.custody_records.specs.Records.{Notice, Records, with_notice}
use Rattle.custody_records.specs.Rows.{Rows, greatest_integer, with_notice_row}
use Rattle.custody_records.specs.Form.{form_of, InForm}
use Rattle.custody_records.specs.RowsOfRecords.{row_of_notice, IsNotice}
use Rattle.custody_records.proofs.FormLemmas.{notice_inserted}
use Rattle.custody_records.proofs.ReadBack.{notice_read_back}
use Rattle.custody_machine.specs.Machine.{next_key}
use Rattle.custody_machine.proofs.Entries.{next_is_new}

module _ (records : Records) (tld : List ℕ) (key : NoticeKey) (value notice : Notice) (next : key ≡ next_key records.notices tld) (same : value ≡ notice) where
  pub notice_means : key.number ≤ greatest_integer → (IsInRange 1 greatest_integer key.number → IsNotice key value)
      → (rows : Rows) → form_of rows ≡ InForm records → form_of (with_notice_row (row_of_notice key value) rows) ≡ InForm (with_notice records (next_key records.notices tld) notice)
  notice_means small in_form rows is =
      let placed : 1 ≤ key.number = subst (λ (k : NoticeKey). 1 ≤ k.number) (sym next) (omega arith) in
      ap (λ row. form_of (with_notice_row row rows)) (λ i. row_of_notice (next i) (same i))
      ∙ notice_inserted rows records is (row_of_notice (next_key records.notices tld) notice) (next_key records.notices tld) notice
      (notice_read_back (next_key records.notices tld) notice (subst (λ k. IsNotice k notice) next (subst (IsNotice key) same (in_form (placed, small)))))
      (next_is_new records.notices tld)
