-- The greatest number of a registry's notices.
use Rattle.std.proofs.Common.{◌≡◌, ℕ, suc, ◌+◌, List, [], ◌∷◌, ◌∙◌, ap, arith}
use Rattle.std.specs.Prelude.{max}
use Rattle.std.specs.List.{filter, fold}
use Rattle.std.specs.FinMap.{entries}
use Rattle.std.proofs.lemmas.Map.Text.{is_eq-slice_cmp}
use Rattle.desk.specs.declared.notices.Notice as desk
use Rattle.custody_records.specs.Keys.{NoticeKey}
use Rattle.custody_records.specs.Records.{Notice, Records, notices_of}
use Rattle.custody_records.specs.Tables.{row_entries}
use Rattle.custody_records.specs.TypedRecords.{notice_key, notice_value}
use Rattle.custody_machine.specs.Machine.{greatest_number, next_number}
use Rattle.custody_rules.specs.inside.PassedDeposits.{greatest_notice_number}

-- the greatest of a number and those of the rows
greatest_from : (n : ℕ) (rows : List desk.Notice) → fold (λ greatest (row : desk.Notice). max greatest row.number) n rows ≡ max n (greatest_number (row_entries notice_key notice_value rows))
greatest_from n [] = omega arith
greatest_from n (row ∷ rows) = greatest_from (max n row.number) rows ∙ omega arith

-- the rows of a registry's notices have its greatest number
pub next_by_rows : (records : Records) (tld : List ℕ) (rows : List desk.Notice) → row_entries notice_key notice_value rows ≡ notices_of records tld → greatest_notice_number rows + 1 ≡ next_number records.notices tld
next_by_rows records tld rows is =
    let from_zero : greatest_notice_number rows ≡ max 0 (greatest_number (row_entries notice_key notice_value rows)) = greatest_from 0 rows in
    let one_more : greatest_notice_number rows + 1 ≡ suc (greatest_number (row_entries notice_key notice_value rows)) = omega arith in
    one_more ∙ ap suc (ap greatest_number is ∙ (λ i. greatest_number (filter (λ (e : NoticeKey × Notice). is_eq-slice_cmp e.0.tld tld i) (entries records.notices))))
