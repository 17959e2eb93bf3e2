use Rattle.std.proofs.Common.{◌≡◌, ◌++◌, ◌∙◌, Bor, List, ℕ, ap}
use Rattle.dnrd_csv.specs.inside.RowKeys.{borrowed_texts}
use Rattle.deposit_verify.specs.References.{column}
use Rattle.deposit_verify.specs.Rows.{rows_under}
use Rattle.deposit_verify.specs.Deposit.{deletes_of}
use Rattle.deposit_tables.specs.Owners.{owner_table}
use Rattle.deposit_tables.specs.RowsAfter.{deposit_rows}
use Rattle.deposit_tables.specs.inside.Restoring.{reading_in}
use Rattle.deposit_tables.proofs.RenewedKeys.{renewed_sorted}
use Rattle.deposit_tables.proofs.tables.renewed_keys.Goals as goal

pub returns-clause-same : goal.returns-clause-same
returns-clause-same c =
    let r = reading_in c.args.whole.now in
    let name = c.args.name in
    let own = c.in_ok-keys.keys.items in
    let contained = c.in_ok-contained.contained.items in
    let gone = c.in_ok-deleted.deleted.items in
    let own_is : borrowed_texts own ≡ column 0 (deposit_rows r name) = rw (c.deref-4.ensures.value, c.deref-5.ensures.value) at c.in_ok-keys.ensures in
    let contained_is : borrowed_texts contained ≡ column 0 (deposit_rows r (owner_table name)) = rw (c.deref.ensures.value, c.deref-2.ensures.value, c.owner_table-owner.ensures) at c.in_ok-contained.ensures in
    let gone_is : borrowed_texts gone ≡ column 0 (rows_under (deletes_of r.envelope) r.deleted (owner_table name)) = rw (c.deletes_of.ensures, c.deref-3.ensures.value, c.owner_table-owner.ensures) at c.in_ok-deleted.ensures in
    let first : c.extend_from_slice.new.self.items ≡ own ++ contained = c.in_ok-extend_from_slice.ensures.items ∙ ap (λ (ts : List (Bor (List ℕ))). own ++ ts) c.deref-6.ensures.value in
    let whole : c.extend_from_slice-2.new.self.items ≡ (own ++ contained) ++ gone = c.in_ok-extend_from_slice-2.ensures.items ∙ (λ i. first i ++ c.deref-7.ensures.value i) in
    renewed_sorted own contained gone c.extend_from_slice-2.new.self.items c.sort_unstable.new.self.items _ _ _ whole c.sort_unstable.ensures.permutation own_is contained_is gone_is
