use Rattle.std.proofs.Common.{◌<◌, ◌∷◌, [], arith, get_or, length, length-append, refl}
use Rattle.deposit_verify.specs.Deposit.{IsTableFile, IsTableOf}
use Rattle.deposit_verify.specs.FilesReasons.{IsTableFault}
use Rattle.deposit_verify.specs.declared.files_reason.FileList.TheVariants.{Contents}
use Rattle.deposit_verify.proofs.FaultPlaces.{first_fault}
use Rattle.deposit_verify.proofs.Lists.{no_entry}
use Rattle.deposit_verify.proofs.TableLemmas.{read_more}
use Rattle.deposit_verify.proofs.tables.read_tables.Goals as goal

pub returns-in-Err-clause-place : goal.returns-in-Err-clause-place
returns-in-Err-clause-place c = (
  refl,
  first_fault IsTableFile IsTableFault Contents c.args.entries.now c.args.files.now c.loop-place.place no_entry _ c.in-Err.fault c.requires c.loop-place-test.true (rw c.in-Err.is at c.in_ok-rows.ensures.fault)
      (λ k less. (get_or c.loop-place.tables.items k [], c.loop-place.invariant.each k no_entry less)),
)

pub loop-place-preserved : goal.loop-place-preserved
loop-place-preserved c =
    let tables = c.loop-place.tables.items in
    let inside : c.loop-place.place < length c.args.files.now = omega (arith, c.loop-place-test.true, c.requires) in
    rw c.in_ok-push-in-Ok.ensures.items (record {
      count = omega (arith, length-append tables (c.in-Ok.rows ∷ []), c.loop-place.invariant.count);
      each = read_more (λ entry file rows. IsTableOf entry.name file rows) [] c.args.entries.now c.args.files.now tables c.in-Ok.rows c.loop-place.place _ _ c.loop-place.invariant.count c.loop-place-test.true inside c.loop-place.invariant.each (rw c.in-Ok.is at c.in_ok-rows.ensures.read);
    })
