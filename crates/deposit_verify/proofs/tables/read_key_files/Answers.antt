use Rattle.std.proofs.Common.{◌<◌, ◌∷◌, [], arith, get_or, length, length-append, refl}
use Rattle.dnrd_csv.specs.inside.RowKeys.{borrowed_texts}
use Rattle.dnrd_csv.specs.Text.{key_rows}
use Rattle.deposit_verify.specs.Deposit.{IsKeyFileOf, IsKeyFile}
use Rattle.deposit_verify.specs.FilesReasons.{IsKeysFault}
use Rattle.deposit_verify.specs.declared.files_reason.FileList.TheVariants.{Deletes}
use Rattle.deposit_verify.proofs.FaultPlaces.{first_fault}
use Rattle.deposit_verify.proofs.Lists.{file_from, no_entry, zip_at}
use Rattle.deposit_verify.proofs.TableLemmas.{read_more}
use Rattle.deposit_verify.proofs.tables.read_key_files.Goals as goal

pub returns-in-Err-clause-read : goal.returns-in-Err-clause-read
returns-in-Err-clause-read c = λ every.
    let entries = c.args.entries.now in
    let files = c.args.files.now in
    let place = c.loop-place.place in
    let inside : c.loop-place.place < length files = omega (arith, c.loop-place-test.true, c.requires.count) in
    let there = file_from IsKeyFile entries files place _ _ inside (zip_at IsKeyFile entries (borrowed_texts files) place _ [] every c.loop-place-test.true) in
    (rw c.in-Err.is at c.in_ok-keys.ensures.read) there.0 there.1

pub returns-in-Err-clause-place : goal.returns-in-Err-clause-place
returns-in-Err-clause-place c = (
  refl,
  first_fault IsKeyFile IsKeysFault Deletes c.args.entries.now c.args.files.now c.loop-place.place no_entry _ c.in-Err.fault c.requires.count c.loop-place-test.true (rw c.in-Err.is at c.in_ok-keys.ensures.fault)
      (λ k less. (key_rows (get_or c.loop-place.all.items k []), c.loop-place.invariant.each k no_entry less)),
)

pub loop-place-preserved : goal.loop-place-preserved
loop-place-preserved c =
    let all = c.loop-place.all.items in
    let inside : c.loop-place.place < length c.args.files.now = omega (arith, c.loop-place-test.true, c.requires.count) in
    rw c.in_ok-push-in-Ok.ensures.items (record {
      count = omega (arith, length-append all (c.in-Ok.keys ∷ []), c.loop-place.invariant.count);
      each = read_more (λ entry file keys. IsKeyFileOf entry.name file (key_rows keys)) [] c.args.entries.now c.args.files.now all c.in-Ok.keys c.loop-place.place _ _ c.loop-place.invariant.count c.loop-place-test.true inside c.loop-place.invariant.each (rw c.in-Ok.is at c.in_ok-keys.ensures.read);
    })
