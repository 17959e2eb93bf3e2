use Rattle.std.proofs.Common.{◌<◌, ◌∙◌, [], List, ap, arith, length, map, subst, sym}
use Rattle.std.proofs.lemmas.List.{get_or-map, get_or_read, take_all}
use Rattle.dnrd_csv.specs.Text.{key_rows, table_text}
use Rattle.deposit_pack.specs.Packing.{NamedRows}
use Rattle.deposit_pack.specs.inside.Writing.{AreAppended, IsWriteError}
use Rattle.deposit_pack.proofs.SourceLemmas.{error_kept, no_file}
use Rattle.deposit_pack.proofs.WrittenLemmas.{cut_behind, long_at, sized, written_more}
use Rattle.deposit_pack.proofs.writing.write_keys.Goals as goal

pub returns-in_err-packed_entry-clause-refused : goal.returns-in_err-packed_entry-clause-refused
returns-in_err-packed_entry-clause-refused c = λ files named same.
    let deleted = c.args.deleted.now in
    let keys = c.index-deleted-i.result in
    let inside : c.loop-i.i < length deleted = omega arith in
    let read = ap key_rows (get_or_read deleted c.loop-i.i keys inside c.index-deleted-i.is []) ∙ sym (get_or-map key_rows deleted c.loop-i.i [] [] inside) in
    let cut = cut_behind c.loop-i.bytes.items (table_text (key_rows keys)) c.deref.result.now c.len-start.result (c.deref.ensures.value ∙ c.in_ok-write.ensures) (c.len-start.ensures ∙ c.loop-i.bytes.ok.0) in
    error_kept (IsWriteError files) c.from_residual-in_err-packed_entry.result c.in_err-packed_entry.field-0.0 c.from_residual-in_err-packed_entry.ensures.1
    (long_at files c.args.deletes.now (map key_rows deleted) c.loop-i.i _ (key_rows keys) c.in_err-packed_entry.field-0.0 named same c.loop-i-test.true read cut c.in_err-packed_entry.ensures.long)

pub loop-i-preserved : goal.loop-i-preserved
loop-i-preserved c = λ files named same.
    let deleted = c.args.deleted.now in
    let keys = c.index-deleted-i.result in
    let inside : c.loop-i.i < length deleted = omega arith in
    let read = ap key_rows (get_or_read deleted c.loop-i.i keys inside c.index-deleted-i.is []) ∙ sym (get_or-map key_rows deleted c.loop-i.i [] [] inside) in
    let cut = cut_behind c.loop-i.bytes.items (table_text (key_rows keys)) c.deref.result.now c.len-start.result (c.deref.ensures.value ∙ c.in_ok-write.ensures) (c.len-start.ensures ∙ c.loop-i.bytes.ok.0) in
    rw c.in_ok-push.ensures.items
    (written_more files c.args.deletes.now (map key_rows deleted) c.loop-i.i no_file c.args.bytes.now.items c.loop-i.bytes.items c.write.new.out.items _ (key_rows keys) c.loop-i.entries.items c.in_ok-packed_entry.field-0
    named same c.loop-i-test.true read (c.loop-i.invariant files named same) c.in_ok-write.ensures cut c.in_ok-packed_entry.ensures.made c.in_ok-packed_entry.ensures.short)

pub returns-clause-written : goal.returns-clause-written
returns-clause-written c = λ files named same.
    subst (λ (fs : List NamedRows). AreAppended fs c.args.bytes.now.items c.loop-i.bytes.items c.loop-i.entries.items) (take_all c.loop-i.i files (omega (arith, sized files c.args.deletes.now named))) (c.loop-i.invariant files named same)
