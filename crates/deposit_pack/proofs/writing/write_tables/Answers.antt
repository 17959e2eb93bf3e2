use Rattle.std.proofs.Common.{◌∙◌, [], arith}
use Rattle.std.proofs.lemmas.List.{get_or_read}
use Rattle.dnrd_csv.specs.Text.{table_text}
use Rattle.deposit_pack.specs.inside.Writing.{IsWriteError}
use Rattle.deposit_pack.proofs.SourceLemmas.{error_kept, no_file}
use Rattle.deposit_pack.proofs.WrittenLemmas.{cut_behind, long_at, written_more}
use Rattle.deposit_pack.proofs.writing.write_tables.Goals as goal

pub returns-in_err-packed_entry-clause-refused : goal.returns-in_err-packed_entry-clause-refused
returns-in_err-packed_entry-clause-refused c = λ files named same.
    let rows = c.index-tables-i.result in
    let read = get_or_read c.args.tables.now c.loop-i.i rows (omega arith) c.index-tables-i.is [] in
    let cut = cut_behind c.loop-i.bytes.items (table_text rows) c.deref.result.now c.len-start.result (c.deref.ensures.value ∙ c.in_ok-write.ensures) (c.len-start.ensures ∙ c.loop-i.bytes.ok.0) in
    error_kept (IsWriteError files) c.from_residual-in_err-packed_entry.result c.in_err-packed_entry.field-0.0 c.from_residual-in_err-packed_entry.ensures.1
    (long_at files c.args.contents.now c.args.tables.now c.loop-i.i _ rows c.in_err-packed_entry.field-0.0 named same c.loop-i-test.true read cut c.in_err-packed_entry.ensures.long)

pub loop-i-preserved : goal.loop-i-preserved
loop-i-preserved c = λ files named same.
    let rows = c.index-tables-i.result in
    let read = get_or_read c.args.tables.now c.loop-i.i rows (omega arith) c.index-tables-i.is [] in
    let cut = cut_behind c.loop-i.bytes.items (table_text rows) c.deref.result.now c.len-start.result (c.deref.ensures.value ∙ c.in_ok-write.ensures) (c.len-start.ensures ∙ c.loop-i.bytes.ok.0) in
    rw c.in_ok-push.ensures.items
    (written_more files c.args.contents.now c.args.tables.now c.loop-i.i no_file c.args.bytes.now.items c.loop-i.bytes.items c.write.new.out.items _ rows c.loop-i.entries.items c.in_ok-packed_entry.field-0
    named same c.loop-i-test.true read (c.loop-i.invariant files named same) c.in_ok-write.ensures cut c.in_ok-packed_entry.ensures.made c.in_ok-packed_entry.ensures.short)
