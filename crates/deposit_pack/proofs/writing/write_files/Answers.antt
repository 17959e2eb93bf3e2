use Rattle.std.proofs.Common.{◌≤◌, ◌∙◌, ap, length, map, sym}
use Rattle.std.proofs.lemmas.List.Elements.{All-append}
use Rattle.dnrd_csv.specs.Text.{key_rows}
use Rattle.envelope.specs.Envelope.{file_length_max}
use Rattle.deposit_pack.specs.Packing.{NamedRows, file_of, objects_in}
use Rattle.deposit_pack.specs.PackErrors.{IsPackError}
use Rattle.deposit_pack.proofs.SourceLemmas.{error_kept}
use Rattle.deposit_pack.proofs.WrittenLemmas.{both_written, contents_among, deletes_among, names_same, write_error}
use Rattle.deposit_pack.proofs.writing.write_files.Goals as goal

pub returns-in_err-contents-clause-refused : goal.returns-in_err-contents-clause-refused
returns-in_err-contents-clause-refused c = λ a base.
    let source = c.args.source.now in
    let o = objects_in source in
    error_kept (IsPackError a source base) c.from_residual-in_err-contents.result c.in_err-contents.field-0.0 c.from_residual-in_err-contents.ensures.1
    (write_error a source base o.contents c.in_err-contents.field-0.0 (contents_among o)
    (c.in_err-contents.ensures.refused o.contents (names_same source.has_headers source.contents.now) (sym c.requires.tables ∙ sym c.deref.ensures.value)))

pub returns-in_err-deletes-clause-refused : goal.returns-in_err-deletes-clause-refused
returns-in_err-deletes-clause-refused c = λ a base.
    let source = c.args.source.now in
    let o = objects_in source in
    error_kept (IsPackError a source base) c.from_residual-in_err-deletes.result c.in_err-deletes.field-0.0 c.from_residual-in_err-deletes.ensures.1
    (write_error a source base o.deletes c.in_err-deletes.field-0.0 (deletes_among o)
    (c.in_err-deletes.ensures.refused o.deletes (names_same source.has_headers source.deletes.now) (sym c.requires.deleted ∙ ap (map key_rows) (sym c.deref-2.ensures.value))))

pub returns-clause-written : goal.returns-clause-written
returns-clause-written c =
    let source = c.args.source.now in
    let o = objects_in source in
    let first = c.in_ok-contents.ensures.written o.contents (names_same source.has_headers source.contents.now) (sym c.requires.tables ∙ sym c.deref.ensures.value) in
    let second = c.in_ok-deletes.ensures.written o.deletes (names_same source.has_headers source.deletes.now) (sym c.requires.deleted ∙ ap (map key_rows) (sym c.deref-2.ensures.value)) in
    record {
      bytes = both_written o c.in_ok-bytes.bytes.items c.write_tables.new.bytes.items c.write_keys.new.bytes.items c.in_ok-bytes.ensures.items first.bytes second.bytes;
      contents = first.listed;
      deletes = second.listed;
      lengths = All-append (λ (f : NamedRows). length (file_of f) ≤ file_length_max) o.contents o.deletes first.lengths second.lengths;
    }
