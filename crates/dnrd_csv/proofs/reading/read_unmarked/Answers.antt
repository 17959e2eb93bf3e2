use Rattle.std.proofs.Common.{◌∙◌, Some, ap, arith, inr, sym}
use Rattle.std.proofs.lemmas.Result.{err_from_is_err_and}
use Rattle.csv.specs.Records.{fields_of}
use Rattle.dnrd_csv.specs.inside.RowReading.{IsAtRow}
use Rattle.dnrd_csv.proofs.Records.{unmarked_stays}
use Rattle.dnrd_csv.proofs.WalkLemmas.{no_rest, refused_rest, some_rest, uneven_rows, walked_fits, walked_more, walked_none, walked_rows, walked_short, walked_text, walked_uneven}
use Rattle.dnrd_csv.proofs.reading.read_unmarked.Goals as goal

pub loop-rest-init : goal.loop-rest-init
loop-rest-init c =
    let reader = c.from_reader-reader.ensures in
    let flexible = c.flexible.ensures in
    let named = c.has_headers.ensures in
    let at : IsAtRow c.from_reader-reader.result c.args.text.now = record {
      untrimmed = rw (flexible, named) at reader.trim ∙ c.new.ensures.trim;
      ready = inr (inr (rw (flexible, named) at reader.has_headers, reader.headers));
      config = rw (flexible, named) at reader.config ∙ c.new.ensures.config;
      start = reader.state;
      source = reader.source ∙ ap Some (unmarked_stays c.args.text.now c.requires.unmarked);
    } in
    walked_none c.args.text.now c.args.width c.from_reader-reader.result c.new-fields.result at c.new-fields.ensures.fields c.new-fields.ensures.partial

pub returns-in_err-rest-clause-refused : goal.returns-in_err-rest-clause-refused
returns-in_err-rest-clause-refused c =
    let told = err_from_is_err_and c.from_residual.result c.from_residual.ensures.1 in
    let rest = c.loop-rest.rest.now in
    let some = some_rest rest (sym c.is_empty.ensures ∙ c.loop-rest-test.true) in
    rw (told.1, told.2) (refused_rest c.args.text.now c.args.width c.loop-rest.reader c.loop-rest.fields c.loop-rest.count c.loop-rest.uneven rest
    c.loop-rest.invariant c.requires.utf8 c.requires.unmarked some _ c.in_err-rest.ensures.refused)

pub loop-rest-preserved : goal.loop-rest-preserved
loop-rest-preserved c =
    walked_more c.args.text.now c.args.width c.loop-rest.reader c.next_row.new.reader c.loop-rest.fields c.keep.new.fields c.loop-rest.count c.loop-rest.uneven c.in_ok-uneven.uneven
    c.loop-rest.rest.now c.in_ok-rest.rest.now (fields_of c.next_row.new.row) c.loop-rest.invariant
    c.in_ok-rest.ensures.row c.in_ok-rest.ensures.text c.in_ok-rest.ensures.at c.in_ok-uneven.ensures.partial c.in_ok-uneven.ensures.even c.in_ok-uneven.ensures.uneven

pub returns-in-Some-clause-refused : goal.returns-in-Some-clause-refused
returns-in-Some-clause-refused c =
    let walked = c.loop-rest.invariant in
    let width = c.args.width in
    let end = no_rest c.loop-rest.rest.now (sym c.is_empty.ensures ∙ c.loop-rest-test.false) in
    let text = walked_text c.args.text.now width c.loop-rest.reader c.loop-rest.fields c.loop-rest.count c.loop-rest.uneven c.loop-rest.rest.now walked c.requires.unmarked end in
    let first = walked_uneven c.args.text.now width c.loop-rest.reader c.loop-rest.fields c.loop-rest.count c.loop-rest.uneven c.loop-rest.rest.now (c.in-Some.row, c.in-Some.fields) walked c.in-Some.is in
    (c.requires.utf8, walked.all, text, uneven_rows width walked.all c.in-Some.row c.in-Some.fields first, first)

pub invariant_of-result : goal.invariant_of-result
invariant_of-result c =
    let walked = rw c.in-None.is at c.loop-rest.invariant in
    let fits = walked_fits c.args.text.now c.args.width c.loop-rest.reader c.loop-rest.fields c.loop-rest.count c.loop-rest.rest.now walked in
    record {
      fits = fits;
      small = omega (arith, fits, walked_short c.args.text.now c.args.width c.loop-rest.reader c.loop-rest.fields c.loop-rest.count c.loop-rest.rest.now walked, c.type_inv);
      in_form = rw (walked_rows c.args.text.now c.args.width c.loop-rest.reader c.loop-rest.fields c.loop-rest.count c.loop-rest.rest.now walked) walked.in_form;
    }

pub returns-clause-ok : goal.returns-clause-ok
returns-clause-ok c =
    let walked = rw c.in-None.is at c.loop-rest.invariant in
    let end = no_rest c.loop-rest.rest.now (sym c.is_empty.ensures ∙ c.loop-rest-test.false) in
    let rows = walked_rows c.args.text.now c.args.width c.loop-rest.reader c.loop-rest.fields c.loop-rest.count c.loop-rest.rest.now walked in
    let text = walked_text c.args.text.now c.args.width c.loop-rest.reader c.loop-rest.fields c.loop-rest.count _ c.loop-rest.rest.now walked c.requires.unmarked end in
    rw rows (text, walked.widths.1)
