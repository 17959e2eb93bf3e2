use Rattle.std.proofs.Common.{◌∙◌, ap, inl, inr, not}
use Rattle.desk.specs.Lines.{report_text}
use Rattle.custody.specs.Custody.{is_open, open_custody_of}
use Rattle.custody.specs.OpenCustody.{current_records}
use Rattle.custody_records.specs.MemoryRecords.{records_of}
use Rattle.http_api.specs.declared.status.ResponseStatus.TheVariants.{Done}
use Rattle.http_api.specs.Responses.{text_response}
use Rattle.http_api.proofs.ReportLemmas.{report_long, report_told}
use Rattle.http_api.proofs.handling.report_message.Goals as goal

pub returns-in-Some : goal.returns-in-Some
returns-in-Some g c =
    let custody = c.args.custody.now in
    inl (ap (λ ns. text_response Done (report_text ns)) c.in-Some.ensures.some
    ∙ report_told (is_open custody) (current_records (open_custody_of custody)) (records_of c.in-Ok.records.now) c.args.tld.now c.first_day.result c.notices_of.result.now c.in-Ok.ensures.found.0
    c.in-Ok.ensures.found.1 c.first_day.ensures (c.is_none.ensures ∙ ap not c.if-is_none.false) c.notices_of.ensures)

pub returns-in-None : goal.returns-in-None
returns-in-None g c =
    let custody = c.args.custody.now in
    inr (report_long (current_records (open_custody_of custody)) (records_of c.in-Ok.records.now) c.args.tld.now c.notices_of.result.now c.in-Ok.ensures.found.1 c.notices_of.ensures c.in-None.ensures.none, c.failure_response-in-None.ensures)
