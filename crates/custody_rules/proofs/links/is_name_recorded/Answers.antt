use Rattle.std.proofs.Common.{◌≡◌, ◌∙◌, sym, ap, Ok, Err}
use Rattle.custody_records.specs.MemoryRecords.{records_of}
use Rattle.custody_machine.specs.NameReading.{read_name}
use Rattle.custody_machine.specs.StoredState.{is_name_of_part}
use Rattle.custody_machine.proofs.NameReading.{is_reading}
use Rattle.custody_rules.proofs.links.is_name_recorded.Goals as goal

pub returns-in-Ok : goal.returns-in-Ok
returns-in-Ok c =
    let read : read_name c.args.text.now ≡ Ok c.in-Ok.name = (is_reading.names c.args.text.now c.in-Ok.name).1 c.in-Ok.ensures.name in
    c.is_recorded.ensures ∙ ap (is_name_of_part (records_of c.args.records.now) c.args.tld.now) (sym read)

pub returns-in-Err : goal.returns-in-Err
returns-in-Err c =
    let read : read_name c.args.text.now ≡ Err c.in-Err.field-0 = (is_reading.faults c.args.text.now c.in-Err.field-0).1 c.in-Err.ensures.fault in
    ap (is_name_of_part (records_of c.args.records.now) c.args.tld.now) (sym read)
