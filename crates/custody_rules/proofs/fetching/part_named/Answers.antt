use Rattle.std.proofs.Common.{◌≡◌, ◌∙◌, sym, ap, Ok, Err, Some, None}
use Rattle.custody_records.specs.MemoryRecords.{records_of}
use Rattle.custody_machine.specs.NameReading.{read_name}
use Rattle.custody_machine.proofs.Accepting.{read_of}
use Rattle.custody_machine.proofs.NameReading.{is_reading}
use Rattle.custody_rules.specs.Judging.{part_under}
use Rattle.custody_rules.proofs.fetching.part_named.Goals as goal

pub unreachable-requires : goal.unreachable-requires
unreachable-requires c =
    let named = c.requires.1 in
    let read : read_name c.args.text.now ≡ Ok c.in-Ok.name = read_of c.args.text.now c.in-Ok.name c.in-Ok.ensures.name in
    let known : read_name c.args.text.now ≡ Ok named.name = named.named in
    let same : named.name ≡ c.in-Ok.name = cc in
    let there : part_under (records_of c.args.records.now) c.in-Ok.name ≡ Some c.requires.0 = ap (part_under (records_of c.args.records.now)) (sym same) ∙ named.recorded in
    let none : part_under (records_of c.args.records.now) c.in-Ok.name ≡ None = sym c.in-None.ensures.found in
    cc

pub unreachable-requires-in-Err : goal.unreachable-requires-in-Err
unreachable-requires-in-Err c =
    let known : read_name c.args.text.now ≡ Ok c.requires.1.name = c.requires.1.named in
    let fault : read_name c.args.text.now ≡ Err c.in-Err.field-0 = (is_reading.faults c.args.text.now c.in-Err.field-0).1 c.in-Err.ensures.fault in
    cc

pub returns : goal.returns
returns c = record {
  name = c.in-Ok.name;
  named = read_of c.args.text.now c.in-Ok.name c.in-Ok.ensures.name;
  recorded = sym c.in-Some.ensures.found;
}
