use Rattle.std.proofs.Common.{ℕ, List, rules, tests}
use Rattle.std.proofs.lemmas.Iterator.Consumers.{YieldsList-from_first}
use Rattle.std.proofs.lemmas.Iterator.Search.{all_from_yields_List}
use Rattle.custody_records.specs.MemoryRecords.{records_of}
use Rattle.custody_records.specs.Lines.{lines_left}
use Rattle.custody_machine.specs.NameReading.{read_name}
use Rattle.custody_machine.specs.StoredState.{is_name_of_part}
use Rattle.custody_rules.proofs.links.are_names_recorded.Goals as goal

pub returns : goal.returns
returns c =
    all_from_yields_List (λ (text : List ℕ). is_name_of_part (records_of c.args.records.now) c.args.tld.now (read_name text)) c.all.new.self _ _ c.all.ensures.ran (YieldsList-from_first (λ x. x.now) lines_left {s = c.lines.result} c.args.names.now c.lines.ensures) (λ x b q k. search (rules, tests))
