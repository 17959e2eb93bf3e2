use Rattle.csv.specs.Records.{fields_of}
use Rattle.dnrd_csv.proofs.AnyRecords.{read_end, read_next}
use Rattle.dnrd_csv.proofs.any_spelling.next_row.Goals as goal

pub returns-clause-reading : goal.returns-clause-reading
returns-clause-reading c found =
    let read = rw found at c.in_ok-found.ensures.reads c.requires.untrimmed c.requires.ready in
    (read_next c.args.reader.now c.read_byte_record.new.self (fields_of c.read_byte_record.new.row) c.requires read (c.in_ok-found.ensures.ready c.requires.untrimmed)).0

pub returns-clause-row : goal.returns-clause-row
returns-clause-row c found =
    let read = rw found at c.in_ok-found.ensures.reads c.requires.untrimmed c.requires.ready in
    (read_next c.args.reader.now c.read_byte_record.new.self (fields_of c.read_byte_record.new.row) c.requires read (c.in_ok-found.ensures.ready c.requires.untrimmed)).1

pub returns-clause-end : goal.returns-clause-end
returns-clause-end c none =
    let read = rw none at c.in_ok-found.ensures.reads c.requires.untrimmed c.requires.ready in
    read_end c.args.reader.now c.read_byte_record.new.self (fields_of c.read_byte_record.new.row) c.requires read
