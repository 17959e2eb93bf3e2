use Rattle.std.proofs.Common.{◌≡◌, map, take}
use Rattle.custody_records.specs.TypedRecords.{notice_entry}
use Rattle.plain_machine.specs.Plain.{greatest_number_of}
use Rattle.plain_machine.proofs.notice_kinds.greatest_number_of.Given as goal

abbrev pub invariant-loop-notice : goal.invariant-loop-notice
invariant-loop-notice l = l.greatest ≡ greatest_number_of l.tld (map notice_entry (take l.notice-index l.rows))
