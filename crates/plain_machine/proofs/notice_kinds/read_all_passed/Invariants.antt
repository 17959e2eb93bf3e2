use Rattle.std.proofs.Common.{◌≡◌, take}
use Rattle.std.specs.List.{filter_map}
use Rattle.custody_records.specs.TypedRecords.{notice_entry}
use Rattle.custody_machine.specs.Machine.{passed_deposit}
use Rattle.plain_machine.proofs.notice_kinds.read_all_passed.Given as goal

abbrev pub invariant-loop-notice : goal.invariant-loop-notice
invariant-loop-notice l = l.all.items ≡ filter_map (λ n. passed_deposit l.tld (notice_entry n)) (take l.notice-index l.rows)
