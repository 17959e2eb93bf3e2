use Rattle.std.specs.Prelude.{◌≡◌, ◌≤◌, ◌⊎◌, ◌-◌, ◌++◌, map}
use Rattle.std.specs.List.{filter, range_with_len}
use Rattle.custody_records.specs.MemoryRecords.{records_of}
use Rattle.custody_rules.specs.DueDays.{due_day_pair, is_unnoticed}
use Rattle.custody_rules.proofs.days_due.add_due.Given as goal

abbrev pub invariant-loop-tld : goal.invariant-loop-tld
invariant-loop-tld l = (l.registry.first_day ≤ l.day) × ((l.day ≡ l.registry.first_day) ⊎ (l.day ≤ l.today))
    × (map due_day_pair l.due.items ≡ map due_day_pair l.fn.due.items ++ filter (is_unnoticed (records_of l.records)) (map (λ day. (l.registry.tld, day)) (range_with_len l.registry.first_day (l.day - l.registry.first_day))))

abbrev pub decreases-loop-tld : goal.decreases-loop-tld
decreases-loop-tld l = l.today - l.day
