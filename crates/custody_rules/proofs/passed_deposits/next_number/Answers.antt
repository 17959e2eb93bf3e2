use Rattle.std.proofs.Common.{rules, ◌≡◌, ◌≤◌, ◌+◌, ◌∙◌, ap, subst}
use Rattle.std.specs.Prelude.{IfSome, IfNone}
use Rattle.custody_records.specs.MemoryRecords.{records_of}
use Rattle.custody_machine.specs.Machine.{next_number}
use Rattle.custody_rules.proofs.Numbers.{next_by_rows}
use Rattle.custody_rules.proofs.passed_deposits.next_number.Goals as goal

pub returns : goal.returns
returns c =
    let is : c.greatest_number.result + 1 ≡ next_number (records_of c.args.records.now).notices c.args.tld.now =
    ap (λ n. n + 1) c.greatest_number.ensures ∙ next_by_rows (records_of c.args.records.now) c.args.tld.now c.notices_of.result.now c.notices_of.ensures in
    record {
      some = subst (λ n. IfSome c.checked_add.result (λ m. m ≡ n)) is (search rules);
      none = subst (λ n. IfNone c.checked_add.result (18446744073709551616 ≤ n)) is (search rules);
    }
