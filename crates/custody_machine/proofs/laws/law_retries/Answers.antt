use Rattle.custody_machine.proofs.Retries.{keys_are_compared, acts_once, repeats_are_answered}
use Rattle.custody_machine.proofs.Continuing.{nothing_is_removed}
use Rattle.custody_machine.proofs.Keeping.{replies_are_records}
use Rattle.custody_machine.proofs.laws.law_retries.Goals as goal

pub returns : goal.returns
returns c = record { keys = keys_are_compared; once = acts_once; answered = repeats_are_answered; kept = nothing_is_removed; replies = replies_are_records }
