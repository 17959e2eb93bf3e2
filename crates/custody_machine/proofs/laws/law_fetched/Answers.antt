use Rattle.custody_machine.proofs.Fetching.{fetches_one, fetches_held}
use Rattle.custody_machine.proofs.laws.law_fetched.Goals as goal

pub returns : goal.returns
returns c = record { one = fetches_one; held = fetches_held }
