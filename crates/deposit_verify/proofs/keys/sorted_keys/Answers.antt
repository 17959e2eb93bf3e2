use Rattle.deposit_verify.proofs.Searches.{permuted_texts}
use Rattle.deposit_verify.proofs.keys.sorted_keys.Goals as goal

pub returns : goal.returns
returns c = record {
  sorted = c.sort_unstable.ensures.sorted;
  same = rw c.in_ok-keys.ensures at (permuted_texts c.in_ok-keys.keys.items c.sort_unstable.new.self.items c.sort_unstable.ensures.permutation);
}
