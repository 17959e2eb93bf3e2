use Rattle.dnrd_csv.specs.inside.RowKeys.{borrowed_texts}
use Rattle.deposit_verify.specs.inside.SortedKeys.{owned_texts}
use Rattle.deposit_verify.proofs.KeyCounts.{after_some}
use Rattle.deposit_verify.proofs.key_set.KeySet.change.Goals as goal

pub invariant_of-self : goal.invariant_of-self
invariant_of-self c =
    let contained = borrowed_texts c.args.contained.now in
    rw (c.add_keys.ensures.some.1, c.drop_named.ensures)
    (after_some (owned_texts c.self.inside.keys.items) contained (borrowed_texts c.args.named.now) c.add_keys.ensures.some.0 c.self.invariant c.requires.once c.requires.among)
