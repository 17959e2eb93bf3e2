use Rattle.std.proofs.Common.{◌≡◌, ◌∙◌, Bor, List, ℕ, ap, filter, length, sym, ◌+◌}
use Rattle.std.proofs.lemmas.List.{length-map}
use Rattle.dnrd_csv.specs.inside.RowKeys.{borrowed_texts}
use Rattle.deposit_verify.specs.inside.SortedKeys.{owned_texts}
use Rattle.deposit_verify.proofs.KeyCounts.{number_after, unnamed}
use Rattle.deposit_verify.proofs.key_set.KeySet.count_after.Goals as goal

pub returns : goal.returns
returns c =
    let contained = borrowed_texts c.args.contained.now in
    let named = borrowed_texts c.args.named.now in
    let counted = rw c.deref.ensures.value at c.count_unnamed.ensures.count in
    let size : length contained ≡ length c.args.contained.now = length-map c.args.contained.now (λ (t : Bor (List ℕ)). t.now) in
    rw (← c.self.view_is)
    (ap (λ n. n + length c.args.contained.now) counted ∙ ap (λ n. length (filter (unnamed named) (owned_texts c.self.inside.keys.items)) + n) (sym size)
    ∙ number_after (owned_texts c.self.inside.keys.items) contained named c.self.invariant c.requires.once c.requires.among)
