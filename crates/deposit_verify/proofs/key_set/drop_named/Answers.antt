use Rattle.std.proofs.Common.{Vec, ap, sym, ◌∙◌, ℕ, rules}
use Rattle.std.proofs.lemmas.Fn.{filter_same}
use Rattle.std.specs.declared.alloc.Global.{Global}
use Rattle.dnrd_csv.specs.inside.RowKeys.{borrowed_texts}
use Rattle.deposit_verify.specs.inside.SortedKeys.{owned_texts}
use Rattle.deposit_verify.proofs.KeyCounts.{filter-items, unnamed}
use Rattle.deposit_verify.proofs.key_set.drop_named.Goals as goal

pub returns : goal.returns
returns c =
    let named = borrowed_texts c.args.named.now in
    ap owned_texts (filter_same _ (λ (key : Vec ℕ Global). unnamed named key.items) _ (λ key b f' k. search rules) _ _ c.retain.ensures.filtered)
    ∙ sym (filter-items (unnamed named) c.args.keys.now.items)
