use Rattle.std.proofs.lemmas.Result.{on_ok_weaker}
use Rattle.dnrd_csv.specs.inside.RowKeys.{borrowed_texts}
use Rattle.deposit_tables.specs.Unchanged.{HasSameRows}
use Rattle.deposit_tables.specs.inside.Changing.{HasOwnRow}
use Rattle.deposit_tables.proofs.KeysChanged.{added_same, added_twice, differ}
use Rattle.deposit_tables.proofs.changed_keys.push_different.Goals as goal

pub returns : goal.returns
returns c =
    let old = c.args.old.now in
    let new = c.args.new.now in
    let before = borrowed_texts c.args.keys.now.items in
    let middle = borrowed_texts c.push_own.new.keys.items in
    let after = borrowed_texts c.push_own-2.new.keys.items in
    on_ok_weaker c.push_own-2.result (λ then.
    added_same before after _ (λ key. ¬ HasSameRows old new key) (added_twice before middle after (HasOwnRow old new) (HasOwnRow new old) c.in_ok-push_own.ensures then) (differ old new))
    c.push_own-2.ensures
