use Rattle.std.proofs.Common.{[], arith, get_or, rules}
use Rattle.std.proofs.lemmas.Fn.{always_returns_same}
use Rattle.std.proofs.lemmas.Grind.{common_steps}
use Rattle.deposit_tables.proofs.RowsFound.{order_of, search_row}
use Rattle.deposit_tables.proofs.changed_keys.has_row.Goals as goal

pub returns : goal.returns
returns c =
    let rows = c.args.rows.now in
    let row = get_or c.args.other.now c.args.row [] in
    let at = c.binary_search_by.ensures.position (order_of rows row) (always_returns_same _ _ _ (λ a r s called.
    (first_of (search rules, grind (arith, common_steps)), first_of (search rules, cc, grind (arith, common_steps))))) in
    rw c.is_ok.ensures.value (search_row c.args.width rows c.args.places.now row c.requires.most c.requires.width (c.requires.other c.args.row [] c.requires.inside) c.requires.places c.binary_search_by.result
    c.requires.sorted c.binary_search_by.ensures.bound at)
