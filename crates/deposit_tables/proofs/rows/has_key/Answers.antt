use Rattle.deposit_verify.proofs.Searches.{search_decides}
use Rattle.deposit_tables.proofs.rows.has_key.Goals as goal

pub returns : goal.returns
returns c =
    rw c.is_ok.ensures.value (search_decides c.args.keys.now c.args.text c.binary_search.result c.requires c.binary_search.ensures.bound c.binary_search.ensures.position)
