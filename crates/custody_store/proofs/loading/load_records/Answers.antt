use Rattle.std.proofs.Common.{rules}
use Rattle.custody_store.proofs.loading.load_records.Goals as goal

pub returns-in_err-lists-clause-found : goal.returns-in_err-lists-clause-found
returns-in_err-lists-clause-found g c clean first there =
    let found = c.in_err-lists.ensures.found clean first there c.args.volume.0 c.args.volume.1 in
    search rules
