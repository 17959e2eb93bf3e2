use Rattle.http_request.proofs.Finding.{three_taken}
use Rattle.http_request.proofs.routes.target_of.Goals as goal

pub returns : goal.returns
returns c =
    let first = rw c.iter-values.ensures.value at c.next_value-first.ensures in
    three_taken c.args.route _ _ _ _ _ _ _ first c.next_value-second.ensures c.next_value-third.ensures
