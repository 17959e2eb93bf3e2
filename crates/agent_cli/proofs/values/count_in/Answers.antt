use Rattle.std.proofs.Common.{◌∙◌, ◌≤◌, ◌<◌, ℕ, arith, subst}
use Rattle.clap.specs.Words.{found_of, one_of, rows_of}
use Rattle.agent_cli.proofs.Readings.{count_above, count_got, count_within}
use Rattle.agent_cli.proofs.values.count_in.Goals as goal

pub returns-then-count-most-clause-count : goal.returns-then-count-most-clause-count
returns-then-count-most-clause-count c =
    let is = c.unwrap_or-count.ensures ∙ count_got (found_of c.args.matches.now) c.args.id.now c.get_one.result c.get_one.ensures.none c.get_one.ensures.value in
    count_above (one_of c.args.id.now (rows_of (found_of c.args.matches.now))) c.args.most (omega arith)
    (subst (λ (n : ℕ). c.args.most < n) is c.if-count-most.true)

pub returns-else-count-most-clause-count : goal.returns-else-count-most-clause-count
returns-else-count-most-clause-count c =
    let is = c.unwrap_or-count.ensures ∙ count_got (found_of c.args.matches.now) c.args.id.now c.get_one.result c.get_one.ensures.none c.get_one.ensures.value in
    let small : c.unwrap_or-count.result ≤ c.args.most = omega (arith, c.if-count-most.false) in
    is ∙ count_within (one_of c.args.id.now (rows_of (found_of c.args.matches.now))) c.args.most (omega arith) (subst (λ (n : ℕ). n ≤ c.args.most) is small)
