use Rattle.std.proofs.Common.{◌∙◌, ap, None, Some}
use Rattle.clap.specs.Words.{found_of, rows_of}
use Rattle.clap.proofs.WalkLemmas.{first_value-rows}
use Rattle.agent_cli.proofs.Readings.{count_where_given}
use Rattle.agent_cli.proofs.values.count_if_given.Goals as goal

pub returns-in_err-get_str : goal.returns-in_err-get_str
returns-in_err-get_str c =
    let given = c.in_err-get_str.ensures ∙ first_value-rows (found_of c.args.matches.now) c.args.id.now in
    c.from_residual.ensures ∙ count_where_given c.args.id.now c.args.most (rows_of (found_of c.args.matches.now)) None given

pub returns : goal.returns
returns c =
    let given = c.in_ok-get_str.ensures ∙ first_value-rows (found_of c.args.matches.now) c.args.id.now in
    ap (λ n. Some n) c.count_in.ensures.count
    ∙ count_where_given c.args.id.now c.args.most (rows_of (found_of c.args.matches.now)) (Some c.in_ok-get_str.field-0.now) given
