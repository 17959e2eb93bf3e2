use Rattle.std.proofs.Common.{refl, inl, inr}
use Rattle.clap.specs.Words.{found_of, rows_of}
use Rattle.agent_cli.specs.Order.{DeedReading, OrderReading, deed_meaning, meaning}
use Rattle.agent_cli.specs.declared.order.Argument.TheVariants as argument
use Rattle.agent_cli.proofs.Readings.{bad_answers, no_value_answers}
use Rattle.agent_cli.proofs.words.order_in.Goals as goal

pub returns-in_err-deed : goal.returns-in_err-deed
returns-in_err-deed c =
    no_value_answers deed_meaning (DeedReading c.args.subcommand (rows_of (found_of c.args.matches.now))) meaning (OrderReading c.args.subcommand (rows_of (found_of c.args.matches.now)))
    (λ a reads. inr (a, reads, refl)) _ c.in_err-deed.ensures c.from_residual.result c.from_residual.ensures.1

pub returns-in_err-now : goal.returns-in_err-now
returns-in_err-now c =
    bad_answers meaning (OrderReading c.args.subcommand (rows_of (found_of c.args.matches.now))) argument.Now _ c.in_err-now.ensures.0 c.from_residual-in_err-now.result c.from_residual-in_err-now.ensures.1
    (inl (deed_meaning c.in_ok-deed.deed, c.in_ok-deed.ensures, inr (c.in_err-now.ensures.1, refl)))

pub returns : goal.returns
returns c = inl (deed_meaning c.in_ok-deed.deed, c.in_ok-deed.ensures, inl (c.in_ok-now.now, c.in_ok-now.ensures, rw c.text_in-folder.ensures refl))
