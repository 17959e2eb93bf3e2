use Rattle.std.proofs.Common.{refl, inl, inr}
use Rattle.clap.specs.Words.{found_of, rows_of}
use Rattle.agent_cli.specs.Order.{DeedReading, deed_meaning}
use Rattle.agent_cli.specs.declared.order.Argument.TheVariants as argument
use Rattle.agent_cli.specs.declared.subcommands.Subcommand.TheVariants as subcommand
use Rattle.agent_cli.proofs.Readings.{bad_answers}
use Rattle.agent_cli.proofs.words.hold_in.Goals as goal

pub returns-in_err-reference : goal.returns-in_err-reference
returns-in_err-reference c =
    bad_answers deed_meaning (DeedReading subcommand.Hold (rows_of (found_of c.args.matches.now))) argument.Reference _ c.in_err-reference.ensures.0 c.from_residual-in_err-reference.result c.from_residual-in_err-reference.ensures.1
    (inl (c.in_ok-tld.tld, c.in_ok-tld.ensures, inl (c.in_ok-day.day, c.in_ok-day.ensures, inr (c.in_err-reference.ensures.1, refl))))

pub returns : goal.returns
returns c = inl (c.in_ok-tld.tld, c.in_ok-tld.ensures, inl (c.in_ok-day.day, c.in_ok-day.ensures, inl (c.in_ok-reference.reference, c.in_ok-reference.ensures, refl)))
