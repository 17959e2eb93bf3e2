use Rattle.std.proofs.Common.{refl, inl, inr}
use Rattle.clap.specs.Words.{found_of, rows_of}
use Rattle.agent_cli.specs.Order.{StatementReading}
use Rattle.agent_cli.specs.declared.order.Argument.TheVariants as argument
use Rattle.agent_cli.proofs.Readings.{bad_answers}
use Rattle.agent_cli.proofs.words.statement_in.Goals as goal

pub returns-in_err-kind : goal.returns-in_err-kind
returns-in_err-kind c =
    bad_answers (λ stated. stated) (StatementReading (rows_of (found_of c.args.matches.now))) argument.Kind _ c.in_err-kind.ensures.0 c.from_residual-in_err-kind.result c.from_residual-in_err-kind.ensures.1
    (inl (c.in_ok-tld.tld, c.in_ok-tld.ensures, inl (c.in_ok-day.day, c.in_ok-day.ensures, inr (c.in_err-kind.ensures.1, refl))))

pub returns-in_err-id : goal.returns-in_err-id
returns-in_err-id c =
    bad_answers (λ stated. stated) (StatementReading (rows_of (found_of c.args.matches.now))) argument.Id _ c.in_err-id.ensures.0 c.from_residual-in_err-id.result c.from_residual-in_err-id.ensures.1
    (inl (c.in_ok-tld.tld, c.in_ok-tld.ensures, inl (c.in_ok-day.day, c.in_ok-day.ensures, inl (c.in_ok-kind.kind, c.in_ok-kind.ensures, inr (c.in_err-id.ensures.1, refl)))))

pub returns : goal.returns
returns c = inl (c.in_ok-tld.tld, c.in_ok-tld.ensures, inl (c.in_ok-day.day, c.in_ok-day.ensures, inl (c.in_ok-kind.kind, c.in_ok-kind.ensures, inl (c.in_ok-id.id, c.in_ok-id.ensures, rw (c.revision_in.ensures, c.parts_in.ensures) refl))))
