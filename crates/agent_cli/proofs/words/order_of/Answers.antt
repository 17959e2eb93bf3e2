use Rattle.std.proofs.Common.{◌∙◌, ◌≡◌, ap, subst, sym, IfSome, List, ℕ, Some, is_some, map, true, false}
use Rattle.std.specs.String.{string_bytes}
use Rattle.clap.specs.Words.{HasKind, found_of, rows_of}
use Rattle.clap.proofs.WalkLemmas.{both}
use Rattle.agent_cli.specs.Order.{ReadsWords, SubcommandReading, subcommand_named}
use Rattle.agent_cli.proofs.Readings.{fault_answers, knows_subcommand, met_asks, met_rows, order_answers}
use Rattle.agent_cli.proofs.words.order_of.Goals as goal

pub returns-in-Err : goal.returns-in-Err
returns-in-Err c =
    let words : List (List ℕ) = map string_bytes c.args.words.now in
    let app = c.in_ok-command.ensures in
    let kinds = subst (λ k. HasKind k c.in-Err.error) app.fault (c.in-Err.ensures.kinds app.simple) in
    fault_answers words c.in-Err.error c.fault_from.result c.fault_from.ensures kinds

pub returns : goal.returns
returns c =
    let words : List (List ℕ) = map string_bytes c.args.words.now in
    let rows = rows_of (found_of c.in-Some.inner.now) in
    let app = c.in_ok-command.ensures in
    let none = sym app.fault ∙ c.in-Ok.ensures.kinds app.simple in
    let met = met_rows c.in-Ok.matches c.in-Some.name.now rows c.in-Some.ensures.name c.in-Some.ensures.rows in
    let sub = (c.in-Ok.ensures.matches (both _ _ app.simple).0).1 ∙ app.met in
    let known : Some c.in-Some-named.subcommand ≡ subcommand_named c.in-Some.name.now = sym c.in-Some-named.is ∙ c.named.ensures in
    order_answers c.in-Some-named.subcommand rows (ReadsWords words)
    (λ r h. met_asks words c.in-Some.name.now rows none (sym sub ∙ met) r (subst (λ o. SubcommandReading o rows r) known h)) c.order_in.result c.order_in.ensures

pub unreachable-requires-in-None : goal.unreachable-requires-in-None
unreachable-requires-in-None c =
    let words : List (List ℕ) = map string_bytes c.args.words.now in
    let app = c.in_ok-command.ensures in
    let none = sym app.fault ∙ c.in-Ok.ensures.kinds app.simple in
    let met = met_rows c.in-Ok.matches c.in-Some.name.now (rows_of (found_of c.in-Some.inner.now)) c.in-Some.ensures.name c.in-Some.ensures.rows in
    let sub = (c.in-Ok.ensures.matches (both _ _ app.simple).0).1 ∙ app.met in
    let known : is_some (subcommand_named c.in-Some.name.now) ≡ true = subst (λ o. IfSome o (λ p. is_some (subcommand_named p.0) ≡ true)) (sym sub ∙ met) (knows_subcommand words none) in
    let clash : true ≡ false = sym known ∙ ap is_some (sym c.named.ensures ∙ c.in-None.is) in
    cc
