use Rattle.std.proofs.Common.{rules, tests, Bor, ◌≡◌, Option, None, ◌∙◌, sym, ap, ℕ}
use Rattle.std.specs.Prelude.{option_map}
use Rattle.std.proofs.lemmas.Iterator.{YieldsList-from_slice}
use Rattle.std.proofs.lemmas.Iterator.Search.{find_from_yields_List}
use Rattle.desk.specs.declared.notices.Notice.{Notice}
use Rattle.custody_rules.specs.inside.PassedDeposits.{has_passed}
use Rattle.custody_rules.proofs.Passed.{day_of_registry}
use Rattle.custody_rules.proofs.passed_deposits.passed_day.Goals as goal

abbrev day_of : Option (Bor Notice) → Option ℕ
day_of found = option_map (λ (n : Notice). n.day) (option_map (λ (n : Bor Notice). n.now) found)

pub returns-in_err-notice : goal.returns-in_err-notice
returns-in_err-notice c = λ records tld noted.
    let id = c.args.id.now in
    let none : c.from_residual.result ≡ None = search rules in
    none ∙ sym (ap day_of c.in_err-notice.was)
    ∙ ap (option_map (λ (n : Notice). n.day)) (find_from_yields_List (has_passed id) _ _ _ c.find.ensures.ran (YieldsList-from_slice c.args.notices.now cc) (λ x b q k. search (rules, tests)))
    ∙ day_of_registry records tld id c.args.notices.now noted

pub returns : goal.returns
returns c = λ records tld noted.
    let id = c.args.id.now in
    sym (ap day_of c.in_ok-notice.was)
    ∙ ap (option_map (λ (n : Notice). n.day)) (find_from_yields_List (has_passed id) _ _ _ c.find.ensures.ran (YieldsList-from_slice c.args.notices.now cc) (λ x b q k. search (rules, tests)))
    ∙ day_of_registry records tld id c.args.notices.now noted
