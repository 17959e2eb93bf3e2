-- Days that rise.
use Rattle.std.proofs.Common.{◌≡◌, ◌<◌, [], Bool, List, IsTrue, true, false, arith, length, nat_lt, refl}
use Rattle.std.specs.Prelude.{◌↔◌}
use Rattle.std.specs.List.{AllAdjacentBelow, IsAllAdjacentAnswer}
use Rattle.std.proofs.lemmas.Grind.{common_steps}
use Rattle.deposit_name.specs.Name.{Name}
use Rattle.deposit_name.specs.declared.kinds.Kind.TheVariants.{Full}

no_name : Name
no_name = record { tld = []; day = 0; kind = Full; part = 1; rev = 0 }

-- what the comparison of each name and the next says
pub rise_by_answer : (names : List Name) (answer : Bool) → IsAllAdjacentAnswer (λ one next b. b ≡ nat_lt one.day next.day) names answer
    → IsTrue answer ↔ AllAdjacentBelow (λ one next. one.day < next.day) names (length names)
rise_by_answer names true said = (λ _ k d within. let here = said k d within in grind (arith, common_steps), λ _. refl)
rise_by_answer names false said = (
  λ e. grind (arith, common_steps),
  λ rising. let falls = said.2 no_name in let rises = rising said.0 no_name said.1 in grind (arith, common_steps),
)
