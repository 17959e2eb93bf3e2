use Rattle.std.proofs.Common.{rules, ◌≡◌, ◌∙◌, ◌++◌, codes, decimal, refl, ap}
use Rattle.std.specs.Fmt.{digits}
use Rattle.custody_machine.specs.Codes.{CodeRow, refusal_row}
use Rattle.custody_machine.specs.Machine.{Refusal, NameRefused, refusal_number}
use Rattle.custody_machine.proofs.answers.Refusal.code.Goals as goal

numbers_agree : (refusal : Refusal) → (refusal_row refusal).0 ≡ codes "Q" ++ decimal (refusal_number refusal)
unfolding digits
numbers_agree (NameRefused fault) = refl
numbers_agree refusal = refl

pub returns-clause-row : goal.returns-clause-row
returns-clause-row c = search rules

pub returns-clause-numbered : goal.returns-clause-numbered
returns-clause-numbered c = ap (λ (row : CodeRow). row.number) (returns-clause-row c) ∙ numbers_agree c.args.self.now
