use Rattle.theorems.proofs.FoundAgain.{failures_are_found_again, failures_are_of_one_statement}
use Rattle.theorems.proofs.ToldReasons.{reasons_are_told_unless_dropped}
use Rattle.theorems.proofs.explanation_laws.law_explained.Goals as goal

pub returns : goal.returns
returns c = record { stated = failures_are_of_one_statement; again = failures_are_found_again; told = reasons_are_told_unless_dropped }
