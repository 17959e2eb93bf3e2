use Rattle.custody.proofs.Migrated.{migrates_fails}
use Rattle.custody.proofs.opening.migrate_earlier.Goals as goal

pub returns-in-Err-clause-migrates : goal.returns-in-Err-clause-migrates
returns-in-Err-clause-migrates g c = λ _. migrates_fails _ _ _ _ c.in-Err.ensures.migrates
