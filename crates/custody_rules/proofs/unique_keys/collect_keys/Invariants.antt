use Rattle.std.proofs.Common.{length}
use Rattle.std.specs.BTreeSet.{contains}
use Rattle.custody_records.specs.RegistryRows.{rows_left}
use Rattle.custody_rules.proofs.Telling.{IsGathered, AreToldOnceEarly}
use Rattle.custody_rules.proofs.unique_keys.collect_keys.Given as goal

abbrev pub invariant-loop-notice : goal.invariant-loop-notice
invariant-loop-notice g l =
    let notices = rows_left l.fn.notices in
    IsGathered g.T.UniqueKey.unique_key_of notices (contains g.T.Ord.cmp l.all) (length l.yielded) × AreToldOnceEarly g.T.UniqueKey.unique_key_of notices (length l.yielded)
