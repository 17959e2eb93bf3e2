use Rattle.std.specs.Prelude.{◌≡◌, take}
use Rattle.std.specs.BTreeSet.{contains}
use Rattle.custody_rules.specs.declared.chain.PassedRevision.{PassedRevision}
use Rattle.custody_rules.specs.inside.Chains.{has_passed_by}
use Rattle.custody_rules.specs.inside.Orders.{passed_revision_cmp}
use Rattle.custody_rules.proofs.chain.passed_revisions.Given as goal

abbrev pub invariant-loop-notice : goal.invariant-loop-notice
invariant-loop-notice l = (revision : PassedRevision) → contains passed_revision_cmp l.passed revision ≡ has_passed_by (take l.notice-index l.notices) l.tld revision
