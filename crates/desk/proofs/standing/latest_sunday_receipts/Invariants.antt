use Rattle.std.specs.Prelude.{take}
use Rattle.desk.specs.inside.Receipts.{TellsWhatIsMadeGood}
use Rattle.desk.proofs.standing.latest_sunday_receipts.Given as goal

abbrev pub invariant-loop-notice : goal.invariant-loop-notice
invariant-loop-notice l = TellsWhatIsMadeGood (take l.notice-index l.notices) l.latest
