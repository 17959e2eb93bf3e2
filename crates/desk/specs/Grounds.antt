-- The grounds of a release, by their texts.
use Rattle.std.specs.Prelude.{ℕ, List, codes}
use Rattle.desk.specs.declared.grounds.Ground.{Ground}
use Rattle.desk.specs.declared.grounds.Ground.TheVariants.{Operator, Termination, NoNotices, SundayFailed, FiveFailed, Insolvency, Critical, Order, Audit}

abbrev pub ground_text : Ground → List ℕ
ground_text Operator = codes "operator"
ground_text Termination = codes "termination"
ground_text NoNotices = codes "no_notices"
ground_text SundayFailed = codes "sunday_failed"
ground_text FiveFailed = codes "five_failed"
ground_text Insolvency = codes "insolvency"
ground_text Critical = codes "critical"
ground_text Order = codes "order"
ground_text Audit = codes "audit"
