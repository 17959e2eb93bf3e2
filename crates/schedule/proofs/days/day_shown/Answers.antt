use Rattle.std.proofs.Common.{arith}
use Rattle.schedule.specs.Calendar.{date_of}
use Rattle.schedule.proofs.DateLemmas.{date_ranges}
use Rattle.schedule.proofs.days.day_shown.Goals as goal

pub returns-in_err-year-clause-only : goal.returns-in_err-year-clause-only
returns-in_err-year-clause-only c =
    λ d h e.
    let ranges = date_ranges d h in
    let read = c.in_err-year.ensures.only (date_of d) (omega (arith, ranges.year_in)) (omega (arith, ranges.month_in)) (omega (arith, ranges.day_in)) e in
    absurd (cc (read))
