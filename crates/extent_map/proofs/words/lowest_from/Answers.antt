use Rattle.std.proofs.Common.{arith}
use Rattle.extent_map.proofs.BitLemmas.{lowest_is, no_ones}
use Rattle.extent_map.proofs.words.lowest_from.Goals as goal

pub returns-then-rest-eq0-clause-before : goal.returns-then-rest-eq0-clause-before
returns-then-rest-eq0-clause-before c = λ i le lt. no_ones c.args.word c.args.from i c.requires c.if-rest-eq0.true le lt

pub returns-clause-from : goal.returns-clause-from
returns-clause-from c = let it = lowest_is c.args.word c.args.from c.requires c.ranges.word.fits (omega (arith, c.if-rest-eq0.false)) in (it.range.0, omega (arith, it.range.1))

pub returns-clause-before : goal.returns-clause-before
returns-clause-before c = (lowest_is c.args.word c.args.from c.requires c.ranges.word.fits (omega (arith, c.if-rest-eq0.false))).before

pub returns-clause-found : goal.returns-clause-found
returns-clause-found c = λ _. (lowest_is c.args.word c.args.from c.requires c.ranges.word.fits (omega (arith, c.if-rest-eq0.false))).found
