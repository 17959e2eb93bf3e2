use Rattle.std.proofs.Common.{arith}
use Rattle.extent_map.proofs.BitLemmas.{turned}
use Rattle.extent_map.proofs.words.lowest_zero_from.Goals as goal

pub returns-clause-before : goal.returns-clause-before
returns-clause-before c = λ i le lt. turned c.args.word i 0 c.ranges.word.fits (omega (arith, lt, c.lowest_from.ensures.from.1)) (c.lowest_from.ensures.before i le lt)

pub returns-clause-found : goal.returns-clause-found
returns-clause-found c = λ low. turned c.args.word c.lowest_from.result 1 c.ranges.word.fits low (c.lowest_from.ensures.found low)
