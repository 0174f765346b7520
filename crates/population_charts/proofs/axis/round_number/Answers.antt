use Rattle.std.proofs.Math.Facts.{Fits-of_lt}
use Rattle.population_charts.proofs.RoundLaws.{round_is, round_small, round_some}
use Rattle.population_charts.proofs.axis.round_number.Goals as goal

pub overflow_mul-result : goal.overflow_mul-result
overflow_mul-result c = rw c.pow.ensures (Fits-of_lt (round_small c.args.place c.requires))

pub returns-clause-round : goal.returns-clause-round
returns-clause-round c = rw c.pow.ensures (round_is c.args.place)

pub returns-clause-some : goal.returns-clause-some
returns-clause-some c = rw c.pow.ensures (round_some c.args.place)
