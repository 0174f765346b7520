use Rattle.std.proofs.Common.{◌≡◌, take}
use Rattle.population_charts.specs.Sample.{greatest}
use Rattle.population_charts.proofs.sample.Sample.greatest.Given as goal

abbrev pub invariant-loop-count : goal.invariant-loop-count
invariant-loop-count l = l.most ≡ greatest (take l.count-index l.self.counts)
