use Rattle.std.proofs.Common.{◌≡◌, take}
use Rattle.population_charts.specs.Sample.{most_cells}
use Rattle.population_charts.proofs.axis.most_cells.Given as goal

abbrev pub invariant-loop-sample : goal.invariant-loop-sample
invariant-loop-sample l = l.most ≡ most_cells (take l.sample-index l.samples)
