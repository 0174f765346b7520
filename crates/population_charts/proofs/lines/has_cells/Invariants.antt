use Rattle.std.proofs.Common.{◌≡◌, take}
use Rattle.std.specs.Prelude.{false}
use Rattle.population_charts.specs.Sample.{has_cells}
use Rattle.population_charts.proofs.lines.has_cells.Given as goal

abbrev pub invariant-loop-sample : goal.invariant-loop-sample
invariant-loop-sample l = has_cells l.state (take l.sample-index l.samples) ≡ false
