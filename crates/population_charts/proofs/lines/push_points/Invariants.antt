use Rattle.std.proofs.Common.{take}
use Rattle.cell_pictures.specs.Drawn.{IsAdded}
use Rattle.population_charts.specs.Chart.{points_text}
use Rattle.population_charts.proofs.lines.push_points.Given as goal

abbrev pub invariant-loop-sample : goal.invariant-loop-sample
invariant-loop-sample g l = IsAdded (g.K.Sink.known l.fn.sink) (g.K.Sink.known l.sink) (points_text l.state (take l.sample-index l.samples))
