use Rattle.std.proofs.Common.{◌+◌}
use Rattle.cell_pictures.specs.Drawn.{IsAdded}
use Rattle.cell_pictures.specs.Shown.{texts_below}
use Rattle.population_charts.specs.Chart.{state_line}
use Rattle.population_charts.proofs.lines.push_state_lines.Given as goal

abbrev pub invariant-loop-before : goal.invariant-loop-before
invariant-loop-before g l = IsAdded (g.K.Sink.known l.fn.sink) (g.K.Sink.known l.sink) (texts_below l.before (λ n. state_line l.samples (n + 1)))
