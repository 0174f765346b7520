use Rattle.cell_pictures.specs.Drawn.{IsAdded}
use Rattle.cell_pictures.specs.Shown.{texts_below}
use Rattle.population_charts.specs.Axis.{tick}
use Rattle.population_charts.specs.Chart.{count_tick}
use Rattle.population_charts.proofs.ticks.push_count_ticks.Given as goal

abbrev pub invariant-loop-number : goal.invariant-loop-number
invariant-loop-number g l = IsAdded (g.K.Sink.known l.initial.sink) (g.K.Sink.known l.sink) (texts_below l.number (λ k. count_tick l.axis (tick l.axis k)))
