use Rattle.std.proofs.Common.{◌+◌}
use Rattle.cell_pictures.specs.Drawn.{IsAdded}
use Rattle.cell_pictures.specs.Shown.{texts_below}
use Rattle.cell_pictures.specs.Svg.{state_path}
use Rattle.cell_pictures.proofs.svg.push_paths.Given as goal

abbrev pub invariant-loop-before : goal.invariant-loop-before
invariant-loop-before g l =
    IsAdded (g.K.Sink.known l.fn.sink) (g.K.Sink.known l.sink) (texts_below l.before (λ n. state_path l.states l.cells l.window (n + 1)))
