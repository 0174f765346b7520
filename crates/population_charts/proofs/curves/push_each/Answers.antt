use Rattle.std.proofs.Common.{◌+◌, ℕ}
use Rattle.cell_pictures.proofs.DrawnLaws.{text_more}
use Rattle.population_charts.specs.Chart.{curve}
use Rattle.population_charts.proofs.curves.push_each.Goals as goal

pub loop-before-preserved : goal.loop-before-preserved
loop-before-preserved g c =
    let k = g.K.Sink.known in
    text_more (k c.args.sink.now) (k c.loop-before.sink) (k c.push_curve.new.sink) c.loop-before.before
    (λ (n : ℕ). curve c.args.states c.args.axes c.args.samples.now (n + 1)) c.loop-before.invariant c.in_ok-push_curve.ensures
