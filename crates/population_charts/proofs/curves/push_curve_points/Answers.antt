use Rattle.population_charts.proofs.LineLaws.{curve_point_more}
use Rattle.population_charts.proofs.curves.push_curve_points.Goals as goal

pub loop-sample-preserved : goal.loop-sample-preserved
loop-sample-preserved g c =
    let k = g.K.Sink.known in
    curve_point_more c.args.axes c.args.state (k c.args.sink.now) (k c.loop-sample.sink) (k c.push_curve_point.new.sink) c.args.samples.now c.loop-sample.sample-index c.sample-item.result
    c.loop-sample-test.true c.sample-item.is c.loop-sample.invariant c.in_ok-push_curve_point.ensures
