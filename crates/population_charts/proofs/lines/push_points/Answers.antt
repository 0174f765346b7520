use Rattle.population_charts.proofs.LineLaws.{point_more}
use Rattle.population_charts.proofs.lines.push_points.Goals as goal

pub loop-sample-preserved : goal.loop-sample-preserved
loop-sample-preserved g c =
    let k = g.K.Sink.known in
    point_more c.args.state (k c.args.sink.now) (k c.loop-sample.sink) (k c.push_point.new.sink) c.args.samples.now c.loop-sample.sample-index c.sample-item.result
    c.loop-sample-test.true c.sample-item.is c.loop-sample.invariant c.in_ok-push_point.ensures
