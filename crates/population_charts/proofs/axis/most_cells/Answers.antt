use Rattle.std.proofs.Common.{arith}
use Rattle.std.proofs.lemmas.Grind.{common_steps}
use Rattle.population_charts.proofs.SampleLaws.{most_more}
use Rattle.population_charts.proofs.axis.most_cells.Goals as goal

pub loop-sample-preserved : goal.loop-sample-preserved
loop-sample-preserved c =
    let more = most_more c.args.samples.now c.loop-sample.sample-index c.sample-item.result c.loop-sample-test.true c.sample-item.is in
    grind (arith, common_steps, more)
