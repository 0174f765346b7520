use Rattle.std.proofs.Common.{arith}
use Rattle.std.proofs.lemmas.Grind.{common_steps}
use Rattle.population_charts.proofs.SampleLaws.{greatest_more}
use Rattle.population_charts.proofs.sample.Sample.greatest.Goals as goal

pub loop-count-preserved : goal.loop-count-preserved
loop-count-preserved c =
    let more = greatest_more c.deref-count-items.result.now c.loop-count.count-index 0 c.loop-count-test.true in
    grind (arith, common_steps, more)
