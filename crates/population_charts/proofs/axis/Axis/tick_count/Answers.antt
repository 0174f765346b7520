use Rattle.std.proofs.Common.{arith}
use Rattle.population_charts.proofs.TickLaws.{few_between}
use Rattle.population_charts.proofs.axis.Axis.tick_count.Goals as goal

pub overflow_add-result : goal.overflow_add-result
overflow_add-result c =
    let few = few_between c.args.self.low c.args.self.high c.distance-distance.result c.distance-distance.ensures.some c.distance-distance.ensures.reaches in
    let first = c.div_ceil-first.ensures in
    omega arith
