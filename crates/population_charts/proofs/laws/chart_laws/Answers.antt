use Rattle.population_charts.proofs.ReadingLaws.{has_one_reading}
use Rattle.population_charts.proofs.TickLaws.{has_round_ticks}
use Rattle.population_charts.proofs.laws.chart_laws.Goals as goal

pub returns : goal.returns
returns c = record { reading = has_one_reading; ticks = has_round_ticks }
