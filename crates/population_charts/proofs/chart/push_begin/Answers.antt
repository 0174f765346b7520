use Rattle.cell_pictures.proofs.DrawnLaws.{last_push, pushed}
use Rattle.population_charts.proofs.chart.push_begin.Goals as goal

pub returns : goal.returns
returns g c = last_push (pushed c.in_ok-push_all.ensures) c.push_all-2.ensures
