use Rattle.cell_pictures.proofs.DrawnLaws.{◌⊕◌, last_push, pushed}
use Rattle.population_charts.proofs.lines.push_generation_line.Goals as goal

pub returns : goal.returns
returns g c = last_push (pushed c.in_ok-push_all.ensures ⊕ c.in_ok-push_points.ensures) c.push_all-2.ensures
