use Rattle.cell_pictures.proofs.DrawnLaws.{◌⊕◌, last_push, pushed}
use Rattle.population_charts.proofs.curves.push_curves.Goals as goal

pub returns : goal.returns
returns g c = last_push (pushed c.in_ok-push_all.ensures ⊕ c.in_ok-push_each.ensures) c.push_all-2.ensures
