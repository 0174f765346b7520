use Rattle.std.proofs.Common.{ap, ℕ, codes}
use Rattle.cell_pictures.specs.Svg.{number_text}
use Rattle.cell_pictures.proofs.DrawnLaws.{added_as, last_push}
use Rattle.population_charts.proofs.curves.push_curve_end.Goals as goal

pub returns : goal.returns
returns g c =
    let title = added_as _ _ _ _ (ap (λ (n : ℕ). number_text (codes "\"><title>state ") n) c.from.ensures) c.in_ok-push_number.ensures in
    last_push title c.push_all.ensures
