use Rattle.std.proofs.Common.{ap, ℕ, codes}
use Rattle.cell_pictures.specs.Svg.{number_text}
use Rattle.cell_pictures.proofs.DrawnLaws.{added_as, drawn_as, drawn_on}
use Rattle.population_charts.proofs.lines.push_point.Goals as goal

pub returns : goal.returns
returns g c =
    let generation = added_as _ _ _ _ (ap (λ (n : ℕ). number_text (codes " ") n) c.generation.ensures) c.in_ok-push_number.ensures in
    drawn_on _ _ _ _ _ _ generation (drawn_as _ _ _ _ _ (ap (λ (n : ℕ). number_text (codes ",") n) c.count_of.ensures) c.push_number-2.ensures)
