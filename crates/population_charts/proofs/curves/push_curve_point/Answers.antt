use Rattle.std.proofs.Common.{◌≡◌, ◌+◌, ◌-◌, ◌∙◌, ap, ℕ, codes}
use Rattle.cell_pictures.specs.Svg.{number_text}
use Rattle.population_charts.specs.Axis.{placed}
use Rattle.population_charts.specs.Sample.{count_of}
use Rattle.cell_pictures.proofs.DrawnLaws.{added_as, drawn_as, drawn_on}
use Rattle.population_charts.proofs.curves.push_curve_point.Goals as goal

pub returns : goal.returns
returns g c =
    let s = c.args.sample.now in
    let along : c.from.result ≡ placed c.args.axes.generations s.generation 8100 =
    c.from.ensures ∙ c.placed-along.ensures.placed ∙ ap (λ (n : ℕ). placed c.args.axes.generations n 8100) c.generation.ensures in
    let above : c.from-2.result ≡ placed c.args.axes.counts (count_of c.args.state s) 4400 =
    c.from-2.ensures ∙ c.placed-above.ensures.placed ∙ ap (λ (n : ℕ). placed c.args.axes.counts n 4400) c.count_of.ensures in
    let first = added_as _ _ _ _ (ap (λ (n : ℕ). number_text (codes " ") (1200 + n)) along) c.in_ok-push_number.ensures in
    drawn_on _ _ _ _ _ _ first (drawn_as _ _ _ _ _ (ap (λ (n : ℕ). number_text (codes ",") (4700 - n)) above) c.push_number-2.ensures)
