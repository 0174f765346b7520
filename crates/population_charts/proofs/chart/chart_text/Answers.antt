use Rattle.std.proofs.Common.{ap}
use Rattle.population_charts.specs.declared.axis.Axes.{Axes}
use Rattle.cell_pictures.proofs.DrawnLaws.{◌⊕◌, added_as, last_push}
use Rattle.population_charts.specs.Chart.{count_ticks, curves, generation_ticks}
use Rattle.population_charts.proofs.chart.chart_text.Goals as goal

pub returns : goal.returns
returns g c =
    let samples = c.args.samples.now in
    let is = c.of-axes.ensures in
    let drawn = added_as _ _ _ _ (ap (λ (a : Axes). curves c.args.states a samples) is) c.in_ok-push_curves.ensures in
    let generations = added_as _ _ _ _ (ap (λ (a : Axes). generation_ticks a.generations) is) c.in_ok-push_generation_ticks.ensures in
    let counts = added_as _ _ _ _ (ap (λ (a : Axes). count_ticks a.counts) is) c.in_ok-push_count_ticks.ensures in
    last_push (c.in_ok-push_begin.ensures ⊕ c.in_ok-push_numbers.ensures ⊕ drawn ⊕ generations ⊕ counts) c.push_all.ensures
