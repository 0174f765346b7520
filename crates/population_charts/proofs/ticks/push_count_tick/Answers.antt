use Rattle.std.proofs.Common.{◌≡◌, ◌∙◌}
use Rattle.population_charts.specs.Axis.{along}
use Rattle.cell_pictures.proofs.DrawnLaws.{◌⊕◌, last_push}
use Rattle.population_charts.proofs.ticks.push_count_tick.Goals as goal

pub returns : goal.returns
returns g c =
    let above : c.from-above.result ≡ along c.args.axis c.args.number 4400 = c.from-above.ensures ∙ c.along.ensures.along in
    let mark = rw above at c.in_ok-push_number.ensures in
    let label = rw above at c.in_ok-push_number-2.ensures in
    last_push (mark ⊕ label ⊕ c.in_ok-push_number-3.ensures) c.push_all.ensures
