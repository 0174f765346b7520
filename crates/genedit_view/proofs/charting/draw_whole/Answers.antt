use Rattle.std.proofs.Common.{append-nil}
use Rattle.cell_pictures.proofs.DrawnLaws.{added_as, drawn_as, drawn_on}
use Rattle.population_charts.specs.Chart.{chart_text}
use Rattle.genedit_view.proofs.charting.draw_whole.Goals as goal

pub returns : goal.returns
returns g c =
    let told = c.args.told.now in
    let drawn = added_as _ _ _ _ (λ i. chart_text (c.states.ensures.value i) (c.deref.ensures.value i)) c.in_ok-chart_text.ensures in
    drawn_as _ _ _ _ _ (append-nil (chart_text told.rule.states told.samples.items)) (drawn_on _ _ _ _ _ _ drawn c.finish.ensures.pushed)
