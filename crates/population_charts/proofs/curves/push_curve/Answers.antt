use Rattle.std.proofs.Common.{◌≡◌, true, ◌∙◌, sym}
use Rattle.population_charts.specs.Sample.{has_cells}
use Rattle.cell_pictures.proofs.DrawnLaws.{◌⊕◌, drawn_as, drawn_on}
use Rattle.population_charts.proofs.LineLaws.{curve_is}
use Rattle.population_charts.proofs.curves.push_curve.Goals as goal

pub returns : goal.returns
returns g c =
    let has : has_cells c.args.state c.args.samples.now ≡ true = sym c.has_cells.ensures ∙ c.if-not-has_cells.false in
    drawn_as _ _ _ _ _ (curve_is c.args.states c.args.axes c.args.samples.now c.args.state has)
    (drawn_on _ _ _ _ _ _ (c.in_ok-push_curve_begin.ensures ⊕ c.in_ok-push_curve_points.ensures) c.push_curve_end.ensures)
