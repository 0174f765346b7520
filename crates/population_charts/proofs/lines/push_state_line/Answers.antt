use Rattle.std.proofs.Common.{◌≡◌, true, ◌∙◌, sym}
use Rattle.population_charts.specs.Sample.{has_cells}
use Rattle.cell_pictures.proofs.DrawnLaws.{◌⊕◌, drawn_as, last_push}
use Rattle.population_charts.proofs.LineLaws.{line_is}
use Rattle.population_charts.proofs.lines.push_state_line.Goals as goal

pub returns : goal.returns
returns g c =
    let has : has_cells c.args.state c.args.samples.now ≡ true = sym c.has_cells.ensures ∙ c.if-not-has_cells.false in
    drawn_as _ _ _ _ _ (line_is c.args.samples.now c.args.state has) (last_push (c.in_ok-push_line_begin.ensures ⊕ c.in_ok-push_points.ensures) c.push_all.ensures)
