use Rattle.std.proofs.Common.{◌∙◌, ap}
use Rattle.cell_pictures.specs.declared.colour.Colour.{Colour}
use Rattle.cell_pictures.specs.Svg.{hex_colour}
use Rattle.cell_pictures.proofs.DrawnLaws.{◌⊕◌, added_as, last_push, pushed}
use Rattle.population_charts.proofs.curves.push_curve_begin.Goals as goal

pub returns : goal.returns
returns g c =
    let colour = added_as _ _ _ _ (c.hex_colour.ensures ∙ ap (λ (x : Colour). hex_colour x) c.colour_of.ensures) (pushed c.in_ok-push_all-2.ensures) in
    last_push (pushed c.in_ok-push_all.ensures ⊕ colour) c.push_all-3.ensures
