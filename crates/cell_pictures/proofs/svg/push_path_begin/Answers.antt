use Rattle.std.proofs.Common.{◌∙◌, ap, ℕ, codes}
use Rattle.cell_pictures.specs.declared.colour.Colour.{Colour}
use Rattle.cell_pictures.specs.Svg.{hex_colour, number_text}
use Rattle.cell_pictures.proofs.DrawnLaws.{◌⊕◌, added_as, last_push, pushed}
use Rattle.cell_pictures.proofs.svg.push_path_begin.Goals as goal

pub returns : goal.returns
returns g c =
    let class = added_as _ _ _ _ (ap (λ (n : ℕ). number_text (codes "<path class=\"s") n) c.from.ensures) c.in_ok-push_number.ensures in
    let colour = added_as _ _ _ _ (c.hex_colour.ensures ∙ ap (λ (x : Colour). hex_colour x) c.colour_of.ensures) (pushed c.in_ok-push_all-2.ensures) in
    last_push (class ⊕ pushed c.in_ok-push_all.ensures ⊕ colour) c.push_all-3.ensures
