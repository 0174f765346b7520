use Rattle.std.proofs.Common.{◌≡◌, ◌∙◌, w32, rules, to_z, of_z}
use Rattle.std.specs.Prelude.{FitsSigned}
use Rattle.std.proofs.lemmas.Int.{to_z-of_z}
use Rattle.cell_pictures.specs.Svg.{outline}
use Rattle.cell_pictures.proofs.DrawnLaws.{◌⊕◌, added_as, last_push}
use Rattle.cell_pictures.proofs.svg.push_ground.Goals as goal

pub returns : goal.returns
returns g c =
    let fits_x : FitsSigned w32 c.x.result = search rules in
    let fits_y : FitsSigned w32 c.y.result = search rules in
    let x : to_z w32 (of_z w32 c.x.result) ≡ c.args.window.x = to_z-of_z w32 c.x.result fits_x ∙ c.x.ensures in
    let y : to_z w32 (of_z w32 c.y.result) ≡ c.args.window.y = to_z-of_z w32 c.y.result fits_y ∙ c.y.ensures in
    let whole = added_as _ _ _ _ (λ i. outline (x i) (y i) (c.width.ensures i) (c.height.ensures i)) c.in_ok-push_outline.ensures in
    last_push (c.in_ok-push_path_begin.ensures ⊕ whole) c.push_all.ensures
