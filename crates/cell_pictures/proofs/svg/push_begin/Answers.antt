use Rattle.std.proofs.Common.{◌≡◌, ◌∙◌, ap, w32, rules, to_z, of_z, ℤ, ℕ, codes}
use Rattle.std.specs.Prelude.{FitsSigned}
use Rattle.std.proofs.lemmas.Int.{to_z-of_z}
use Rattle.cell_pictures.specs.Svg.{number_text, signed_text}
use Rattle.cell_pictures.proofs.DrawnLaws.{◌⊕◌, added_as, last_push}
use Rattle.cell_pictures.proofs.svg.push_begin.Goals as goal

pub returns : goal.returns
returns g c =
    let fits_x : FitsSigned w32 c.x.result = search rules in
    let fits_y : FitsSigned w32 c.y.result = search rules in
    let x : to_z w32 (of_z w32 c.x.result) ≡ c.args.window.x = to_z-of_z w32 c.x.result fits_x ∙ c.x.ensures in
    let y : to_z w32 (of_z w32 c.y.result) ≡ c.args.window.y = to_z-of_z w32 c.y.result fits_y ∙ c.y.ensures in
    let left = added_as _ _ _ _ (ap (λ (n : ℤ). signed_text (codes "<svg xmlns=\"http://www.w3.org/2000/svg\" viewBox=\"") n) x) c.in_ok-push_signed.ensures in
    let top = added_as _ _ _ _ (ap (λ (n : ℤ). signed_text (codes " ") n) y) c.in_ok-push_signed-2.ensures in
    let wide = added_as _ _ _ _ (ap (λ (n : ℕ). number_text (codes " ") n) c.width.ensures) c.in_ok-push_number.ensures in
    let high = added_as _ _ _ _ (ap (λ (n : ℕ). number_text (codes " ") n) c.height.ensures) c.in_ok-push_number-2.ensures in
    last_push (left ⊕ top ⊕ wide ⊕ high) c.push_all.ensures
