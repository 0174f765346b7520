use Rattle.std.proofs.Common.{w32}
use Rattle.std.specs.Prelude.{FitsSigned}
use Rattle.std.proofs.lemmas.Int.{to_z-of_z}
use Rattle.cell_pictures.proofs.DrawnLaws.{◌⊕◌, last_push}
use Rattle.cell_pictures.proofs.svg.push_outline.Goals as goal

pub returns : goal.returns
returns g c =
    let x : FitsSigned w32 c.args.x = c.ranges.x in
    let y : FitsSigned w32 c.args.y = c.ranges.y in
    let across = simp to_z-of_z at c.in_ok-push_signed.ensures in
    let down = simp to_z-of_z at c.in_ok-push_signed-2.ensures in
    last_push (across ⊕ down ⊕ c.in_ok-push_number.ensures ⊕ c.in_ok-push_number-2.ensures ⊕ c.in_ok-push_number-3.ensures) c.push_all.ensures
