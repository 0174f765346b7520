use Rattle.std.proofs.Common.{◌∙◌, ap, ◌++◌, codes, decimal, rules}
use mir.Val.{SFits}
use mir.Syntax.{w32}
use Rattle.std.specs.Fmt.{signed_decimal}
use Rattle.std.proofs.lemmas.Result.{on_ok_weaker}
use Rattle.std.proofs.lemmas.Int.{to_z-of_z}
use Rattle.multistate_rle.specs.Bounds.{BoundsValue}
use Rattle.multistate_rle.proofs.writing.push_origin.Goals as goal

pub returns : goal.returns
returns c =
    let x_fits : SFits w32 c.bounds.inside.x = search rules in
    let y_fits : SFits w32 c.bounds.inside.y = search rules in
    let x = to_z-of_z w32 c.bounds.inside.x x_fits ∙ ap (λ (b : BoundsValue). b.x) c.bounds.view_is in
    let y = to_z-of_z w32 c.bounds.inside.y y_fits ∙ ap (λ (b : BoundsValue). b.y) c.bounds.view_is in
    on_ok_weaker c.push_number.result
    (λ is. is ∙ ap (λ text. text ++ codes " Gen=" ++ decimal c.args.generation)
    (c.in_ok-push_coordinate-2.ensures
    ∙ (λ i. (c.in_ok-push_coordinate.ensures ∙ ap (λ x. c.args.text.now.items ++ codes "#CXRLE Pos=" ++ signed_decimal x) x) i ++ codes "," ++ signed_decimal (y i))))
    c.push_number.ensures
