use Rattle.std.proofs.Common.{◌≡◌, ap, arith, subst}
use Rattle.std.proofs.lemmas.Int.{ints}
use Rattle.std.specs.Prelude.{IsTrue}
use Rattle.cell_pictures.specs.Window.{WindowValue, is_window}
use Rattle.cell_pictures.proofs.WindowLaws.{row_fits}
use Rattle.cell_pictures.proofs.window.Window.row.Goals as goal

pub returns : goal.returns
returns c =
    let same : c.self.inside.y ≡ c.args.self.y = ap (λ w. w.y) c.self.view_is in
    let fits = row_fits c.args.self c.args.row (subst (λ (w : WindowValue). IsTrue (is_window w)) c.self.view_is c.self.invariant) c.requires in
    omega (arith, ints, same, fits)
