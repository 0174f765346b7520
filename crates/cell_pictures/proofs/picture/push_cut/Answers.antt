use Rattle.std.proofs.Common.{ap}
use Rattle.cell_pictures.specs.Picture.{window_text}
use Rattle.cell_pictures.specs.Window.{WindowValue}
use Rattle.cell_pictures.proofs.DrawnLaws.{added_as, drawn_on}
use Rattle.cell_pictures.proofs.picture.push_cut.Goals as goal

pub returns : goal.returns
returns g c =
    drawn_on _ _ _ _ _ _ (added_as _ _ _ _ (ap (λ (w : WindowValue). window_text c.args.form c.args.states c.args.cells.now w) c.cut.ensures) c.in_ok-push_window.ensures) c.push_cut_line.ensures
