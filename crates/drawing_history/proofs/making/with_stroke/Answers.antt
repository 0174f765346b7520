use Rattle.std.proofs.Common.{◌≡◌, true, sym, ap, ◌∙◌}
use Rattle.std.specs.Option.{is_some, option_copied}
use Rattle.std.specs.Result.{is_ok}
use Rattle.cell_changes.specs.Changes.{AreChanges, Watches}
use Rattle.stamped_tree.specs.Plane.{map_of}
use Rattle.stamped_writes.specs.Write.{Writes}
use Rattle.drawing_history.specs.declared.stroke.Stroke.{Stroke}
use Rattle.drawing_history.specs.Makings.{strokes_of}
use Rattle.drawing_history.proofs.Ending.{at_ok}
use Rattle.drawing_history.proofs.making.with_stroke.Goals as goal

pub returns : goal.returns
returns c =
    let stroke = c.in_ok-stroke.stroke in
    let now = map_of c.args.now.now in
    let cells = c.in_ok-watched.watched.now in
    let made = sym c.ok.ensures.value ∙ c.in_ok-stroke.was in
    let pushed : is_ok c.push.result ≡ true = sym c.ok-2.ensures.variant ∙ ap is_some c.in_ok-ok.was in record {
      olds = c.in_ok-strokes.strokes.items;
      cells = cells;
      stroke = stroke;
      were = ap strokes_of c.in_ok-strokes.was;
      seen = ap option_copied c.in_ok-watched.was;
      behind = rw pushed at c.push.ensures.items;
      of_edit = at_ok c.stroke_of.result (λ (s : Stroke). s.stamp ≡ c.args.stamp) stroke made c.stroke_of.ensures.stamp;
      earlier = at_ok c.stroke_of.result (λ (s : Stroke). (before : Writes) → Watches cells before now → AreChanges now before s.earlier.items) stroke made c.stroke_of.ensures.earlier;
    }
