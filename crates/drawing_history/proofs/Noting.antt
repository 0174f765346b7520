-- Strokes of edits that were drawn.
use Rattle.std.proofs.Common.{◌≡◌, ℕ, List, [], ◌∷◌, Option, Some, None, subst}
use Rattle.std.specs.Prelude.{IfSome}
use Rattle.pattern_cells.specs.declared.cell.Cell.{Cell}
use Rattle.stamped_writes.specs.Write.{AreSame, Writes, joined}
use Rattle.edit_stamps.specs.Edit.{PlaneEdit, greatest}
use Rattle.cell_changes.specs.Changes.{WatchesJoin}
use Rattle.drawing_history.specs.declared.stroke.Stroke.{Stroke}
use Rattle.drawing_history.specs.Makings.{AddsStroke, IsLonger, IsLongerBy, MakingState, NotesStroke}

module _ (before after : Writes) (edit : PlaneEdit) (watched : Option (List Cell)) (watches : IfSome watched (λ cells. WatchesJoin cells before (greatest (edit ∷ [])))) (drawn : AreSame after (joined before (greatest (edit ∷ [])))) where
  longer : (old : Option (List Stroke)) (strokes : List Stroke) → IsLonger watched edit.stamp after old strokes → IsLongerBy before edit after old strokes
  longer old strokes is = record {
    olds = is.olds;
    stroke = is.stroke;
    were = is.were;
    behind = is.behind;
    of_edit = record {
      stamp = is.of_edit;
      earlier = is.earlier before ((subst (λ (w : Option (List Cell)). IfSome w (λ cells. WatchesJoin cells before (greatest (edit ∷ [])))) is.seen watches) after drawn);
    };
  }

  held : (old now : Option (List Stroke)) → IfSome now (IsLonger watched edit.stamp after old) → IfSome now (IsLongerBy before edit after old)
  held old None is = tt
  held old (Some strokes) is = longer old strokes is

  -- what was added to the strokes of what was watched is the stroke of the edit that was drawn
  pub notes_stroke : (old new : MakingState) → AddsStroke watched edit.stamp after old new → NotesStroke before edit after old new
  notes_stroke old new adds = record { history = adds.history; strokes = held old.strokes new.strokes adds.strokes }
