-- Cells of a pattern in the plane, as they can be drawn and run.
use Rattle.std.specs.Prelude.{◌≡◌, ℤ, pos, ◌+ℤ◌, Bool, true, ◌&&◌, List}
use Rattle.std.specs.Bool.{OnTrue}
use Rattle.std.specs.List.{list_all}
use Rattle.generations_rule.specs.Rule.{GenerationsRule, IsRule}
use Rattle.pattern_cells.specs.declared.cell.Cell.{Cell}
use Rattle.pattern_cells.specs.declared.pattern.PatternCell.{PatternCell}
use Rattle.pattern_cells.specs.Cells.{are_nonzero, are_states_below, is_sorted}
use Rattle.edit_stamps.specs.Making.{are_in_plane}
use Rattle.edit_stamps.specs.Plane.{is_coordinate_in_plane}

-- each cell of a pattern, moved there, lies in the plane of edits
abbrev pub are_in_plane_at : ℤ → ℤ → List PatternCell → Bool
are_in_plane_at x y cells = list_all (λ cell. is_coordinate_in_plane (x +ℤ pos cell.column) && is_coordinate_in_plane (y +ℤ pos cell.row)) cells

-- sorted cells that are not dead, with states of the rule; where they are to be run, in the plane of edits
pub record ArePatternCells (is_run : Bool) (r : GenerationsRule) (cells : List Cell) : Type 0 where
  pub rule : IsRule r
  pub sorted : is_sorted cells ≡ true
  pub nonzero : are_nonzero cells ≡ true
  pub below : are_states_below r.states cells ≡ true
  pub inside : OnTrue is_run (are_in_plane cells ≡ true)
