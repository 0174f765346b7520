-- What the definitions obey.
use Rattle.std.specs.Prelude.{◌≡◌, ℕ, ◌<◌, ◌≤◌, ◌^◌, true, List, length}
use Rattle.generations_rule.specs.Place.{Place}
use Rattle.pattern_cells.specs.declared.cell.Cell.{Cell}
use Rattle.pattern_cells.specs.Cells.{are_nonzero, are_states_below, is_sorted}
use Rattle.edit_stamps.specs.Plane.{is_coordinate}
use Rattle.cell_pictures.specs.Runs.{AreRunsOf, RunValue, runs_of}
use Rattle.cell_pictures.specs.Shown.{state_at}
use Rattle.cell_pictures.specs.Svg.{svg_text}
use Rattle.cell_pictures.specs.Window.{WindowValue, is_shown, is_window}

-- cells have maximal runs
abbrev pub HasRuns : Type 0
HasRuns = (cells : List Cell) → AreRunsOf (runs_of cells) cells

-- and only those
abbrev pub HasOneRunList : Type 0
HasOneRunList = (cells : List Cell) (runs : List RunValue) → AreRunsOf runs cells → runs ≡ runs_of cells

-- a window whose corner has coordinates of 32 bits, and sorted cells that are not dead, of a rule of so many states
pub record IsPictured (states : ℕ) (cells : List Cell) (w : WindowValue) : Type 0 where
  pub window : is_window w ≡ true
  pub left : is_coordinate w.x ≡ true
  pub top : is_coordinate w.y ≡ true
  pub sorted : is_sorted cells ≡ true
  pub nonzero : are_nonzero cells ≡ true
  pub below : are_states_below states cells ≡ true
  pub few : length cells < 2 ^ 63
  pub rule : (2 ≤ states) × (states ≤ 256)

-- Two SVGs with one text show the same window, and the same state at each of its places, whatever their rules.
abbrev pub HasOneBox : Type 0
HasOneBox = (states states' : ℕ) (cells cells' : List Cell) (w w' : WindowValue) → IsPictured states cells w → IsPictured states' cells' w' →
    svg_text states cells w ≡ svg_text states' cells' w' → (w ≡ w') × ((c : Place) → is_shown w c ≡ true → state_at cells c ≡ state_at cells' c)
