-- What exports obey.
use Rattle.std.specs.Prelude.{◌≡◌, ◌≢◌, ◌↔◌, true, ◌<◌, ◌≤◌, ℕ, List, Result, Err, IsTrue, length}
use Rattle.std.specs.List.{list_all}
use Rattle.generations_rule.specs.Evolution.{at}
use Rattle.generations_rule.specs.Place.{Place}
use Rattle.generations_rule.specs.Rule.{GenerationsRule}
use Rattle.pattern_cells.specs.declared.cell.Cell.{Cell}
use Rattle.pattern_cells.specs.Cells.{place_of}
use Rattle.generation_engine.specs.Universe.{AreSameStates}
use Rattle.generation_engine.specs.Walk.{AreCellsOf, is_in_middle}
use Rattle.export.specs.declared.fault.ExportFault.{ExportFault}
use Rattle.export.specs.declared.fault.ExportFault.TheVariants.{TooManyCells}
use Rattle.pattern_cells.specs.declared.window.Window.{Window}
use Rattle.pattern_cells.specs.Window.{is_in_window}
use Rattle.export.specs.declared.asking.Count.{Count}
use Rattle.export.specs.Asking.{IsCount, IsCut}
use Rattle.export.specs.Export.{IsExport, last_generation, population_at}

-- a map of states has one export: the same bytes, or the same refusal
abbrev pub HasOneExport : Type 0
HasOneExport = (r : GenerationsRule) (f h : Place → ℕ) (g limit : ℕ) (a b : Result (List ℕ) ExportFault)
    → AreSameStates f h → IsExport r f g limit a → IsExport r h g limit b → a ≡ b

-- The cells of a generation, listed with coordinates of 32 bits as all cells are, are as many as its population; so an export is refused
-- as too many exactly where the cells that it would list are more than the limit.
pub record CountsCells : Type 0 where
  pub population : (r : GenerationsRule) (f : Place → ℕ) (g : ℕ) (cells : List Cell) → AreCellsOf (at r f g) cells → IsTrue (list_all (λ cell. is_in_middle (place_of cell)) cells)
      → length cells ≡ population_at r f g
  pub too_many : (r : GenerationsRule) (f : Place → ℕ) (g limit : ℕ) (cells : List Cell) → g ≤ last_generation → AreCellsOf (at r f g) cells → IsTrue (list_all (λ cell. is_in_middle (place_of cell)) cells)
      → (IsExport r f g limit (Err TooManyCells) ↔ (limit < length cells))

-- and one cut by each window
abbrev pub HasOneCut : Type 0
HasOneCut = (r : GenerationsRule) (f h : Place → ℕ) (w : Window) (g limit : ℕ) (a b : Result (List ℕ) ExportFault)
    → AreSameStates f h → IsCut r f w g limit a → IsCut r h w g limit b → a ≡ b

-- the cut by a window that shows each cell that is not dead is the export
abbrev pub CutsEverything : Type 0
CutsEverything = (r : GenerationsRule) (f : Place → ℕ) (w : Window) (g limit : ℕ) (a b : Result (List ℕ) ExportFault)
    → ((c : Place) → at r f g c ≢ 0 → is_in_window w c ≡ true) → IsCut r f w g limit a → IsExport r f g limit b → a ≡ b

-- and one count
abbrev pub HasOneCount : Type 0
HasOneCount = (r : GenerationsRule) (f h : Place → ℕ) (g : ℕ) (a b : Result Count ExportFault)
    → AreSameStates f h → IsCount r f g a → IsCount r h g b → a ≡ b
