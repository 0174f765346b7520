-- Windows of later generations, and how many cells there are then.
use Rattle.std.specs.Prelude.{◌≡◌, ◌⊎◌, ℕ, ◌<◌, ◌≤◌, List, Result, Ok, Err}
use Rattle.generations_rule.specs.Place.{Place}
use Rattle.generations_rule.specs.Rule.{GenerationsRule}
use Rattle.generations_rule.specs.Evolution.{at}
use Rattle.pattern_cells.specs.declared.window.Window.{Window}
use Rattle.pattern_cells.specs.Window.{is_in_window, seen_where}
use Rattle.edit_stamps.specs.declared.rect.Rect.{Rect}
use Rattle.generation_engine.specs.Window.{IsExtent}
use Rattle.export.specs.declared.asking.Count.{Count}
use Rattle.export.specs.declared.fault.ExportFault.{ExportFault}
use Rattle.export.specs.declared.fault.ExportFault.TheVariants.{GenRange, TooManyCells, StoreFull, Memory}
use Rattle.export.specs.Export.{IsTold, IsWant, last_generation, population_at}

-- the area of a window
abbrev pub area_of : Window → Rect
area_of w = record { x = w.x; y = w.y; width = w.width; height = w.height }

-- what a window shows of a map of states g generations later
abbrev pub seen_at : GenerationsRule → (Place → ℕ) → Window → ℕ → Place → ℕ
seen_at r f w g = seen_where (is_in_window w) (at r f g)

-- the answer of a cut: an export of what the window shows
abbrev pub IsCut : GenerationsRule → (Place → ℕ) → Window → ℕ → ℕ → Result (List ℕ) ExportFault → Type 0
IsCut r f w g limit answer = IsTold r g limit (seen_at r f w g) answer

-- a cut is refused as it is meant to be, or meets a want, but only at a generation that is one
abbrev pub IsCutRefused : GenerationsRule → (Place → ℕ) → Window → ℕ → ℕ → ExportFault → Type 0
IsCutRefused r f w g limit fault = (IsWant fault × (g ≤ last_generation)) ⊎ IsCut r f w g limit (Err fault)

-- how many cells are not dead g generations later, and the least window that has them
pub record CountsAt (r : GenerationsRule) (f : Place → ℕ) (g : ℕ) (count : Count) : Type 0 where
  pub cells : count.cells ≡ population_at r f g
  pub extent : IsExtent (at r f g) count.extent

-- the answer of a count: whether the generation is one, and then that
abbrev pub IsCount : GenerationsRule → (Place → ℕ) → ℕ → Result Count ExportFault → Type 0
IsCount r f g (Ok count) = (g ≤ last_generation) × CountsAt r f g count
IsCount r f g (Err GenRange) = last_generation < g
IsCount r f g (Err TooManyCells) = ⊥
IsCount r f g (Err StoreFull) = ⊥
IsCount r f g (Err Memory) = ⊥

-- a count is refused as it is meant to be, or meets a want, but only at a generation that is one
abbrev pub IsCountRefused : GenerationsRule → (Place → ℕ) → ℕ → ExportFault → Type 0
IsCountRefused r f g fault = (IsWant fault × (g ≤ last_generation)) ⊎ IsCount r f g (Err fault)
