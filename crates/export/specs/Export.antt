-- The text of a plane's cells some generations on.
use Rattle.std.specs.Prelude.{◌≡◌, true, ◌⊎◌, ⊤, ℕ, ◌^◌, ◌<◌, ◌≤◌, pos, List, length, Result, Ok, Err}
use Rattle.generations_rule.specs.Place.{Place, moved}
use Rattle.generations_rule.specs.Rule.{GenerationsRule}
use Rattle.generations_rule.specs.Evolution.{at}
use Rattle.pattern_cells.specs.declared.cell.Cell.{Cell}
use Rattle.pattern_cells.specs.Cells.{are_states_below}
use Rattle.multistate_rle.specs.Writing.{text_of_cells}
use Rattle.bitplane_kernel.specs.Population.{population}
use Rattle.square_store.specs.Store.{IsStore}
use Rattle.stamped_tree.specs.Plane.{StampedPlane, map_of}
use Rattle.generation_engine.specs.EngineLeaf.{IsEngineLeaf, leaf_grid}
use Rattle.generation_engine.specs.Loading.{IsStoreFull, IsTooSmallFor}
use Rattle.generation_engine.specs.Universe.{AreSameStates, EngineValue, IsEngine, states_in_writes, states_of, universe_corner}
use Rattle.generation_engine.specs.Walk.{AreCellsOf}
use Rattle.export.specs.declared.fault.ExportFault.{ExportFault}
use Rattle.export.specs.declared.fault.ExportFault.TheVariants.{GenRange, TooManyCells, StoreFull, Memory}

-- the last generation that is run to
abbrev pub last_generation : ℕ
last_generation = 2 ^ 29

-- how many cells are exported at most
abbrev pub most_cells : ℕ
most_cells = 2 ^ 24

-- How many cells of a map of states are not dead in the universe, x and y from -2^32 to 2^32 - 1. A map on the plane has none
-- outside it up to the last generation.
abbrev pub population_in_universe : (Place → ℕ) → ℕ
population_in_universe h = population (2 ^ 33) (λ u v. h (moved universe_corner (pos u) (pos v)))

-- how many are not dead g generations later
abbrev pub population_at : GenerationsRule → (Place → ℕ) → ℕ → ℕ
population_at r f g = population_in_universe (at r f g)

-- the RLE text of the cells of a map of states that are not dead, which stand so at a generation
pub record IsTextOf (r : GenerationsRule) (g : ℕ) (h : Place → ℕ) (text : List ℕ) : Type 0 where
  pub cells : List Cell
  pub are_cells : AreCellsOf h cells
  pub is_text : text ≡ text_of_cells r g cells

-- the cells of a map of states that are not dead, at most so many, as they may be written
pub record AreListed (r : GenerationsRule) (h : Place → ℕ) (limit : ℕ) (cells : List Cell) : Type 0 where
  pub few : population_in_universe h ≤ limit
  pub are_cells : AreCellsOf h cells
  pub below : are_states_below r.states cells ≡ true

-- those that are not dead g generations later, the rule being applied cell by cell
abbrev pub AreExported : GenerationsRule → (Place → ℕ) → ℕ → ℕ → List Cell → Type 0
AreExported r f g limit cells = AreListed r (at r f g) limit cells

-- the sorted list of the cells that are not dead g generations later, which are as many as there are
pub record AreCounted (r : GenerationsRule) (f : Place → ℕ) (g : ℕ) (cells : List Cell) : Type 0 where
  pub are_cells : AreCellsOf (at r f g) cells
  pub count : length cells ≡ population_at r f g

-- The answer of what tells a map of states as it stands at generation g, of at most so many cells: first whether the generation is
-- one, then whether the cells are too many, then the text.
abbrev pub IsTold : GenerationsRule → ℕ → ℕ → (Place → ℕ) → Result (List ℕ) ExportFault → Type 0
IsTold r g limit h (Ok text) = (g ≤ last_generation) × (population_in_universe h ≤ limit) × IsTextOf r g h text
IsTold r g limit h (Err GenRange) = last_generation < g
IsTold r g limit h (Err TooManyCells) = (g ≤ last_generation) × (limit < population_in_universe h)
IsTold r g limit h (Err StoreFull) = ⊥
IsTold r g limit h (Err Memory) = ⊥

-- the answer of an export of a map of states: of all cells, g generations later
abbrev pub IsExport : GenerationsRule → (Place → ℕ) → ℕ → ℕ → Result (List ℕ) ExportFault → Type 0
IsExport r f g limit answer = IsTold r g limit (at r f g) answer

-- a want of memory or of room: no part of what a call means
abbrev pub IsWant : ExportFault → Type 0
IsWant Memory = ⊤
IsWant StoreFull = ⊤
IsWant GenRange = ⊥
IsWant TooManyCells = ⊥

-- An export is refused as it is meant to be, or meets a want, but only at a generation that is one.
abbrev pub IsExportRefused : GenerationsRule → (Place → ℕ) → ℕ → ℕ → ExportFault → Type 0
IsExportRefused r f g limit fault = (IsWant fault × (g ≤ last_generation)) ⊎ IsExport r f g limit (Err fault)

-- A full engine of a rule and a room shows what the rule makes of a map of states in some generations, at most g.
pub record IsFullOnTheWay (r : GenerationsRule) (f : Place → ℕ) (g nodes : ℕ) (e : EngineValue) : Type 0 where
  pub engine : IsEngine e
  pub store : IsStore leaf_grid 8 IsEngineLeaf e.store
  pub rule : e.rule ≡ r
  pub room : e.store.room ≡ nodes
  pub full : IsStoreFull e.store
  pub generation : ℕ
  pub within : generation ≤ g
  pub shows : AreSameStates (states_of e) (at r f generation)

-- An export wants more room than so many squares: no universe of that room holds the plane's states, or one became full on the way.
abbrev pub IsRoomWanted : GenerationsRule → StampedPlane → ℕ → ℕ → Type 0
IsRoomWanted r p g nodes = IsTooSmallFor nodes p ⊎ ((e : EngineValue) × IsFullOnTheWay r (states_in_writes (map_of p)) g nodes e)
