-- Runs of cells that stand side by side in a row.
use Rattle.std.specs.Prelude.{◌≡◌, ⊤, ℕ, zero, suc, ◌+◌, ◌≤◌, ℤ, pos, ◌+ℤ◌, ◌&&◌, ◌==◌, Bool, false, List, [], ◌∷◌, ◌++◌, map, filter, if◌then◌else◌}
use Rattle.std.specs.Ordering.{int_eq}
use Rattle.generations_rule.specs.Place.{Place, at_place}
use Rattle.pattern_cells.specs.declared.cell.Cell.{Cell}
use Rattle.pattern_cells.specs.Cells.{place_of}
use Rattle.cell_pictures.specs.Window.{WindowValue, is_shown}

-- where a run begins, and how many places it has
pub record RunValue : Type 0 where
  pub x : ℤ
  pub y : ℤ
  pub length : ℕ

-- a window shows a cell, and it has this state
abbrev pub is_seen : WindowValue → ℕ → Cell → Bool
is_seen w state cell = cell.state == state && is_shown w (place_of cell)

-- the cells of a state that a window shows
abbrev pub cells_of_state : WindowValue → ℕ → List Cell → List Cell
cells_of_state w state cells = filter (is_seen w state) cells

-- ---- which runs there are

-- so many places of a row, from one on
abbrev pub places_from : ℕ → ℤ → ℤ → List Place
places_from zero x y = []
places_from (suc n) x y = at_place x y ∷ places_from n (x +ℤ pos 1) y

-- the places of some runs
abbrev pub places_of : List RunValue → List Place
places_of [] = []
places_of (r ∷ runs) = places_from r.length r.x r.y ++ places_of runs

-- a place is right behind a run
abbrev pub is_behind : RunValue → Place → Bool
is_behind r c = int_eq c.y r.y && int_eq c.x (r.x +ℤ pos r.length)

-- each run has a place, and the next does not begin right behind it
abbrev pub AreMaximal : List RunValue → Type 0
AreMaximal [] = ⊤
AreMaximal (r ∷ []) = 1 ≤ r.length
AreMaximal (r ∷ s ∷ runs) = (1 ≤ r.length) × (is_behind r (at_place s.x s.y) ≡ false) × AreMaximal (s ∷ runs)

-- maximal runs of which each place is that of a cell, in order
pub record AreRunsOf (runs : List RunValue) (cells : List Cell) : Type 0 where
  pub maximal : AreMaximal runs
  pub places : places_of runs ≡ map place_of cells

-- ---- the runs, made from the cells

abbrev pub run_at : Place → RunValue
run_at c = record { x = c.x; y = c.y; length = 1 }

abbrev pub longer : RunValue → RunValue
longer r = record r { length = r.length + 1 }

-- a run that was begun, with the places that follow
abbrev pub runs_behind : RunValue → List Place → List RunValue
runs_behind r [] = r ∷ []
runs_behind r (c ∷ places) = if is_behind r c then runs_behind (longer r) places else r ∷ runs_behind (run_at c) places

abbrev pub runs_in : List Place → List RunValue
runs_in [] = []
runs_in (c ∷ places) = runs_behind (run_at c) places

-- the maximal runs of cells, in their order
abbrev pub runs_of : List Cell → List RunValue
runs_of cells = runs_in (map place_of cells)
