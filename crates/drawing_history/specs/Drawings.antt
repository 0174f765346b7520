-- Drawings, and how many of them are kept.
use Rattle.std.specs.Prelude.{◌≡◌, ℕ, ◌<◌, ◌≤◌, ◌-◌, ◌^◌, nat_le, if◌then◌else◌, List, [], ◌∷◌, ◌++◌, length, drop, sum_by}
use Rattle.std.specs.Global.{Vec}
use Rattle.drawing_history.specs.declared.drawn.Drawn.{Drawn}
use Rattle.drawing_history.specs.declared.drawn.Drawn.TheVariants.{Strokes, TooMuch}
use Rattle.drawing_history.specs.declared.stroke.Stroke.{Stroke}
use Rattle.drawing_history.specs.Strokes.{cells_in}

-- what was drawn, and what was taken back, the last at the end
pub record HistoryState : Type 0 where
  pub drawn : List Drawn
  pub undone : List Drawn

-- nothing was drawn, and nothing was taken back
abbrev pub forgotten : HistoryState
forgotten = record { drawn = []; undone = [] }

-- ---- how many cells

-- the greatest number of drawings that are kept
abbrev pub most_drawings : ℕ
most_drawings = 100

-- the greatest number of cells that are kept
abbrev pub most_cells : ℕ
most_cells = 2 ^ 22

-- how many cells are kept of a drawing
abbrev pub cells_of : Drawn → ℕ
cells_of (Strokes strokes) = cells_in strokes.items
cells_of TooMuch = 0

-- how many of all drawings
abbrev pub cells_of_all : List Drawn → ℕ
cells_of_all drawings = sum_by cells_of drawings

-- what is kept of a drawing where there is room for so many cells: all of its strokes or nothing
abbrev pub kept_within : ℕ → Vec Stroke → Drawn
kept_within room strokes = if nat_le (cells_in strokes.items) room then Strokes strokes else TooMuch

-- ---- lists of drawings

-- a drawing stands last
abbrev pub IsLastOf : List Drawn → Drawn → Type 0
IsLastOf drawings last = (rest : List Drawn) × (drawings ≡ rest ++ last ∷ [])

-- there are not too many drawings, nor too many cells
pub record IsWithinLimits (drawings : List Drawn) : Type 0 where
  pub count : length drawings ≤ most_drawings
  pub cells : cells_of_all drawings ≤ most_cells

-- the oldest drawings are left out, as few of them as that the others fit
pub record KeepsNewest (all kept : List Drawn) : Type 0 where
  pub left_out : ℕ
  pub others : kept ≡ drop left_out all
  pub fits : IsWithinLimits kept
  pub needed : (fewer : ℕ) → fewer < left_out → ¬ IsWithinLimits (drop fewer all)

-- the last drawing of a list goes, and these strokes come last in another list, as far as they fit beside all the others; from an empty list nothing goes
pub record MovesLast (strokes : Vec Stroke) (from new_from to new_to : List Drawn) : Type 0 where
  pub gone : (rest : List Drawn) (last : Drawn) → from ≡ rest ++ last ∷ [] → new_from ≡ rest
  pub put : (rest : List Drawn) (last : Drawn) → from ≡ rest ++ last ∷ [] → new_to ≡ to ++ kept_within (most_cells - cells_of_all (rest ++ to)) strokes ∷ []
  pub whole : (rest : List Drawn) (last : Drawn) → from ≡ rest ++ last ∷ [] → cells_in strokes.items ≤ cells_of last → new_to ≡ to ++ Strokes strokes ∷ []
  pub nothing : from ≡ [] → (new_from ≡ []) × (new_to ≡ to)

-- ---- what is noted

-- a drawing of these strokes comes last, with the newest of those before it, and nothing can be drawn again
pub record Notes (strokes : Vec Stroke) (old new : HistoryState) : Type 0 where
  pub drawn : KeepsNewest (old.drawn ++ kept_within most_cells strokes ∷ []) new.drawn
  pub last : IsLastOf new.drawn (kept_within most_cells strokes)
  pub undone : new.undone ≡ []
