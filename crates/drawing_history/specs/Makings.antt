-- A drawing that is being made, and how it ends.
use Rattle.std.specs.Prelude.{◌≡◌, ◌⊎◌, ℕ, List, [], ◌∷◌, ◌++◌, Option, None, Some, option_map, IfSome}
use Rattle.std.specs.Global.{Vec}
use Rattle.pattern_cells.specs.declared.cell.Cell.{Cell}
use Rattle.stamped_writes.specs.Write.{Writes}
use Rattle.cell_changes.specs.Changes.{AreChanges, Watches}
use Rattle.drawing_history.specs.declared.stroke.Stroke.{Stroke}
use Rattle.drawing_history.specs.declared.way.Way.{Way}
use Rattle.drawing_history.specs.Drawings.{HistoryState, Notes, forgotten}
use Rattle.edit_stamps.specs.Edit.{PlaneEdit}
use Rattle.drawing_history.specs.Laws.{IsStrokeOf}
use Rattle.drawing_history.specs.Ways.{DropsLast, TakesBack}

-- a history, and the strokes of the drawing that is being made; none of these where memory was refused for one of them
pub record MakingState : Type 0 where
  pub history : HistoryState
  pub strokes : Option (List Stroke)

-- the strokes that are held, if memory was not refused for one of them
abbrev pub strokes_of : Option (Vec Stroke) → Option (List Stroke)
strokes_of held = option_map (λ (v : Vec Stroke). v.items) held

-- ---- one more stroke

-- these are the strokes of before, and behind them one of an edit's stamp, and of what looked different before
pub record IsLonger (watched : Option (List Cell)) (stamp : ℕ) (now : Writes) (old : Option (List Stroke)) (strokes : List Stroke) : Type 0 where
  pub olds : List Stroke
  pub cells : List Cell
  pub stroke : Stroke
  pub were : old ≡ Some olds
  pub seen : watched ≡ Some cells
  pub behind : strokes ≡ olds ++ stroke ∷ []
  pub of_edit : stroke.stamp ≡ stamp
  pub earlier : (before : Writes) → Watches cells before now → AreChanges now before stroke.earlier.items

-- a stroke comes behind those of the drawing that is being made; or memory was refused for one of them
pub record AddsStroke (watched : Option (List Cell)) (stamp : ℕ) (now : Writes) (old new : MakingState) : Type 0 where
  pub history : new.history ≡ old.history
  pub strokes : IfSome new.strokes (IsLonger watched stamp now old.strokes)

-- ---- the end

-- A history keeps the strokes of a drawing in some way, where there are strokes. Where memory was refused for one of them, or is for the history, all is forgotten.
abbrev pub EndsBy : (Vec Stroke → HistoryState → HistoryState → Type 0) → Option (List Stroke) → HistoryState → HistoryState → Type 0
EndsBy Keeps None old new = new ≡ forgotten
EndsBy Keeps (Some []) old new = new ≡ old
EndsBy Keeps (Some (stroke ∷ strokes)) old new = ((held : Vec Stroke) × ((held.items ≡ stroke ∷ strokes) × Keeps held old new)) ⊎ (new ≡ forgotten)

-- the drawing is noted, and no stroke of the next one is there
pub record EndsDrawing (old new : MakingState) : Type 0 where
  pub history : EndsBy Notes old.strokes old.history new.history
  pub strokes : new.strokes ≡ Some []

-- it is noted as one that took the last drawing of a way back
pub record EndsTakingBack (way : Way) (old new : MakingState) : Type 0 where
  pub history : EndsBy (TakesBack way) old.strokes old.history new.history
  pub strokes : new.strokes ≡ Some []

-- nothing was drawn yet
abbrev pub nothing_made : MakingState
nothing_made = record { history = forgotten; strokes = Some [] }

-- the last drawing that could be taken back a way goes, and the drawing that is being made stays
pub record DropsLastMade (way : Way) (old new : MakingState) : Type 0 where
  pub history : DropsLast way old.history new.history
  pub strokes : new.strokes ≡ old.strokes

-- ---- an edit that was drawn

-- these are the strokes of before, and behind them that of an edit which was drawn on a map
pub record IsLongerBy (before : Writes) (edit : PlaneEdit) (after : Writes) (old : Option (List Stroke)) (strokes : List Stroke) : Type 0 where
  pub olds : List Stroke
  pub stroke : Stroke
  pub were : old ≡ Some olds
  pub behind : strokes ≡ olds ++ stroke ∷ []
  pub of_edit : IsStrokeOf before edit after stroke

-- its stroke comes behind those of the drawing that is being made; or memory was refused for one of them
pub record NotesStroke (before : Writes) (edit : PlaneEdit) (after : Writes) (old new : MakingState) : Type 0 where
  pub history : new.history ≡ old.history
  pub strokes : IfSome new.strokes (IsLongerBy before edit after old.strokes)
