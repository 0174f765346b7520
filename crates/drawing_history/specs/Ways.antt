-- Undo and redo.
use Rattle.std.specs.Prelude.{◌≡◌, ℕ, List, [], ◌∷◌, ◌++◌, codes}
use Rattle.std.specs.Global.{Vec}
use Rattle.drawing_history.specs.declared.drawn.Drawn.{Drawn}
use Rattle.drawing_history.specs.declared.stroke.Stroke.{Stroke}
use Rattle.drawing_history.specs.declared.way.Way.{Way}
use Rattle.drawing_history.specs.declared.way.Way.TheVariants.{Redo, Undo}
use Rattle.drawing_history.specs.Drawings.{HistoryState, MovesLast}

-- `undo` or `redo`
abbrev pub way_name : Way → List ℕ
way_name Undo = codes "undo"
way_name Redo = codes "redo"

-- what is said of an edit that takes something back
abbrev pub way_done : Way → List ℕ
way_done Undo = codes "undone"
way_done Redo = codes "redone"

-- what is said where nothing can be taken back
abbrev pub nothing_text : Way → List ℕ
nothing_text Undo = codes "nothing to undo"
nothing_text Redo = codes "nothing to redo"

-- what is said of a drawing that changed more cells than are kept
abbrev pub too_much_text : Way → List ℕ
too_much_text Undo = codes "too much to undo"
too_much_text Redo = codes "too much to redo"

-- the other way
abbrev pub other : Way → Way
other Undo = Redo
other Redo = Undo

-- the drawings that can be taken back this way
abbrev pub stack_of : Way → HistoryState → List Drawn
stack_of Undo h = h.drawn
stack_of Redo h = h.undone

-- the last drawing of a way goes, if there is one, and those of the other way stay
pub record DropsLast (way : Way) (old new : HistoryState) : Type 0 where
  pub gone : (rest : List Drawn) (last : Drawn) → stack_of way old ≡ rest ++ last ∷ [] → stack_of way new ≡ rest
  pub nothing : stack_of way old ≡ [] → stack_of way new ≡ []
  pub others : stack_of (other way) new ≡ stack_of (other way) old

-- the last drawing of a way goes, and the strokes of what took it back come last of the other way
abbrev pub TakesBack : Way → Vec Stroke → HistoryState → HistoryState → Type 0
TakesBack way strokes old new = MovesLast strokes (stack_of way old) (stack_of way new) (stack_of (other way) old) (stack_of (other way) new)
