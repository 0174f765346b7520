-- What is found to be taken back.
use Rattle.std.specs.Prelude.{◌≡◌, ◌≢◌, ◌⊎◌, []}
use Rattle.std.specs.Global.{Vec}
use Rattle.stamped_writes.specs.Write.{Writes}
use Rattle.drawing_history.specs.declared.drawn.Drawn.TheVariants as drawn
use Rattle.drawing_history.specs.declared.found.Found.{Found}
use Rattle.drawing_history.specs.declared.found.Found.TheVariants.{Cells, Nothing, TooMuch}
use Rattle.drawing_history.specs.declared.stroke.Stroke.{Stroke}
use Rattle.drawing_history.specs.declared.way.Way.{Way}
use Rattle.drawing_history.specs.Drawings.{HistoryState, IsLastOf}
use Rattle.drawing_history.specs.Strokes.{cells_back}
use Rattle.drawing_history.specs.Ways.{stack_of}

-- a drawing of which strokes are kept is the last that can be taken back
abbrev pub HasStrokes : Way → HistoryState → Type 0
HasStrokes way h = (strokes : Vec Stroke) × IsLastOf (stack_of way h) (drawn.Strokes strokes)

-- what can be taken back is found in a map
abbrev pub IsFound : Way → HistoryState → Writes → Found → Type 0
IsFound way h map Nothing = (stack_of way h ≡ []) ⊎ ((strokes : Vec Stroke) × (IsLastOf (stack_of way h) (drawn.Strokes strokes) × (cells_back map strokes.items ≡ [])))
IsFound way h map TooMuch = IsLastOf (stack_of way h) drawn.TooMuch
IsFound way h map (Cells cells) =
    (strokes : Vec Stroke) × (IsLastOf (stack_of way h) (drawn.Strokes strokes) × (cells.items ≡ cells_back map strokes.items) × (cells.items ≢ []))
