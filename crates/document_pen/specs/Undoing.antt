-- Drawings that are taken back.
use Rattle.std.specs.Prelude.{◌≡◌, ◌⊎◌, ℕ, List, ◌++◌, codes, None, Some, Result, Ok, Err}
use Rattle.pattern_cells.specs.declared.cell.Cell.{Cell}
use Rattle.stamped_tree.specs.Plane.{map_of}
use Rattle.drawing_history.specs.Findings.{IsFound}
use Rattle.drawing_history.specs.Makings.{EndsTakingBack, DropsLastMade}
use Rattle.drawing_history.specs.Ways.{nothing_text, too_much_text}
use Rattle.drawing_history.specs.declared.found.Found.{Found}
use Rattle.drawing_history.specs.declared.found.Found.TheVariants as found
use Rattle.drawing_history.specs.declared.way.Way.{Way}
use Rattle.document_pen.specs.declared.pen.Outcome.{Outcome}
use Rattle.document_pen.specs.declared.pen.Outcome.TheVariants.{Refused}
use Rattle.document_pen.specs.declared.fault.PenFault.{PenFault}
use Rattle.document_pen.specs.declared.fault.PenFault.TheVariants.{Memory}
use Rattle.document_pen.specs.Opening.{DrawsAll}
use Rattle.document_pen.specs.Pen.{LacksMemory, PenState}

-- cells are drawn, in as many edits as they need, which say that they take something back; the drawing that they take back is the last no more
pub record DrawsBack (way : Way) (cells : List Cell) (m n : PenState) (result : Result Outcome PenFault) : Type 0 where
  pub mid : PenState
  pub draws : DrawsAll 0 cells (record m { way = Some way }) mid result
  pub ends : EndsTakingBack way mid.making n.making
  pub rest : n ≡ record mid { making = n.making; way = None }

-- a line is printed, and the last drawing that could be taken back is dropped; or memory is wanting, and all is as it was
abbrev pub IsEndOf : Way → List ℕ → PenState → PenState → Result Outcome PenFault → Type 0
IsEndOf way line m n (Ok came) = (came ≡ Refused) × (n ≡ record m { out = m.out ++ line; making = n.making }) × DropsLastMade way m.making n.making
IsEndOf way line m n (Err fault) = (fault ≡ Memory) × (n ≡ m)

-- by what is found
abbrev pub TakesBackFound : Way → Found → PenState → PenState → Result Outcome PenFault → Type 0
TakesBackFound way (found.Cells cells) m n result = DrawsBack way cells.items m n result
TakesBackFound way found.Nothing m n result = IsEndOf way (nothing_text way ++ codes "\n") m n result
TakesBackFound way found.TooMuch m n result = IsEndOf way (too_much_text way ++ codes "\n") m n result

-- what is found at the pen's replica is taken back; or memory is wanting for it
abbrev pub IsTakenBack : Way → PenState → PenState → Result Outcome PenFault → Type 0
IsTakenBack way m n result = LacksMemory m n result ⊎ ((what : Found) × IsFound way m.making.history (map_of m.replica.plane) what × TakesBackFound way what m n result)
