-- Drawings that are taken back.
use Rattle.std.specs.Prelude.{◌≡◌, ◌⊎◌, ℕ, List, ◌++◌, codes, Option, Some, None, Result, Ok, Err}
use Rattle.pattern_cells.specs.declared.cell.Cell.{Cell}
use Rattle.drawing_history.specs.Makings.{DropsLastMade, EndsTakingBack}
use Rattle.drawing_history.specs.Ways.{nothing_text, too_much_text}
use Rattle.drawing_history.specs.declared.found.Found.{Found}
use Rattle.drawing_history.specs.declared.found.Found.TheVariants as found
use Rattle.drawing_history.specs.declared.way.Way.{Way}
use Rattle.client_session.specs.declared.outcome.Outcome.{Outcome}
use Rattle.client_session.specs.declared.outcome.Outcome.TheVariants.{Refused}
use Rattle.client_session.specs.declared.fault.CommandFault.{CommandFault}
use Rattle.client_session.specs.declared.fault.CommandFault.TheVariants.{Memory}
use Rattle.client_session.specs.Moment.{BreaksOff, Moment, Prints}
use Rattle.client_session.specs.Undoing.{IsFindCommand, KeepsAllButMaking}
use Rattle.client_tasks.specs.declared.pieces.Part.TheVariants.{Back}
use Rattle.client_tasks.specs.Opening.{DrawsAll}

-- cells are drawn, in as many edits as they need, which say that they take something back; the drawing that they take back is the last no more
pub record DrawsCellsBack (way : Way) (cells : List Cell) (m n : Moment) (result : Result Outcome CommandFault) : Type 0 where
  pub mid : Moment
  pub draws : DrawsAll (Back way) cells m mid result
  pub ends : EndsTakingBack way mid.workspace.making n.workspace.making
  pub rest : KeepsAllButMaking mid n

-- a line is printed, and the last drawing that could be taken back is dropped
pub record EndsByLine (way : Way) (line : List ℕ) (m n : Moment) : Type 0 where
  pub mid : Moment
  pub printed : Prints line m mid
  pub drops : DropsLastMade way mid.workspace.making n.workspace.making
  pub rest : KeepsAllButMaking mid n

-- the same, or memory is wanting for the line, and what was printed before stands
abbrev pub IsEndOf : Way → List ℕ → Moment → Moment → Result Outcome CommandFault → Type 0
IsEndOf way line m n (Ok came) = (came ≡ Refused) × EndsByLine way line m n
IsEndOf way line m n (Err fault) = (fault ≡ Memory) × BreaksOff m n

-- by what was found
abbrev pub TakesBackFound : Way → Found → Moment → Moment → Result Outcome CommandFault → Type 0
TakesBackFound way (found.Cells cells) m n result = DrawsCellsBack way cells.items m n result
TakesBackFound way found.Nothing m n result = IsEndOf way (nothing_text way ++ codes "\n") m n result
TakesBackFound way found.TooMuch m n result = IsEndOf way (too_much_text way ++ codes "\n") m n result

-- the same; where the poll was refused, nothing more is done
abbrev pub TakesBackSome : Way → Option Found → Moment → Moment → Result Outcome CommandFault → Type 0
TakesBackSome way (Some what) m n result = TakesBackFound way what m n result
TakesBackSome way None m n result = (result ≡ Ok Refused) × (n ≡ m)

-- it is found what can be taken back, and then taken back
pub record FindsAndTakesBack (way : Way) (m n : Moment) (result : Result Outcome CommandFault) : Type 0 where
  pub what : Option Found
  pub mid : Moment
  pub finds : IsFindCommand way m mid (Ok what)
  pub takes : TakesBackSome way what mid n result

-- or the client ends before anything is found
abbrev pub IsTakenBack : Way → Moment → Moment → Result Outcome CommandFault → Type 0
IsTakenBack way m n (Ok came) = FindsAndTakesBack way m n (Ok came)
IsTakenBack way m n (Err fault) = IsFindCommand way m n (Err fault) ⊎ FindsAndTakesBack way m n (Err fault)
