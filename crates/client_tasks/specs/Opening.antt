-- What the opening of a text draws.
use Rattle.std.specs.Prelude.{◌≡◌, ◌⊎◌, ⊤, ℕ, ◌<◌, ◌≤◌, List, ◌++◌, codes, length, take, drop, Result, Ok, Err}
use Rattle.pattern_cells.specs.declared.cell.Cell.{Cell}
use Rattle.multistate_rle.specs.RleFault.{text_fault_number, text_fault_text}
use Rattle.edit_stamps.specs.Edit.{most_cells}
use Rattle.replica_core.specs.declared.event.Reply.TheVariants as reply
use Rattle.replica_events.specs.declared.edit_spec.EditSpec.{EditSpec}
use Rattle.replica_events.specs.declared.edit_spec.EditSpec.TheVariants.{Cells}
use Rattle.genedit_lib.specs.Output.{refused_text, reply_line}
use Rattle.opened_files.specs.declared.opening.Opening.{Opening}
use Rattle.opened_files.specs.declared.opening.Opening.TheVariants as opens
use Rattle.opened_files.specs.declared.opening.Unopened.{Unopened}
use Rattle.opened_files.specs.declared.opening.Unopened.TheVariants as opens_not
use Rattle.opened_files.specs.Macrocells.{macrocell_refusal}
use Rattle.opened_files.specs.Opening.{IsOpening}
use Rattle.client_session.specs.declared.outcome.Outcome.{Outcome}
use Rattle.client_session.specs.declared.outcome.Outcome.TheVariants.{Drawn, InDoubt, Refused}
use Rattle.client_session.specs.declared.fault.CommandFault.{CommandFault}
use Rattle.client_session.specs.declared.fault.CommandFault.TheVariants.{Memory, StoreFull}
use Rattle.client_session.specs.Drawing.{DrawsAndEnds, IsDrawCommand}
use Rattle.client_session.specs.Moment.{IsPrinted, Moment}
use Rattle.client_session.specs.Undoing.{DrawsBack}
use Rattle.client_tasks.specs.declared.pieces.Part.{Part}
use Rattle.client_tasks.specs.declared.pieces.Part.TheVariants.{Drawing, Back}

-- memory is wanting before anything is done
abbrev pub LacksMemory : Moment → Moment → Result Outcome CommandFault → Type 0
LacksMemory m n result = (result ≡ Err Memory) × (n ≡ m)

-- ---- cells in as many edits as they need

-- an edit is a part of a drawing, with a counter above a given one too, or of what takes something back
abbrev pub DrawsPart : Part → EditSpec → Moment → Moment → Result Outcome CommandFault → Type 0
DrawsPart (Drawing after) spec m n result = IsDrawCommand after spec m n result
DrawsPart (Back way) spec m n result = DrawsBack way spec m n result

-- some cells are drawn in one edit
abbrev pub DrawsSome : Part → List Cell → Moment → Moment → Result Outcome CommandFault → Type 0
DrawsSome part cells m n result = LacksMemory m n result ⊎ DrawsPart part (Cells cells) m n result

-- the board does not have an edit, or may not have it
abbrev pub IsStopped : Result Outcome CommandFault → Type 0
IsStopped (Ok Drawn) = ⊥
IsStopped (Ok Refused) = ⊤
IsStopped (Ok InDoubt) = ⊤
IsStopped (Err fault) = ⊤

-- Cells are drawn from the first on, at most 2^20 in an edit. Behind an edit that the board does not have, or may not have, no
-- more is drawn.
pub data DrawsAll (part : Part) : List Cell → Moment → Moment → Result Outcome CommandFault → Type 0 where
  last : {cells : List Cell} {m n : Moment} {result : Result Outcome CommandFault} → length cells ≤ most_cells → DrawsSome part cells m n result → DrawsAll part cells m n result
  more : {cells : List Cell} {m mid n : Moment} {result : Result Outcome CommandFault} → most_cells < length cells → DrawsSome part (take most_cells cells) m mid (Ok Drawn)
      → DrawsAll part (drop most_cells cells) mid n result → DrawsAll part cells m n result
  stops : {cells : List Cell} {m n : Moment} {result : Result Outcome CommandFault} → most_cells < length cells → DrawsSome part (take most_cells cells) m n result
      → IsStopped result → DrawsAll part cells m n result

-- ---- what a text draws

-- all cells of a board that was saved, with counters above its own too, or of a macrocell, or a pattern, as one drawing; a text that draws nothing is
-- refused, and nothing said on the line, or memory or room is wanting for it
abbrev pub DrawsOpening : Result Opening Unopened → Moment → Moment → Result Outcome CommandFault → Type 0
DrawsOpening (Ok (opens.Board saved)) m n result = DrawsAndEnds (DrawsAll (Drawing saved.counter) saved.cells.items) m n result
DrawsOpening (Ok (opens.Cells cells)) m n result = DrawsAndEnds (DrawsAll (Drawing 0) cells.items) m n result
DrawsOpening (Ok (opens.Pattern spec)) m n result = DrawsAndEnds (IsDrawCommand 0 spec) m n result
DrawsOpening (Err (opens_not.Refused fault)) m n result = IsPrinted Refused (reply_line (reply.Refused fault)) m n result
DrawsOpening (Err (opens_not.NoPattern fault)) m n result = IsPrinted Refused (refused_text (text_fault_number fault) (text_fault_text fault) ++ codes "\n") m n result
DrawsOpening (Err (opens_not.NoMacrocell fault)) m n result = IsPrinted Refused (macrocell_refusal fault) m n result
DrawsOpening (Err opens_not.Memory) m n result = LacksMemory m n result
DrawsOpening (Err opens_not.StoreFull) m n result = (result ≡ Err StoreFull) × (n ≡ m)

-- by what its opening is at the client's replica
abbrev pub IsOpened : List ℕ → Moment → Moment → Result Outcome CommandFault → Type 0
IsOpened text m n result = (opening : Result Opening Unopened) × IsOpening m.workspace.replica text opening × DrawsOpening opening m n result
