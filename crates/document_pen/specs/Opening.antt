-- What the opening of a text draws in a document.
use Rattle.std.specs.Prelude.{◌≡◌, ◌⊎◌, ⊤, ℕ, ◌<◌, ◌≤◌, List, ◌++◌, codes, length, take, drop, Result, Ok, Err}
use Rattle.pattern_cells.specs.declared.cell.Cell.{Cell}
use Rattle.multistate_rle.specs.RleFault.{text_fault_number, text_fault_text}
use Rattle.edit_stamps.specs.Edit.{most_cells}
use Rattle.replica_core.specs.declared.event.Reply.TheVariants as reply
use Rattle.replica_events.specs.declared.edit_spec.EditSpec.TheVariants.{Cells}
use Rattle.genedit_lib.specs.Output.{refused_text, reply_line}
use Rattle.opened_files.specs.declared.opening.Opening.{Opening}
use Rattle.opened_files.specs.declared.opening.Opening.TheVariants as opens
use Rattle.opened_files.specs.declared.opening.Unopened.{Unopened}
use Rattle.opened_files.specs.declared.opening.Unopened.TheVariants as opens_not
use Rattle.opened_files.specs.Macrocells.{macrocell_refusal}
use Rattle.opened_files.specs.Opening.{IsOpening}
use Rattle.document_pen.specs.declared.pen.Outcome.{Outcome}
use Rattle.document_pen.specs.declared.pen.Outcome.TheVariants.{Drawn, Refused}
use Rattle.document_pen.specs.declared.fault.PenFault.{PenFault}
use Rattle.document_pen.specs.declared.fault.PenFault.TheVariants.{StoreFull}
use Rattle.document_pen.specs.Drawing.{DrawsAndEnds, IsDrawn}
use Rattle.document_pen.specs.Pen.{IsPrinted, LacksMemory, PenState}

-- some cells are drawn in one edit, with a counter above a given one too
abbrev pub DrawsSome : ℕ → List Cell → PenState → PenState → Result Outcome PenFault → Type 0
DrawsSome after cells m n result = LacksMemory m n result ⊎ IsDrawn after (Cells cells) m n result

-- the document does not have an edit
abbrev pub IsStopped : Result Outcome PenFault → Type 0
IsStopped (Ok Drawn) = ⊥
IsStopped (Ok Refused) = ⊤
IsStopped (Err fault) = ⊤

-- Cells are drawn from the first on, at most 2^20 in an edit. Behind an edit that the document does not have no more is drawn.
pub data DrawsAll (after : ℕ) : List Cell → PenState → PenState → Result Outcome PenFault → Type 0 where
  last : {cells : List Cell} {m n : PenState} {result : Result Outcome PenFault} → length cells ≤ most_cells → DrawsSome after cells m n result → DrawsAll after cells m n result
  more : {cells : List Cell} {m mid n : PenState} {result : Result Outcome PenFault} → most_cells < length cells → DrawsSome after (take most_cells cells) m mid (Ok Drawn)
      → DrawsAll after (drop most_cells cells) mid n result → DrawsAll after cells m n result
  stops : {cells : List Cell} {m n : PenState} {result : Result Outcome PenFault} → most_cells < length cells → DrawsSome after (take most_cells cells) m n result
      → IsStopped result → DrawsAll after cells m n result

-- all cells of a board that was saved, with counters above its own too, or of a macrocell, or a pattern, as one drawing; a text that draws nothing is refused, or memory
-- or room is wanting for it
abbrev pub DrawsOpening : Result Opening Unopened → PenState → PenState → Result Outcome PenFault → Type 0
DrawsOpening (Ok (opens.Board saved)) m n result = DrawsAndEnds (DrawsAll saved.counter saved.cells.items) m n result
DrawsOpening (Ok (opens.Cells cells)) m n result = DrawsAndEnds (DrawsAll 0 cells.items) m n result
DrawsOpening (Ok (opens.Pattern spec)) m n result = DrawsAndEnds (IsDrawn 0 spec) m n result
DrawsOpening (Err (opens_not.Refused fault)) m n result = IsPrinted Refused (reply_line (reply.Refused fault)) m n result
DrawsOpening (Err (opens_not.NoPattern fault)) m n result = IsPrinted Refused (refused_text (text_fault_number fault) (text_fault_text fault) ++ codes "\n") m n result
DrawsOpening (Err (opens_not.NoMacrocell fault)) m n result = IsPrinted Refused (macrocell_refusal fault) m n result
DrawsOpening (Err opens_not.Memory) m n result = LacksMemory m n result
DrawsOpening (Err opens_not.StoreFull) m n result = (result ≡ Err StoreFull) × (n ≡ m)

-- by what its opening is at the pen's replica
abbrev pub IsOpened : List ℕ → PenState → PenState → Result Outcome PenFault → Type 0
IsOpened text m n result = (opening : Result Opening Unopened) × IsOpening m.replica text opening × DrawsOpening opening m n result
