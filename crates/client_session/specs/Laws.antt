-- What is told of a board is what the replica holds.
use Rattle.std.specs.Prelude.{◌≡◌, ⊤, ℕ, List, ◌++◌, Option, Some, None, Ok, false}
use Rattle.generations_rule.specs.Rule.{GenerationsRule}
use Rattle.pattern_cells.specs.declared.cell.Cell.{Cell}
use Rattle.stamped_writes.specs.Write.{AreSame}
use Rattle.stamped_tree.specs.Plane.{StampedPlane, map_of}
use Rattle.replica_core.specs.Replica.{IsReplica}
use Rattle.replica_events.specs.declared.edit_spec.EditSpec.{EditSpec}
use Rattle.cell_changes.specs.Changes.{AreChanges}
use Rattle.board_client.specs.declared.polling.Polling.TheVariants as polling
use Rattle.client_session.specs.declared.outcome.Outcome.{Outcome}
use Rattle.client_session.specs.declared.joining.Telling.{Telling}
use Rattle.client_session.specs.declared.workspace.Workspace.{Workspace}
use Rattle.board_client.specs.Pushed.{PushedEdit}
use Rattle.client_session.specs.Drawing.{DrawsAnew, DrawsAs, IsDrawingTold}
use Rattle.client_session.specs.Joining.{IsFresh}
use Rattle.client_session.specs.declared.returning.Before.{Before}
use Rattle.client_session.specs.Returning.{ComesBack}
use Rattle.board_client.specs.Client.{LineState}
use Rattle.client_session.specs.Lines.{now_line, replaced_lines, whole_line}
use Rattle.client_session.specs.Moment.{Moment}
use Rattle.board_client.specs.Polling.{IsFallenBack, IsPoll}
use Rattle.client_session.specs.News.{Comes, IsAwaited, IsReplyHeard, PollsBy}

-- a map that is told is a plane's
abbrev pub IsShownAs : StampedPlane → Option StampedPlane → Type 0
IsShownAs plane None = ⊤
IsShownAs plane (Some shown) = AreSame (map_of shown) (map_of plane)

-- what is told of the board, where cells that look different are, is what the replica holds
pub record IsShown (s : Workspace) : Type 0 where
  pub shown : IsShownAs s.replica.plane s.shown

-- So it is of a client that joins, and so it stays behind a drawing, also one whose push was said before, or one that is drawn anew; and so
-- it is at a new seat.
pub record ShowsWhatItHolds : Type 0 where
  pub joined : (telling : Telling) (number : ℕ) (rule : GenerationsRule) (s : Workspace) → IsFresh telling number rule s → IsShown s
  pub drawn : (after : ℕ) (spec : EditSpec) (outcome : Outcome) (m n : Moment) → IsReplica m.workspace.replica → IsShown m.workspace → DrawsAs false after spec m n (Ok outcome) → IsShown n.workspace
  pub published : (pushed : PushedEdit) (outcome : Outcome) (m n : Moment) → IsReplica m.workspace.replica → IsShown m.workspace → IsDrawingTold pushed m n (Ok outcome) → IsShown n.workspace
  pub anew : (outcome : Outcome) (m n : Moment) → IsReplica m.workspace.replica → IsShown m.workspace → DrawsAnew m n (Ok outcome) → IsShown n.workspace
  pub returned : (a : LineState) (before : Before) (m n : Moment) → ComesBack a m n before → IsShown n.workspace

-- And so it stays behind what came of a poll, whatever it brought.
pub record ShowsWhatItHeard (P : Comes) : Type 0 where
  pub edits : (count : ℕ) (m n : Moment) → IsReplica m.workspace.replica → IsShown m.workspace → PollsBy P (polling.Edits count) m n → IsShown n.workspace
  pub whole : (m n : Moment) → PollsBy P polling.Whole m n → IsShown n.workspace
  pub refused : (number : ℕ) (m n : Moment) → IsShown m.workspace → PollsBy P (polling.Refused number) m n → IsShown n.workspace

-- what holds of polls, of the replies to those that wait, of these where more was said behind them, and of planes in pieces
abbrev pub OfEach : (Comes → Type 0) → Type 0
OfEach L = L IsPoll × L IsAwaited × L IsReplyHeard × L IsFallenBack

-- a line tells the cells whose state is another one in the replica's map than before
pub record TellsDifferences (m n : Moment) (out : List ℕ) : Type 0 where
  pub cells : List Cell
  pub changes : AreChanges (map_of m.workspace.replica.plane) (map_of n.workspace.replica.plane) cells
  pub told : n.out ≡ out ++ now_line cells

-- Where cells that look different are told and what is told is what the replica holds, before and behind a poll that brought
-- edits, it tells just those cells.
abbrev pub TellsWhatChanged : Comes → Type 0
TellsWhatChanged P = (count : ℕ) (m n : Moment) (shown : StampedPlane) → m.workspace.shown ≡ Some shown → IsShown m.workspace → IsShown n.workspace → PollsBy P (polling.Edits count) m n → TellsDifferences m n m.out

-- the line that a whole plane came, and behind it the cells whose state is another one in the replica's map than before
pub record TellsReplaced (m n : Moment) : Type 0 where
  pub cells : List Cell
  pub changes : AreChanges (map_of m.workspace.replica.plane) (map_of n.workspace.replica.plane) cells
  pub told : n.out ≡ m.out ++ whole_line ++ replaced_lines cells

-- So it is behind a poll that brought a whole plane.
abbrev pub TellsWhatTookItsPlace : Comes → Type 0
TellsWhatTookItsPlace P = (m n : Moment) (shown : StampedPlane) → m.workspace.shown ≡ Some shown → IsShown m.workspace → PollsBy P polling.Whole m n → TellsReplaced m n
