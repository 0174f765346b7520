-- Seats: what is seen of them, and which board and inbox they are of.
use Rattle.std.specs.Prelude.{◌≡◌, IfSome}
use Rattle.std.specs.Arc.{arc_value}
use Rattle.atomic_table.specs.Seated.{TableId}
use Rattle.crossbeam_queue.specs.Passes.{view, ruled_capacity}
use Rattle.board.specs.Origins.{origin, list_of}
use Rattle.board.specs.Showing.{Origin}
use Rattle.board.specs.Sights.{label_of}
use Rattle.inbox.specs.declared.ends.Drain.{Drain}
use Rattle.relay_board.specs.declared.seat.Seat.TheInside.{Inside}
use Rattle.relay_board.specs.Rising.{IsRising, last_counter}
use Rattle.relay_board.specs.Seating.{Seating}

-- what is seen of a seat
abbrev pub seating_of : {J : Type 0} → Inside J → Seating
seating_of s = record {
  place = s.post.seat;
  number = s.number;
  rule = s.rule;
  floor = s.floor;
  mine = (view s.post.pass).put;
  seen = list_of s.reader.window.front;
  handed = s.reader.handed;
  full = s.post.full;
  room = ruled_capacity (arc_value s.post.queue);
}

-- Its rule has the board's number of states; its end of the inbox is of this table, and what it has seen, and its entries, are
-- of this board; where it has a floor its edits rise, and it knows the last.
pub record IsSeatOf {J : Type 0} (board : Origin) (inbox : TableId) (s : Inside J) : Type 0 where
  pub ruled : s.rule.states ≡ s.reader.window.front.states
  pub table : (arc_value s.post.queue).table.shared.table_id ≡ inbox
  pub sees : origin s.reader.window.front ≡ board
  pub puts : (view s.post.pass).label ≡ label_of board
  pub rises : IsRising s.floor s.number (view s.post.pass).put
  pub newest : IfSome s.floor (λ floor. s.newest ≡ last_counter floor (view s.post.pass).put)

-- a drain but for the posts that it made
abbrev pub IsSameDrain : Drain → Drain → Type 0
IsSameDrain old new = (new.queue ≡ old.queue) × (new.empties ≡ old.empties) × ((view new.pass).label ≡ (view old.pass).label) × ((view new.pass).out ≡ (view old.pass).out) × ((view new.pass).known ≡ (view old.pass).known)
