-- Which boards there are.
use Rattle.std.specs.Prelude.{◌≡◌, ◌-◌, ◌^◌}
use Rattle.edit_stamps.specs.Edit.{greatest}
use Rattle.stamped_writes.specs.Write.{AreSame}
use Rattle.stamped_tree.specs.Plane.{map_of}
use Rattle.board.specs.declared.value.Board.TheInside.{Inside}
use Rattle.board.specs.Entries.{edits_of, last_of}
use Rattle.board.specs.Showing.{Showing}

-- what is seen of a board
abbrev pub shown_by : Inside → Showing
shown_by b = record { list = b.prefix.seen.log; log = b.front.prefix.seen.log; origin = record { book = b.front.prefix.seen.book; states = b.front.states } }

-- the plane is the greatest writes of the edits of what the board took in, with all the room that a plane may have, and the
-- kept edits are the last of these
pub record IsBoard (b : Inside) : Type 0 where
  pub own : b.prefix.seen.book ≡ b.own.head.book
  pub plane : AreSame (map_of b.plane) (greatest (edits_of b.prefix.seen.log))
  pub room : b.plane.store.room ≡ 2 ^ 32 - 1
  pub last : b.last ≡ last_of (edits_of b.prefix.seen.log)
