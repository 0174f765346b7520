-- The account of a list.
use Rattle.std.specs.Prelude.{◌≡◌, ◌⊎◌, ℕ, ◌-◌, ◌<◌, ◌^◌, List, [], length, map, slice_index_or, None, Some}
use mathlib.Core.List.{IsPrefix}
use Rattle.edit_stamps.specs.Edit.{HaveStatesBelow, greatest}
use Rattle.edit_stamps.specs.PlaneMap.{HasStatesBelow}
use Rattle.stamped_writes.specs.Write.{AreSame}
use Rattle.stamped_tree.specs.Plane.{map_of}
use Rattle.board.specs.declared.entry.Entry.{Entry}
use Rattle.board.specs.Entries.{edits_of, last_of}
use Rattle.board.specs.Origins.{origin}
use Rattle.board.specs.Showing.{Origin}
use Rattle.inbox.specs.Settled.{HasAsMany, IsOf}
use Rattle.relay_board.specs.Seating.{Seating, mines_of, BeginsWithAll}
use Rattle.relay_board.specs.declared.finish.Account.{Account}
use Rattle.relay_board.specs.declared.fault.FinishFault.{FinishFault}
use Rattle.relay_board.specs.declared.fault.FinishFault.TheVariants.{Closed, StoreFull, Memory}
use Rattle.relay_board.specs.Relaying.{Relaying}
use Rattle.relay_board.specs.Turns.{Takes}
use Rattle.relay_board.specs.declared.fault.TurnFault.TheVariants as turns

-- the last 1,024 edits of a list, how many come before them, and the plane of them all
pub record IsAccount (list : List Entry) (a : Account) : Type 0 where
  pub published : a.published ≡ last_of (edits_of list)
  pub before : a.before ≡ length list - 1024
  pub plane : AreSame (map_of a.plane) (greatest (edits_of list))

-- of each seat so few entries that a u64 counts them
abbrev pub AreCountable : List (List Entry) → Type 0
AreCountable puts = (k : ℕ) → k < length puts → length (slice_index_or puts k []) < 2 ^ 64

-- The list that was published in the end begins with what was published before, and with what each seat has seen;
-- restricted to each seat, it is what that seat put, in order, each once, and nothing else. The account is of it, and of
-- the board; the states in its edits, and so those of its plane, are below the board's number of states.
pub record IsWhole (board : Origin) (before list : List Entry) (seats : List Seating) (a : Account) : Type 0 where
  pub of : origin a.front ≡ board
  pub below : HaveStatesBelow board.states (edits_of list)
  pub states : 0 < board.states → HasStatesBelow board.states (map_of a.plane)
  pub goes_on : IsPrefix before list
  pub seen : BeginsWithAll list seats
  pub whole : IsOf list (mines_of seats)
  pub account : IsAccount list a
  pub accepted : a.accepted ≡ map (λ (s : Seating). length s.mine) seats

-- some turns were taken, none of which failed; then nothing was kept, and the list had of each seat all that it put
abbrev pub IsDrained : Relaying → List Seating → Relaying → Type 0
IsDrained a seats b = Takes a None b × (b.kept ≡ []) × HasAsMany b.list (mines_of seats)

-- All was published, and then a seat had seen more than that, or memory was wanting for the account; or a turn failed, for
-- want of room or of memory.
abbrev pub IsLeft : FinishFault → Relaying → List Seating → Relaying → Type 0
IsLeft Closed a seats b = IsDrained a seats b × ¬ (BeginsWithAll b.list seats)
IsLeft StoreFull a seats b = Takes a (Some turns.StoreFull) b
IsLeft Memory a seats b = Takes a (Some turns.Memory) b ⊎ IsDrained a seats b
