use Rattle.std.proofs.Common.{◌≡◌, ◌<◌, ℕ, Some, slice_get}
use mathlib.Core.List.{IsPrefix}
use Rattle.board.specs.Origins.{list_of}
use Rattle.relay_board.specs.Seating.{Seating}
use Rattle.relay_board.proofs.finish.begins_with_all.Given as goal

abbrev pub invariant-loop-k : goal.invariant-loop-k
invariant-loop-k g l = (j : ℕ) → j < l.k → (s : Seating) → slice_get l.seats j ≡ Some s → IsPrefix s.seen (list_of l.front)
