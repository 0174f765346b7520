use Rattle.std.proofs.Common.{◌≡◌, ◌<◌, ℕ, Some, slice_get}
use Rattle.relay_board.specs.Seating.{Seating}
use Rattle.relay_board.proofs.finish.in_order.Given as goal

abbrev pub invariant-loop-k : goal.invariant-loop-k
invariant-loop-k g l = (j : ℕ) → j < l.k → (s : Seating) → slice_get l.seats j ≡ Some s → s.place ≡ j
