use Rattle.std.proofs.Common.{◌<◌, ◌≤◌, ◌^◌, ℕ, [], length, slice_index_or}
use Rattle.inbox.specs.Hands.{of}
use Rattle.relay_board.specs.Seating.{mines_of}
use Rattle.relay_board.proofs.relay.Relay.has_all.Given as goal

abbrev pub invariant-loop-k : goal.invariant-loop-k
invariant-loop-k g l = (j : ℕ) → j < l.k → (length (slice_index_or (mines_of l.seats) j []) ≤ length (of j l.self.list)) × (length (slice_index_or (mines_of l.seats) j []) < 2 ^ 64)
