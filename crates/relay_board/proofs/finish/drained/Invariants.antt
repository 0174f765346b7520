use Rattle.std.proofs.Common.{ℕ}
use mathlib.Core.List.{IsPrefix}
use Rattle.relay_board.specs.Same.{Same}
use Rattle.relay_board.specs.Turns.{GoOn}
use Rattle.relay_board.proofs.finish.drained.Given as goal

-- some turns were taken, none of which failed
abbrev pub invariant-loop : goal.invariant-loop
invariant-loop g l = Same l.fn.relay l.relay × IsPrefix l.fn.relay.list l.relay.list × ((turns : ℕ) × GoOn turns l.fn.relay l.relay)
