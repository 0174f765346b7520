use Rattle.std.proofs.Common.{ℕ}
use Rattle.board_keeper.specs.Working.{GoReady}
use Rattle.board_keeper.proofs.keeper.filled.Given as goal

-- so many entries were made ready
abbrev pub invariant-loop : goal.invariant-loop
invariant-loop g l = (entries : ℕ) × GoReady entries l.fn.relay l.relay
