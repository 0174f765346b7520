use Rattle.std.proofs.Common.{◌≡◌, ℕ}
use Rattle.relay_board.specs.Same.{Same}
use Rattle.board_keeper.specs.Steps.{AreSteps}
use Rattle.board_keeper.proofs.keeper.Keeper.drain.Given as goal

-- some turns were taken, none of which failed
abbrev pub invariant-loop : goal.invariant-loop
invariant-loop g l = record {
  same : Same l.fn.self.relay l.self.relay × (l.self.rule ≡ l.fn.self.rule);
  steps : (steps : ℕ) × AreSteps steps l.fn.self l.self;
}
