use Rattle.std.proofs.Common.{◌≡◌, ◌+◌}
use Rattle.board_keeper.specs.Working.{ShowsSome}
use Rattle.board_keeper.proofs.keeper.Keeper.show_all.Given as goal

-- so many are shown, and as many fewer are left
abbrev pub invariant-loop-shown : goal.invariant-loop-shown
invariant-loop-shown g l = ShowsSome l.fn.self l.shown l.self × (l.self.committed + l.shown ≡ l.fn.self.committed)
