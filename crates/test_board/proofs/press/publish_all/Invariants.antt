use Rattle.std.proofs.Common.{◌≡◌}
use Rattle.test_board.proofs.press.publish_all.Given as goal

-- it is the same board
abbrev pub invariant-loop-i : goal.invariant-loop-i
invariant-loop-i g l = l.press.publisher.origin ≡ l.fn.press.publisher.origin
