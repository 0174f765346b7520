use Rattle.std.proofs.Common.{◌≡◌}
use Rattle.board_client.specs.Pieces.{ArePiecesHeard}
use Rattle.board_client.proofs.server.Server.put_together.Given as goal

-- so many pieces were heard, and are put together
abbrev pub invariant-loop-frame : goal.invariant-loop-frame
invariant-loop-frame g l = ArePiecesHeard (λ whole. l.text.items ≡ whole) l._frame l.fn.self l.self
