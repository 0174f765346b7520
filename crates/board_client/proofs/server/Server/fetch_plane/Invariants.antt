use Rattle.std.proofs.Common.{◌≡◌}
use Rattle.board_client.specs.Pieces.{pieces_request}
use Rattle.board_client.specs.Refusal.{IsMomentaryPollRefusal}
use Rattle.board_client.specs.Tries.{IsRefused}
use Rattle.board_client.proofs.server.Server.fetch_plane.Given as goal

-- the plane in pieces was refused for a moment so often
abbrev pub invariant-loop-tried : goal.invariant-loop-tried
invariant-loop-tried g l = IsRefused IsMomentaryPollRefusal pieces_request l._tried l.fn.self l.self × (l.replica ≡ l.fn.replica)
