use Rattle.board_client.specs.Pushing.{IsMomentaryPushRefusal}
use Rattle.board_client.specs.Tries.{IsRefused}
use Rattle.board_client.proofs.server.Server.push_again.Given as goal

-- the request was refused for a moment so often
abbrev pub invariant-loop-tried : goal.invariant-loop-tried
invariant-loop-tried g l = IsRefused IsMomentaryPushRefusal l.request l._tried l.fn.self l.self
