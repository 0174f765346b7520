use Rattle.board_client.specs.Greeting.{IsMomentaryGreetingRefusal, hello_request}
use Rattle.board_client.specs.Tries.{IsRefused}
use Rattle.board_client.proofs.server.Server.greet.Given as goal

-- the greeting was refused for a moment so often
abbrev pub invariant-loop-tried : goal.invariant-loop-tried
invariant-loop-tried g l = IsRefused IsMomentaryGreetingRefusal hello_request l._tried l.fn.self l.self
