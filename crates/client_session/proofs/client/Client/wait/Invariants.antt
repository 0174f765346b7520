use Rattle.client_session.specs.Waiting.{AreInVain}
use Rattle.client_session.proofs.client.Client.wait.Given as goal

-- so many polls were in vain
abbrev pub invariant-loop-turn : goal.invariant-loop-turn
invariant-loop-turn g l = AreInVain l.awaited l._turn l.fn.self l.self
