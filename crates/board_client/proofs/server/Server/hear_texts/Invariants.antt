use Rattle.board_client.specs.Hearing.{AreHeard}
use Rattle.board_client.proofs.server.Server.hear_texts.Given as goal

-- so many texts were heard and taken
abbrev pub invariant-loop-text : goal.invariant-loop-text
invariant-loop-text g l = AreHeard l._text l.fn.self l.self l.fn.replica l.replica
