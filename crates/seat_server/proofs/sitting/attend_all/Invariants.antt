use Rattle.seat_server.specs.Sessions.{IsSeated}
use Rattle.seat_server.proofs.sitting.attend_all.Given as goal

-- the seat was served so far, and so the last session ended
abbrev pub invariant-loop : goal.invariant-loop
invariant-loop g l = IsSeated l.fn.seat l.last l.left
