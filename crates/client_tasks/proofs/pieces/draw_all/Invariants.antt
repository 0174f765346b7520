use Rattle.std.proofs.Common.{length, Result}
use Rattle.client_session.specs.declared.outcome.Outcome.{Outcome}
use Rattle.client_session.specs.declared.fault.CommandFault.{CommandFault}
use Rattle.client_session.specs.Moment.{Moment}
use Rattle.client_tasks.specs.Opening.{DrawsAll}
use Rattle.client_tasks.proofs.pieces.draw_all.Given as goal

abbrev pub decreases-loop-rest : goal.decreases-loop-rest
decreases-loop-rest g l = length l.rest

-- what is left to be drawn makes the drawing of all
abbrev pub invariant-loop-rest : goal.invariant-loop-rest
invariant-loop-rest g l = (n : Moment) (result : Result Outcome CommandFault)
    → DrawsAll l.part l.rest l.client n result
    → DrawsAll l.part l.cells l.fn.client n result
