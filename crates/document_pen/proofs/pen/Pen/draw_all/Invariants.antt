use Rattle.std.proofs.Common.{length, Result}
use Rattle.document_pen.specs.declared.pen.Outcome.{Outcome}
use Rattle.document_pen.specs.declared.fault.PenFault.{PenFault}
use Rattle.document_pen.specs.Opening.{DrawsAll}
use Rattle.document_pen.specs.Pen.{PenState}
use Rattle.document_pen.proofs.pen.Pen.draw_all.Given as goal

abbrev pub decreases-loop-rest : goal.decreases-loop-rest
decreases-loop-rest g l = length l.rest

-- what is left to be drawn makes the drawing of all
abbrev pub invariant-loop-rest : goal.invariant-loop-rest
invariant-loop-rest g l = (n : PenState) (result : Result Outcome PenFault)
    → DrawsAll l.after l.rest l.self n result
    → DrawsAll l.after l.cells l.fn.self n result
