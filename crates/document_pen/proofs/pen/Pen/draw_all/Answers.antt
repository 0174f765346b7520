use Rattle.std.proofs.Common.{arith}
use Rattle.document_pen.proofs.PenLaws.{drawn_last, drawn_not, drawn_on}
use Rattle.document_pen.proofs.pen.Pen.draw_all.Goals as goal

pub loop-rest-preserved : goal.loop-rest-preserved
loop-rest-preserved g c =
    drawn_on _ _ _ _ _ c.loop-rest.invariant _ _ _ (omega (arith, c.loop-rest-test.true)) c.split_at.ensures.front c.split_at.ensures.back (rw c.in-Ok-Drawn.field-0-is at c.in-Ok-Drawn.ensures)

pub returns-in-Ok-Refused : goal.returns-in-Ok-Refused
returns-in-Ok-Refused g c =
    drawn_not _ _ _ _ _ c.loop-rest.invariant _ _ _ (omega (arith, c.loop-rest-test.true)) c.split_at.ensures.front (rw c.in-Ok-Refused.field-0-is at c.in-Ok-Refused.ensures) tt

pub returns-in-Err : goal.returns-in-Err
returns-in-Err g c =
    drawn_not _ _ _ _ _ c.loop-rest.invariant _ _ _ (omega (arith, c.loop-rest-test.true)) c.split_at.ensures.front c.in-Err.ensures tt

pub returns : goal.returns
returns g c = drawn_last _ _ _ _ _ c.loop-rest.invariant _ _ (omega (arith, c.loop-rest-test.false)) c.draw_some-2.ensures
