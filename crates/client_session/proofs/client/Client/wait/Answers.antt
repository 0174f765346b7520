use Rattle.std.proofs.Common.{arith}
use Rattle.client_session.proofs.WaitLaws.{vain_on, wait_enough, wait_late, wait_refused, wait_whole}
use Rattle.client_session.proofs.client.Client.wait.Goals as goal

pub returns-in-Ok-Whole : goal.returns-in-Ok-Whole
returns-in-Ok-Whole g c = wait_whole _ _ _ _ _ c.loop-turn.invariant (rw c.in-Ok-Whole.field-0-is at c.in-Ok-Whole.ensures)

pub returns-in-Ok-Refused : goal.returns-in-Ok-Refused
returns-in-Ok-Refused g c = wait_refused _ _ _ _ _ c.loop-turn.invariant (rw c.in-Ok-Refused.field-0-is at c.in-Ok-Refused.ensures)

pub returns-then-others-awaited : goal.returns-then-others-awaited
returns-then-others-awaited g c =
    wait_enough _ _ _ _ _ _ _ c.loop-turn.invariant (rw c.in-Ok-Edits.field-0-is at c.in-Ok-Edits.ensures) (omega (arith, c.others.ensures, c.if-others-awaited.true)) c.tell_count.ensures

pub returns-in_default : goal.returns-in_default
returns-in_default g c =
    wait_late _ _ _ _ _ _ (vain_on _ _ _ _ _ c.loop-turn.invariant (rw c.in-Ok-Edits.field-0-is at c.in-Ok-Edits.ensures) (omega (arith, c.others.ensures, c.if-others-awaited.false))) (omega arith)
    c.tell_late.ensures

pub loop-turn-preserved : goal.loop-turn-preserved
loop-turn-preserved g c =
    vain_on _ _ _ _ _ c.loop-turn.invariant (rw c.in-Ok-Edits.field-0-is at c.in-Ok-Edits.ensures) (omega (arith, c.others.ensures, c.if-others-awaited.false))
