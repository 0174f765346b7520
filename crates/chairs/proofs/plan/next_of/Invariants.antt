use Rattle.chairs.proofs.TurnLaws.{IsFound}
use Rattle.chairs.proofs.plan.next_of.Given as goal

-- the chair whose turn comes first among those that were looked at
abbrev pub invariant-loop-at : goal.invariant-loop-at
invariant-loop-at l = IsFound l.now l.chairs l.at l.next
