use Rattle.trial_calls.proofs.draw.states.+push_square.Given as goal

abbrev pub decreases-push_square : goal.decreases-push_square
decreases-push_square l = l.above
