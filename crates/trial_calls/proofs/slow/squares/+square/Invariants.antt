use Rattle.trial_calls.proofs.slow.squares.+square.Given as goal

abbrev pub decreases-square : goal.decreases-square
decreases-square l = l.above
