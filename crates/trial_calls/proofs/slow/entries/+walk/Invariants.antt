use Rattle.trial_calls.proofs.slow.entries.+walk.Given as goal

abbrev pub decreases-walk : goal.decreases-walk
decreases-walk l = l.above
