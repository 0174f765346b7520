use Rattle.export.proofs.counting.Tally.+add.Given as goal

abbrev pub decreases-add : goal.decreases-add
decreases-add l = l.above
