use Rattle.macrocell_text.proofs.cells.+find.Given as goal

abbrev pub decreases-find : goal.decreases-find
decreases-find l = l.standing.before
