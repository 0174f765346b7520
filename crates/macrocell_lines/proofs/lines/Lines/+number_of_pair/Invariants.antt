use Rattle.macrocell_lines.proofs.lines.Lines.+number_of_pair.Given as goal

abbrev pub decreases-number_of_pair : goal.decreases-number_of_pair
decreases-number_of_pair l = l.pair.level
