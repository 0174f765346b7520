use Rattle.macrocell_lines.proofs.lines.Lines.+number_of_block.Given as goal

abbrev pub decreases-number_of_block : goal.decreases-number_of_block
decreases-number_of_block l = l.block.level
