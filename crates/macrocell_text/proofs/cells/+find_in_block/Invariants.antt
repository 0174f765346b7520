use Rattle.macrocell_text.proofs.cells.+find_in_block.Given as goal

abbrev pub decreases-find_in_block : goal.decreases-find_in_block
decreases-find_in_block l = l.block.level
