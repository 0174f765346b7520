use Rattle.macrocell_text.proofs.block.+block_count.Given as goal

abbrev pub decreases-block_count : goal.decreases-block_count
decreases-block_count l = l.block.level
